-- The printed text has the tokens that are printed: blocks, data and modules.
use Rattle.std.proofs.Common.{◌≡◌, ℕ, zero, suc, List, [], ◌∷◌, ◌++◌, Bool, true, false, cond, ◌&&◌, ◌||◌, not, eqb, Option, Some, None, refl, sym, ap, subst, append_assoc, append-nil, codes, decimal, map}
use Rattle.std.specs.List.{list_all, flat_map}
use Rattle.std.proofs.lemmas.Bool.{and_parts, false≢true}
use Rattle.hx_base.specs.declared.Class.{Class}
use Rattle.il_code.specs.declared.types.IlItem.{IlItem}
use Rattle.il_code.specs.declared.types.IlItem.TheVariants.{Data, Function}
use Rattle.il_code.specs.declared.types.Module.{Module}
use Rattle.il_code.specs.declared.types.Part.{Part}
use Rattle.il_code.specs.declared.types.Part.TheVariants.{Values, Zero}
use Rattle.il_code.specs.declared.types.PartValue.{PartValue}
use Rattle.il_code.specs.declared.types.PartValue.TheVariants as part
use Rattle.il_code.specs.declared.types.Block.{Block}
use Rattle.il_code.specs.Print.{class_text, value_text, target_text, param_text, arg_text, behind_commas, with_commas, second_text, result_text, store_word, inst_text, phi_arg_text, phi_text, returned_text, jump_text, block_text, part_value_text, width_text, part_text, parts_text, export_text, result_class_text, signature_text, item_text, module_text}
use Rattle.il_code.specs.Print as print
use Rattle.il_code.specs.Tokens.{IlToken, Word, SymbolName, Numeral, Quoted, Mark, LineEnd, is_identifier, Tokens}
use Rattle.il_code.specs.Grammar.{Pattern, never, both, either, usual_lines, row, behind_comma, listed, parts_behind, class_pattern, param_pattern, inst_pattern, phi_pattern, on_line, jump_pattern, block_pattern, blocks_pattern, result_class_pattern, spaced, part_value_pattern, width_pattern, values_pattern, part_pattern, parts_pattern, align_pattern, export_pattern, item_pattern, module_pattern}
use Rattle.il_code.specs.Shaped.{is_param, is_width, is_inst, some, is_phi, falls, is_block, ends, is_part_value, is_part, is_item, is_shaped}
use Rattle.il_code.proofs.Possible.{can, printed}
use Rattle.il_code.proofs.TokensOfCode.{as_is, phi_line_at, inst_line_at, jump_at}
use Rattle.il_code.proofs.TokensOf.{Stops, space_at, word_at, symbol_at, label_at, number_at, mark_at, line_at, quoted_at, class_at, param_at, stops_behind, behind_at, listed_at, row_at}

-- ---- blocks

block_is : (b : Block) (rest : List ℕ) → block_text b ++ rest ≡
    64 ∷ (b.label ++ 10 ∷ (flat_map (λ p. print.on_line (phi_text p)) b.phis ++
    (flat_map (λ i. print.on_line (inst_text i)) b.insts ++ (jump_text b.jump ++ rest))))
block_is b rest = regroup b.label (flat_map (λ p. print.on_line (phi_text p)) b.phis) (flat_map (λ i. print.on_line (inst_text i)) b.insts)
    (jump_text b.jump) rest
  where
    regroup : (l ps is j rest : List ℕ) → (((((codes "@" ++ l) ++ codes "\n") ++ ps) ++ is) ++ j) ++ rest ≡
        64 ∷ (l ++ 10 ∷ (ps ++ (is ++ (j ++ rest))))
    regroup l ps is j rest = simp append_assoc

block_at : (last : Bool) (b : Block) (rest : List ℕ) (ts : List IlToken) → is_block b ≡ true → (last && falls b.jump) ≡ false →
    Tokens rest ts → Tokens (block_text b ++ rest) (printed (block_pattern last b) ts)
block_at last b rest ts h e more =
    let k = and_parts _ _ h in
    let j = and_parts _ _ k.1 in
    let i = and_parts _ _ j.1 in
    let t3 = printed (jump_pattern last b.jump) ts in
    let r3 = jump_text b.jump ++ rest in
    let jump = jump_at last b.jump rest ts i.1 e more in
    let t2 = printed (row (map (λ x. on_line (inst_pattern x)) b.insts)) t3 in
    let r2 = flat_map (λ x. print.on_line (inst_text x)) b.insts ++ r3 in
    let insts : Tokens r2 t2 = row_at (λ x. print.on_line (inst_text x)) (λ x. on_line (inst_pattern x)) is_inst inst_line_at b.insts r3 t3
    i.0 jump in
    let t1 = printed (row (map (λ x. on_line (phi_pattern x)) b.phis)) t2 in
    let r1 = flat_map (λ x. print.on_line (phi_text x)) b.phis ++ r2 in
    let phis : Tokens r1 t1 = row_at (λ x. print.on_line (phi_text x)) (λ x. on_line (phi_pattern x)) is_phi phi_line_at b.phis r2 t2 j.0
    insts in
    as_is (printed (block_pattern last b) ts) (block_is b rest) (label_at b.label (10 ∷ r1) (LineEnd ∷ t1) k.0 refl (line_at r1 t1 phis))

not_true : (b : Bool) → not b ≡ true → b ≡ false
not_true true h = absurd (false≢true h)
not_true false h = refl

blocks_at : (bs : List Block) (rest : List ℕ) (ts : List IlToken) → list_all is_block bs ≡ true → ends bs ≡ true → Tokens rest ts →
    Tokens (flat_map block_text bs ++ rest) (printed (blocks_pattern bs) ts)
blocks_at [] rest ts h e more = absurd (false≢true e)
blocks_at (b ∷ []) rest ts h e more = as_is (printed (blocks_pattern (b ∷ [])) ts) (append_assoc (block_text b) [] rest)
    (block_at true b rest ts (and_parts (is_block b) true h).0 (not_true (falls b.jump) e) more)
blocks_at (b ∷ c ∷ bs) rest ts h e more =
    let k = and_parts (is_block b) (list_all is_block (c ∷ bs)) h in
    let after = blocks_at (c ∷ bs) rest ts k.1 e more in
    as_is (printed (blocks_pattern (b ∷ c ∷ bs)) ts) (append_assoc (block_text b) (flat_map block_text (c ∷ bs)) rest)
    (block_at false b (flat_map block_text (c ∷ bs) ++ rest) (printed (blocks_pattern (c ∷ bs)) ts) k.0 refl after)

-- ---- data

string_is : (s rest : List ℕ) → part_value_text (part.Str s) ++ rest ≡ 32 ∷ 34 ∷ (s ++ 34 ∷ rest)
string_is s rest = simp append_assoc

offset_is : (s : List ℕ) (n : ℕ) (rest : List ℕ) →
    part_value_text (part.Symbol s (suc n)) ++ rest ≡ 32 ∷ 36 ∷ (s ++ 32 ∷ 43 ∷ 32 ∷ (decimal (suc n) ++ rest))
offset_is s n rest = simp append_assoc

part_value_at : (v : PartValue) (rest : List ℕ) (ts : List IlToken) → is_part_value v ≡ true → Stops rest → Tokens rest ts →
    Tokens (part_value_text v ++ rest) (printed (part_value_pattern v) ts)
part_value_at (part.Number n) rest ts h stop more = space_at (decimal n ++ rest) (Numeral n ∷ ts) (number_at n rest ts h stop more)
part_value_at (part.Str s) rest ts h stop more =
    as_is (Quoted s ∷ ts) (string_is s rest) (space_at (34 ∷ (s ++ 34 ∷ rest)) (Quoted s ∷ ts) (quoted_at s rest ts h more))
part_value_at (part.Symbol s zero) rest ts h stop more =
    space_at (36 ∷ (s ++ rest)) (SymbolName s ∷ ts) (symbol_at s rest ts (and_parts _ _ h).0 stop more)
part_value_at (part.Symbol s (suc n)) rest ts h stop more =
    let k = and_parts _ _ h in
    let number = space_at (decimal (suc n) ++ rest) (Numeral (suc n) ∷ ts) (number_at (suc n) rest ts k.1 stop more) in
    let plus = mark_at 43 (32 ∷ (decimal (suc n) ++ rest)) (Numeral (suc n) ∷ ts) refl refl number in
    let name = symbol_at s (32 ∷ 43 ∷ 32 ∷ (decimal (suc n) ++ rest)) (Mark 43 ∷ Numeral (suc n) ∷ ts) k.0 refl
    (space_at (43 ∷ 32 ∷ (decimal (suc n) ++ rest)) (Mark 43 ∷ Numeral (suc n) ∷ ts) plus) in
    as_is (SymbolName s ∷ Mark 43 ∷ Numeral (suc n) ∷ ts) (offset_is s n rest)
    (space_at (36 ∷ (s ++ 32 ∷ 43 ∷ 32 ∷ (decimal (suc n) ++ rest))) (SymbolName s ∷ Mark 43 ∷ Numeral (suc n) ∷ ts) name)

values_stop : (vs : List PartValue) (rest : List ℕ) → Stops rest → Stops (flat_map part_value_text vs ++ rest)
values_stop [] rest stop = stop
values_stop (part.Number n ∷ vs) rest stop = refl
values_stop (part.Str s ∷ vs) rest stop = refl
values_stop (part.Symbol s zero ∷ vs) rest stop = refl
values_stop (part.Symbol s (suc n) ∷ vs) rest stop = refl

values_row_at : (vs : List PartValue) (rest : List ℕ) (ts : List IlToken) → list_all is_part_value vs ≡ true → Stops rest → Tokens rest ts →
    Tokens (flat_map part_value_text vs ++ rest) (printed (row (map part_value_pattern vs)) ts)
values_row_at [] rest ts h stop more = more
values_row_at (v ∷ vs) rest ts h stop more =
    let k = and_parts (is_part_value v) (list_all is_part_value vs) h in
    let after = values_row_at vs rest ts k.1 stop more in
    as_is (printed (row (map part_value_pattern (v ∷ vs))) ts) (append_assoc (part_value_text v) (flat_map part_value_text vs) rest)
    (part_value_at v (flat_map part_value_text vs ++ rest) (printed (row (map part_value_pattern vs)) ts) k.0 (values_stop vs rest stop)
    after)

values_at : (vs : List PartValue) (rest : List ℕ) (ts : List IlToken) → (some vs && list_all is_part_value vs) ≡ true → Stops rest →
    Tokens rest ts → Tokens (flat_map part_value_text vs ++ rest) (printed (values_pattern vs) ts)
values_at [] rest ts h stop more = absurd (false≢true h)
values_at (v ∷ vs) rest ts h stop more = values_row_at (v ∷ vs) rest ts h stop more

-- one of four letters, where one of four tests holds
letter_at : (a b c d : Bool) (p q r s rest : List ℕ) (ts : List IlToken) → (a || b || c || d) ≡ true → is_identifier p ≡ true →
    is_identifier q ≡ true → is_identifier r ≡ true → is_identifier s ≡ true → Stops rest → Tokens rest ts →
    Tokens (cond a p (cond b q (cond c r s)) ++ rest)
    (printed (cond a (spaced (Word p)) (cond b (spaced (Word q)) (cond c (spaced (Word r)) (cond d (spaced (Word s)) never)))) ts)
letter_at true b c d p q r s rest ts h hp hq hr hs stop more = word_at p rest ts hp stop more
letter_at false true c d p q r s rest ts h hp hq hr hs stop more = word_at q rest ts hq stop more
letter_at false false true d p q r s rest ts h hp hq hr hs stop more = word_at r rest ts hr stop more
letter_at false false false true p q r s rest ts h hp hq hr hs stop more = word_at s rest ts hs stop more
letter_at false false false false p q r s rest ts h hp hq hr hs stop more = absurd (false≢true h)

width_at : (width : ℕ) (rest : List ℕ) (ts : List IlToken) → is_width width ≡ true → Stops rest → Tokens rest ts →
    Tokens (width_text width ++ rest) (printed (width_pattern width) ts)
width_at width rest ts h stop more = letter_at (eqb width 1) (eqb width 2) (eqb width 4) (eqb width 8) (codes "b") (codes "h") (codes "w")
    (codes "l") rest ts h refl refl refl refl stop more

part_at : (p : Part) (rest : List ℕ) (ts : List IlToken) → is_part p ≡ true → Stops rest → Tokens rest ts →
    Tokens (part_text p ++ rest) (printed (part_pattern p) ts)
part_at (Values width vs) rest ts h stop more =
    let k = and_parts (is_width width) (some vs && list_all is_part_value vs) h in
    let values = values_at vs rest ts k.1 stop more in
    as_is (printed (part_pattern (Values width vs)) ts) (append_assoc (width_text width) (flat_map part_value_text vs) rest)
    (width_at width (flat_map part_value_text vs ++ rest) (printed (values_pattern vs) ts) k.0 (values_stop vs rest stop) values)
part_at (Zero n) rest ts h stop more = word_at (codes "z") (32 ∷ (decimal n ++ rest)) (Numeral n ∷ ts) refl refl
    (space_at (decimal n ++ rest) (Numeral n ∷ ts) (number_at n rest ts h stop more))

printed_parts : (ps : List Pattern) (ts : List IlToken) → printed (parts_behind ps) ts ≡ printed (behind_comma ps) ts
printed_parts [] ts = refl
printed_parts (p ∷ ps) ts = ap (λ z. Mark 44 ∷ printed p z) (printed_parts ps ts)

parts_at : (p : Part) (ps : List Part) (rest : List ℕ) (ts : List IlToken) → list_all is_part (p ∷ ps) ≡ true → Stops rest →
    Tokens rest ts → Tokens (with_commas part_text (p ∷ ps) ++ rest) (printed (parts_pattern (p ∷ ps)) ts)
parts_at p ps rest ts h stop more =
    let k = and_parts (is_part p) (list_all is_part ps) h in
    let after = behind_at part_text part_pattern is_part part_at ps rest ts k.1 stop more in
    let same = subst (λ z. Tokens (behind_commas part_text ps ++ rest) z) (sym (printed_parts (map part_pattern ps) ts)) after in
    as_is (printed (parts_pattern (p ∷ ps)) ts) (append_assoc (part_text p) (behind_commas part_text ps) rest)
    (part_at p (behind_commas part_text ps ++ rest) (printed (parts_behind (map part_pattern ps)) ts) k.0
    (stops_behind part_text ps rest stop) same)

braces_is : (xs rest : List ℕ) → ((codes "{ " ++ xs) ++ codes " }") ++ rest ≡ 123 ∷ 32 ∷ (xs ++ 32 ∷ 125 ∷ rest)
braces_is xs rest = simp append_assoc

braces_at : (ps : List Part) (rest : List ℕ) (ts : List IlToken) → list_all is_part ps ≡ true → Tokens rest ts →
    Tokens (parts_text ps ++ rest) (Mark 123 ∷ printed (parts_pattern ps) (Mark 125 ∷ ts))
braces_at [] rest ts h more = mark_at 123 (32 ∷ 125 ∷ rest) (Mark 125 ∷ ts) refl refl
    (space_at (125 ∷ rest) (Mark 125 ∷ ts) (mark_at 125 rest ts refl refl more))
braces_at (p ∷ ps) rest ts h more =
    let close = space_at (125 ∷ rest) (Mark 125 ∷ ts) (mark_at 125 rest ts refl refl more) in
    let t1 = printed (parts_pattern (p ∷ ps)) (Mark 125 ∷ ts) in
    let r1 = with_commas part_text (p ∷ ps) ++ 32 ∷ 125 ∷ rest in
    let inner : Tokens r1 t1 = parts_at p ps (32 ∷ 125 ∷ rest) (Mark 125 ∷ ts) h refl close in
    as_is (Mark 123 ∷ t1) (braces_is (with_commas part_text (p ∷ ps)) rest) (mark_at 123 (32 ∷ r1) t1 refl refl (space_at r1 t1 inner))

-- ---- items

export_at : (e : Bool) (rest : List ℕ) (ts : List IlToken) → Tokens rest ts → Tokens (export_text e ++ rest) (printed (export_pattern e) ts)
export_at true rest ts more = word_at (codes "export") (32 ∷ rest) ts refl refl (space_at rest ts more)
export_at false rest ts more = more

result_class_at : (c : Option Class) (rest : List ℕ) (ts : List IlToken) → Tokens rest ts →
    Tokens (result_class_text c ++ rest) (printed (result_class_pattern c) ts)
result_class_at None rest ts more = more
result_class_at (Some c) rest ts more = as_is (printed (class_pattern c) ts) (append_assoc (class_text c) (codes " ") rest)
    (class_at c (32 ∷ rest) ts refl (space_at rest ts more))

align_by : (b : Bool) (p q : Pattern) (ts : List IlToken) → can p ≡ true → printed (cond b (either p q) p) ts ≡ printed p ts
align_by true p q ts h = rw h refl
align_by false p q ts h = refl

data_is : (e name d ps rest : List ℕ) → ((((((e ++ codes "data $") ++ name) ++ codes " = align ") ++ d) ++ codes " ") ++ ps ++ codes "\n")
    ++ rest ≡ e ++ (codes "data" ++ 32 ∷ 36 ∷ (name ++ 32 ∷ 61 ∷ 32 ∷ (codes "align" ++ 32 ∷ (d ++ 32 ∷ (ps ++ 10 ∷ rest)))))
data_is e name d ps rest = simp append_assoc

function_is : (e c name ps bs rest : List ℕ) →
    ((((e ++ (((((codes "function " ++ c) ++ codes "$") ++ name) ++ codes "(") ++ ps ++ codes ")")) ++ codes " {\n") ++ bs) ++ codes "}\n")
    ++ rest ≡ e ++ (codes "function" ++ 32 ∷ (c ++ 36 ∷ (name ++ 40 ∷ (ps ++ 41 ∷ 32 ∷ 123 ∷ 10 ∷ (bs ++ 125 ∷ 10 ∷ rest)))))
function_is e c name ps bs rest = simp append_assoc

item_at : (i : IlItem) (rest : List ℕ) (ts : List IlToken) → is_item i ≡ true → Tokens rest ts →
    Tokens (item_text i ++ rest) (printed (both (item_pattern i) usual_lines) ts)
item_at (Data export name align parts) rest ts h more =
    let k = and_parts _ _ h in
    let j = and_parts _ _ k.1 in
    let t3 = Mark 123 ∷ printed (parts_pattern parts) (Mark 125 ∷ LineEnd ∷ ts) in
    let r3 = parts_text parts ++ 10 ∷ rest in
    let braces : Tokens r3 t3 = braces_at parts (10 ∷ rest) (LineEnd ∷ ts) j.1 (line_at rest ts more) in
    let number = number_at align (32 ∷ r3) t3 j.0 refl (space_at r3 t3 braces) in
    let word : Tokens (codes "align" ++ 32 ∷ (decimal align ++ 32 ∷ r3)) (Word (codes "align") ∷ Numeral align ∷ t3) =
    word_at (codes "align") (32 ∷ (decimal align ++ 32 ∷ r3)) (Numeral align ∷ t3) refl refl
    (space_at (decimal align ++ 32 ∷ r3) (Numeral align ∷ t3) number) in
    let t2 = printed (align_pattern align) t3 in
    let r2 = codes "align" ++ 32 ∷ (decimal align ++ 32 ∷ r3) in
    let aligned : Tokens r2 t2 = subst (λ z. Tokens r2 z) (sym (align_by (eqb align 8) _ _ t3 j.0)) word in
    let equals = mark_at 61 (32 ∷ r2) t2 refl refl (space_at r2 t2 aligned) in
    let symbol = symbol_at name (32 ∷ 61 ∷ 32 ∷ r2) (Mark 61 ∷ t2) k.0 refl (space_at (61 ∷ 32 ∷ r2) (Mark 61 ∷ t2) equals) in
    let keyword = word_at (codes "data") (32 ∷ 36 ∷ (name ++ 32 ∷ 61 ∷ 32 ∷ r2)) (SymbolName name ∷ Mark 61 ∷ t2) refl refl
    (space_at (36 ∷ (name ++ 32 ∷ 61 ∷ 32 ∷ r2)) (SymbolName name ∷ Mark 61 ∷ t2) symbol) in
    as_is (printed (both (item_pattern (Data export name align parts)) usual_lines) ts)
    (data_is (export_text export) name (decimal align) (parts_text parts) rest)
    (export_at export (codes "data" ++ 32 ∷ 36 ∷ (name ++ 32 ∷ 61 ∷ 32 ∷ r2)) (Word (codes "data") ∷ SymbolName name ∷ Mark 61 ∷ t2)
    keyword)
item_at (Function export class name params blocks) rest ts h more =
    let k = and_parts _ _ h in
    let j = and_parts _ _ k.1 in
    let b = and_parts _ _ j.1 in
    let close = mark_at 125 (10 ∷ rest) (LineEnd ∷ ts) refl refl (line_at rest ts more) in
    let t4 = printed (blocks_pattern blocks) (Mark 125 ∷ LineEnd ∷ ts) in
    let r4 = flat_map block_text blocks ++ 125 ∷ 10 ∷ rest in
    let body : Tokens r4 t4 = blocks_at blocks (125 ∷ 10 ∷ rest) (Mark 125 ∷ LineEnd ∷ ts) b.0 b.1 close in
    let open_ = mark_at 123 (10 ∷ r4) (LineEnd ∷ t4) refl refl (line_at r4 t4 body) in
    let t3 = Mark 41 ∷ Mark 123 ∷ LineEnd ∷ t4 in
    let r3 = 41 ∷ 32 ∷ 123 ∷ 10 ∷ r4 in
    let paren : Tokens r3 t3 = mark_at 41 (32 ∷ 123 ∷ 10 ∷ r4) (Mark 123 ∷ LineEnd ∷ t4) refl refl
    (space_at (123 ∷ 10 ∷ r4) (Mark 123 ∷ LineEnd ∷ t4) open_) in
    let t2 = printed (listed (map param_pattern params)) t3 in
    let r2 = with_commas param_text params ++ r3 in
    let list : Tokens r2 t2 = listed_at param_text param_pattern is_param param_at params r3 t3 j.0 refl paren in
    let symbol = symbol_at name (40 ∷ r2) (Mark 40 ∷ t2) k.0 refl (mark_at 40 r2 t2 refl refl list) in
    let t1 = printed (result_class_pattern class) (SymbolName name ∷ Mark 40 ∷ t2) in
    let r1 = result_class_text class ++ 36 ∷ (name ++ 40 ∷ r2) in
    let result : Tokens r1 t1 = result_class_at class (36 ∷ (name ++ 40 ∷ r2)) (SymbolName name ∷ Mark 40 ∷ t2) symbol in
    let keyword = word_at (codes "function") (32 ∷ r1) t1 refl refl (space_at r1 t1 result) in
    as_is (printed (both (item_pattern (Function export class name params blocks)) usual_lines) ts)
    (function_is (export_text export) (result_class_text class) name (with_commas param_text params) (flat_map block_text blocks) rest)
    (export_at export (codes "function" ++ 32 ∷ r1) (Word (codes "function") ∷ t1) keyword)

-- the printed text of a module has the tokens that are printed
pub module_at : (m : Module) → is_shaped m ≡ true → Tokens (module_text m) (printed (module_pattern m) [])
unfolding is_shaped
module_at m h = subst (λ z. Tokens z (printed (module_pattern m) [])) (append-nil (module_text m))
    (row_at item_text (λ i. both (item_pattern i) usual_lines) is_item item_at m.items [] [] h refl)
