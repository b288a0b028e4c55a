-- The printed text has the tokens that are printed: instructions, phis and jumps.
use Rattle.std.proofs.Common.{◌≡◌, ℕ, List, [], ◌∷◌, ◌++◌, Bool, true, false, cond, ◌&&◌, ◌||◌, eqb, Option, Some, None, refl, sym, subst, append_assoc, codes, decimal, map}
use Rattle.std.specs.List.{list_all}
use Rattle.std.proofs.lemmas.Bool.{and_parts, false≢true}
use Rattle.hx_base.specs.declared.Class.{Class}
use Rattle.il_code.specs.declared.op.IlOp.{IlOp}
use Rattle.il_code.specs.declared.types.IlParam.{IlParam}
use Rattle.il_code.specs.declared.types.Phi.{Phi}
use Rattle.il_code.specs.declared.types.PhiArg.{PhiArg}
use Rattle.il_code.specs.declared.types.IlValue.{IlValue}
use Rattle.il_code.specs.declared.types.IlArg.{IlArg}
use Rattle.il_code.specs.declared.types.Inst.{Inst}
use Rattle.il_code.specs.declared.types.Inst.TheVariants.{Set, Store, Blit, Call}
use Rattle.il_code.specs.declared.types.Jump.{Jump}
use Rattle.il_code.specs.declared.types.Jump.TheVariants.{Fall, Jmp, Jnz, Ret, Hlt}
use Rattle.il_code.specs.Words.{op_word}
use Rattle.il_code.specs.Classes.{op_kind, takes_two}
use Rattle.il_code.specs.Print.{class_text, value_text, target_text, param_text, arg_text, behind_commas, with_commas, second_text, result_text, store_word, inst_text, phi_arg_text, phi_text, returned_text, jump_text, block_text, part_value_text, width_text, part_text, parts_text, export_text, result_class_text, signature_text, item_text, module_text}
use Rattle.il_code.specs.Print as print
use Rattle.il_code.specs.Tokens.{IlToken, Word, SymbolName, LabelName, Numeral, Mark, LineEnd, is_identifier, Tokens}
use Rattle.il_code.specs.Grammar.{Pattern, never, word, listed, value_pattern, arg_pattern, op_pattern, second_pattern, result_pattern, store_pattern, inst_pattern, phi_arg_pattern, phi_args_pattern, phi_pattern, on_line, returned_pattern, jump_pattern}
use Rattle.il_code.specs.Shaped.{is_arg, is_width, is_second, is_result, is_inst, is_phi_arg, some, is_phi, is_returned, is_jump, falls}
use Rattle.il_code.proofs.Possible.{printed}
use Rattle.il_code.proofs.TokensOf.{Stops, space_at, tab_at, word_at, symbol_at, label_at, number_at, mark_at, line_at, value_at, target_at, arg_at, op_at, listed_at, commas_at}

-- ---- instructions

pub comma_at : (rest : List ℕ) (ts : List IlToken) → Tokens rest ts → Tokens (44 ∷ 32 ∷ rest) (Mark 44 ∷ ts)
comma_at rest ts more = mark_at 44 (32 ∷ rest) ts refl refl (space_at rest ts more)

second_stops : (b : Option IlValue) (rest : List ℕ) → Stops rest → Stops (second_text b ++ rest)
second_stops None rest stop = stop
second_stops (Some b) rest stop = refl

second_at : (two : Bool) (b : Option IlValue) (rest : List ℕ) (ts : List IlToken) → is_second two b ≡ true → Stops rest → Tokens rest ts →
    Tokens (second_text b ++ rest) (printed (second_pattern two b) ts)
second_at true None rest ts h stop more = absurd (false≢true h)
second_at false None rest ts h stop more = more
second_at true (Some b) rest ts h stop more =
    comma_at (value_text b ++ rest) (printed (value_pattern b) ts) (value_at b rest ts h stop more)
second_at false (Some b) rest ts h stop more = absurd (false≢true h)

result_at : (r : Option IlParam) (rest : List ℕ) (ts : List IlToken) → is_result r ≡ true → Tokens rest ts →
    Tokens (result_text r ++ rest) (printed (result_pattern r) ts)
result_at None rest ts h more = more
result_at (Some p) rest ts h more = target_at p.name p.class rest ts h more

-- one of four words, where one of four tests holds
choice_at : (a b c d : Bool) (p q r s rest : List ℕ) (ts : List IlToken) → (a || b || c || d) ≡ true → is_identifier p ≡ true →
    is_identifier q ≡ true → is_identifier r ≡ true → is_identifier s ≡ true → Stops rest → Tokens rest ts →
    Tokens (cond a p (cond b q (cond c r s)) ++ rest)
    (printed (cond a (word p) (cond b (word q) (cond c (word r) (cond d (word s) never)))) ts)
choice_at true b c d p q r s rest ts h hp hq hr hs stop more = word_at p rest ts hp stop more
choice_at false true c d p q r s rest ts h hp hq hr hs stop more = word_at q rest ts hq stop more
choice_at false false true d p q r s rest ts h hp hq hr hs stop more = word_at r rest ts hr stop more
choice_at false false false true p q r s rest ts h hp hq hr hs stop more = word_at s rest ts hs stop more
choice_at false false false false p q r s rest ts h hp hq hr hs stop more = absurd (false≢true h)

store_at : (width : ℕ) (rest : List ℕ) (ts : List IlToken) → is_width width ≡ true → Stops rest → Tokens rest ts →
    Tokens (store_word width ++ rest) (printed (store_pattern width) ts)
store_at width rest ts h stop more = choice_at (eqb width 1) (eqb width 2) (eqb width 4) (eqb width 8) (codes "storeb") (codes "storeh")
    (codes "storew") (codes "storel") rest ts h refl refl refl refl stop more

set_is : (temp : List ℕ) (class : Class) (o : IlOp) (a : IlValue) (b : Option IlValue) (rest : List ℕ) →
    inst_text (Set temp class o a b) ++ rest ≡ target_text temp class ++ (op_word o ++ 32 ∷ (value_text a ++ (second_text b ++ rest)))
set_is temp class o a b rest = simp append_assoc

store_is : (width : ℕ) (v at : IlValue) (rest : List ℕ) →
    inst_text (Store width v at) ++ rest ≡ store_word width ++ 32 ∷ (value_text v ++ 44 ∷ 32 ∷ (value_text at ++ rest))
store_is width v at rest = regroup (store_word width) (value_text v) (value_text at) rest
  where
    regroup : (w x y rest : List ℕ) → ((((w ++ codes " ") ++ x) ++ codes ", ") ++ y) ++ rest ≡ w ++ 32 ∷ (x ++ 44 ∷ 32 ∷ (y ++ rest))
    regroup w x y rest = simp append_assoc

blit_is : (from to : IlValue) (n : ℕ) (rest : List ℕ) →
    inst_text (Blit from to n) ++ rest ≡ codes "blit" ++ 32 ∷
    (value_text from ++ 44 ∷ 32 ∷ (value_text to ++ 44 ∷ 32 ∷ (decimal n ++ rest)))
blit_is from to n rest = simp append_assoc

call_is : (r : Option IlParam) (target : List ℕ) (args : List IlArg) (rest : List ℕ) →
    inst_text (Call r target args) ++ rest ≡
    result_text r ++ (codes "call" ++ 32 ∷ 36 ∷ (target ++ 40 ∷ (with_commas arg_text args ++ 41 ∷ rest)))
call_is r target args rest = regroup (result_text r) target (with_commas arg_text args) rest
  where
    regroup : (r t xs rest : List ℕ) → (((((r ++ codes "call $") ++ t) ++ codes "(") ++ xs) ++ codes ")") ++ rest ≡
        r ++ (codes "call" ++ 32 ∷ 36 ∷ (t ++ 40 ∷ (xs ++ 41 ∷ rest)))
    regroup r t xs rest = simp append_assoc

-- the tokens of another form of the text
pub as_is : {x y : List ℕ} (ts : List IlToken) → x ≡ y → Tokens y ts → Tokens x ts
as_is ts e h = subst (λ z. Tokens z ts) (sym e) h

pub inst_at : (i : Inst) (rest : List ℕ) (ts : List IlToken) → is_inst i ≡ true → Stops rest → Tokens rest ts →
    Tokens (inst_text i ++ rest) (printed (inst_pattern i) ts)
inst_at (Set temp class o a b) rest ts h stop more =
    let k = and_parts _ _ h in
    let j = and_parts _ _ k.1 in
    let two = takes_two (op_kind o) in
    let t2 = printed (second_pattern two b) ts in
    let t1 = printed (value_pattern a) t2 in
    let second = second_at two b rest ts j.1 stop more in
    let first = value_at a (second_text b ++ rest) t2 j.0 (second_stops b rest stop) second in
    let operation = op_at o (32 ∷ (value_text a ++ (second_text b ++ rest))) t1 refl
    (space_at (value_text a ++ (second_text b ++ rest)) t1 first) in
    as_is (printed (inst_pattern (Set temp class o a b)) ts) (set_is temp class o a b rest)
    (target_at temp class (op_word o ++ 32 ∷ (value_text a ++ (second_text b ++ rest))) (printed (op_pattern o) t1) k.0 operation)
inst_at (Store width v at) rest ts h stop more =
    let k = and_parts _ _ h in
    let j = and_parts _ _ k.1 in
    let t2 = printed (value_pattern at) ts in
    let t1 = printed (value_pattern v) (Mark 44 ∷ t2) in
    let second = comma_at (value_text at ++ rest) t2 (value_at at rest ts j.1 stop more) in
    let first = value_at v (44 ∷ 32 ∷ (value_text at ++ rest)) (Mark 44 ∷ t2) j.0 refl second in
    as_is (printed (inst_pattern (Store width v at)) ts) (store_is width v at rest)
    (store_at width (32 ∷ (value_text v ++ 44 ∷ 32 ∷ (value_text at ++ rest))) t1 k.0 refl
    (space_at (value_text v ++ 44 ∷ 32 ∷ (value_text at ++ rest)) t1 first))
inst_at (Blit from to n) rest ts h stop more =
    let k = and_parts _ _ h in
    let j = and_parts _ _ k.1 in
    let t2 = printed (value_pattern to) (Mark 44 ∷ Numeral n ∷ ts) in
    let t1 = printed (value_pattern from) (Mark 44 ∷ t2) in
    let third = comma_at (decimal n ++ rest) (Numeral n ∷ ts) (number_at n rest ts j.1 stop more) in
    let second = comma_at (value_text to ++ 44 ∷ 32 ∷ (decimal n ++ rest)) t2
    (value_at to (44 ∷ 32 ∷ (decimal n ++ rest)) (Mark 44 ∷ Numeral n ∷ ts) j.0 refl third) in
    let first = value_at from (44 ∷ 32 ∷ (value_text to ++ 44 ∷ 32 ∷ (decimal n ++ rest))) (Mark 44 ∷ t2) k.0 refl second in
    as_is (printed (inst_pattern (Blit from to n)) ts) (blit_is from to n rest)
    (word_at (codes "blit") (32 ∷ (value_text from ++ 44 ∷ 32 ∷ (value_text to ++ 44 ∷ 32 ∷ (decimal n ++ rest)))) t1 refl refl
    (space_at (value_text from ++ 44 ∷ 32 ∷ (value_text to ++ 44 ∷ 32 ∷ (decimal n ++ rest))) t1 first))
inst_at (Call r target args) rest ts h stop more =
    let k = and_parts _ _ h in
    let j = and_parts _ _ k.1 in
    let t2 = printed (listed (map arg_pattern args)) (Mark 41 ∷ ts) in
    let close = mark_at 41 rest ts refl refl more in
    let inner = listed_at arg_text arg_pattern is_arg arg_at args (41 ∷ rest) (Mark 41 ∷ ts) j.1 refl close in
    let open_ = mark_at 40 (with_commas arg_text args ++ 41 ∷ rest) t2 refl refl inner in
    let name = symbol_at target (40 ∷ (with_commas arg_text args ++ 41 ∷ rest)) (Mark 40 ∷ t2) j.0 refl open_ in
    let call = word_at (codes "call") (32 ∷ 36 ∷ (target ++ 40 ∷ (with_commas arg_text args ++ 41 ∷ rest)))
    (SymbolName target ∷ Mark 40 ∷ t2) refl refl
    (space_at (36 ∷ (target ++ 40 ∷ (with_commas arg_text args ++ 41 ∷ rest))) (SymbolName target ∷ Mark 40 ∷ t2) name) in
    as_is (printed (inst_pattern (Call r target args)) ts) (call_is r target args rest)
    (result_at r (codes "call" ++ 32 ∷ 36 ∷ (target ++ 40 ∷ (with_commas arg_text args ++ 41 ∷ rest)))
    (Word (codes "call") ∷ SymbolName target ∷ Mark 40 ∷ t2) k.0 call)

-- ---- phis and jumps

phi_arg_is : (a : PhiArg) (rest : List ℕ) → phi_arg_text a ++ rest ≡ 64 ∷ (a.label ++ 32 ∷ (value_text a.value ++ rest))
phi_arg_is a rest = simp append_assoc

phi_arg_at : (a : PhiArg) (rest : List ℕ) (ts : List IlToken) → is_phi_arg a ≡ true → Stops rest → Tokens rest ts →
    Tokens (phi_arg_text a ++ rest) (printed (phi_arg_pattern a) ts)
phi_arg_at a rest ts h stop more =
    let k = and_parts _ _ h in
    let value = value_at a.value rest ts k.1 stop more in
    as_is (printed (phi_arg_pattern a) ts) (phi_arg_is a rest)
    (label_at a.label (32 ∷ (value_text a.value ++ rest)) (printed (value_pattern a.value) ts) k.0 refl
    (space_at (value_text a.value ++ rest) (printed (value_pattern a.value) ts) value))

phi_args_at : (xs : List PhiArg) (rest : List ℕ) (ts : List IlToken) → (some xs && list_all is_phi_arg xs) ≡ true → Stops rest →
    Tokens rest ts → Tokens (with_commas phi_arg_text xs ++ rest) (printed (phi_args_pattern xs) ts)
phi_args_at [] rest ts h stop more = absurd (false≢true h)
phi_args_at (a ∷ xs) rest ts h stop more = commas_at phi_arg_text phi_arg_pattern is_phi_arg phi_arg_at (a ∷ xs) rest ts h stop more

phi_is : (p : Phi) (rest : List ℕ) → phi_text p ++ rest ≡
    target_text p.temp p.class ++ (codes "phi" ++ 32 ∷ (with_commas phi_arg_text p.args ++ rest))
phi_is p rest = regroup (target_text p.temp p.class) (with_commas phi_arg_text p.args) rest
  where
    regroup : (t xs rest : List ℕ) → ((t ++ codes "phi ") ++ xs) ++ rest ≡ t ++ (codes "phi" ++ 32 ∷ (xs ++ rest))
    regroup t xs rest = simp append_assoc

phi_at : (p : Phi) (rest : List ℕ) (ts : List IlToken) → is_phi p ≡ true → Stops rest → Tokens rest ts →
    Tokens (phi_text p ++ rest) (printed (phi_pattern p) ts)
phi_at p rest ts h stop more =
    let k = and_parts _ _ h in
    let t1 = printed (phi_args_pattern p.args) ts in
    let inner = phi_args_at p.args rest ts k.1 stop more in
    as_is (printed (phi_pattern p) ts) (phi_is p rest)
    (target_at p.temp p.class (codes "phi" ++ 32 ∷ (with_commas phi_arg_text p.args ++ rest)) (Word (codes "phi") ∷ t1) k.0
    (word_at (codes "phi") (32 ∷ (with_commas phi_arg_text p.args ++ rest)) t1 refl refl
    (space_at (with_commas phi_arg_text p.args ++ rest) t1 inner)))

line_is : (text rest : List ℕ) → print.on_line text ++ rest ≡ 9 ∷ (text ++ 10 ∷ rest)
line_is text rest = simp append_assoc

-- a line, of what stands in front of its end
on_line_at : (text rest : List ℕ) (p : Pattern) (ts : List IlToken) →
    (Stops (10 ∷ rest) → Tokens (10 ∷ rest) (LineEnd ∷ ts) → Tokens (text ++ 10 ∷ rest) (printed p (LineEnd ∷ ts))) → Tokens rest ts →
    Tokens (print.on_line text ++ rest) (printed (on_line p) ts)
on_line_at text rest p ts each more = as_is (printed (on_line p) ts) (line_is text rest)
    (tab_at (text ++ 10 ∷ rest) (printed p (LineEnd ∷ ts)) (each refl (line_at rest ts more)))

pub phi_line_at : (p : Phi) (rest : List ℕ) (ts : List IlToken) → is_phi p ≡ true → Tokens rest ts →
    Tokens (print.on_line (phi_text p) ++ rest) (printed (on_line (phi_pattern p)) ts)
phi_line_at p rest ts h more = on_line_at (phi_text p) rest (phi_pattern p) ts
    (λ stop line. phi_at p (10 ∷ rest) (LineEnd ∷ ts) h stop line) more

pub inst_line_at : (i : Inst) (rest : List ℕ) (ts : List IlToken) → is_inst i ≡ true → Tokens rest ts →
    Tokens (print.on_line (inst_text i) ++ rest) (printed (on_line (inst_pattern i)) ts)
inst_line_at i rest ts h more = on_line_at (inst_text i) rest (inst_pattern i) ts
    (λ stop line. inst_at i (10 ∷ rest) (LineEnd ∷ ts) h stop line) more

returned_stops : (v : Option IlValue) (rest : List ℕ) → Stops rest → Stops (returned_text v ++ rest)
returned_stops None rest stop = stop
returned_stops (Some v) rest stop = refl

returned_at : (v : Option IlValue) (rest : List ℕ) (ts : List IlToken) → is_returned v ≡ true → Stops rest → Tokens rest ts →
    Tokens (returned_text v ++ rest) (printed (returned_pattern v) ts)
returned_at None rest ts h stop more = more
returned_at (Some v) rest ts h stop more = space_at (value_text v ++ rest) (printed (value_pattern v) ts) (value_at v rest ts h stop more)

jmp_is : (l rest : List ℕ) → jump_text (Jmp l) ++ rest ≡ 9 ∷ (codes "jmp" ++ 32 ∷ 64 ∷ (l ++ 10 ∷ rest))
jmp_is l rest = simp append_assoc

jnz_is : (v : IlValue) (a b rest : List ℕ) →
    jump_text (Jnz v a b) ++ rest ≡ 9 ∷ (codes "jnz" ++ 32 ∷ (value_text v ++ 44 ∷ 32 ∷ 64 ∷ (a ++ 44 ∷ 32 ∷ 64 ∷ (b ++ 10 ∷ rest))))
jnz_is v a b rest = simp append_assoc

ret_is : (v : Option IlValue) (rest : List ℕ) → jump_text (Ret v) ++ rest ≡ 9 ∷ (codes "ret" ++ (returned_text v ++ 10 ∷ rest))
ret_is v rest = simp append_assoc

pub jump_at : (last : Bool) (j : Jump) (rest : List ℕ) (ts : List IlToken) → is_jump j ≡ true → (last && falls j) ≡ false → Tokens rest ts →
    Tokens (jump_text j ++ rest) (printed (jump_pattern last j) ts)
jump_at true Fall rest ts h e more = absurd (false≢true (sym e))
jump_at false Fall rest ts h e more = more
jump_at last (Jmp l) rest ts h e more =
    let label = label_at l (10 ∷ rest) (LineEnd ∷ ts) h refl (line_at rest ts more) in
    let jump = word_at (codes "jmp") (32 ∷ 64 ∷ (l ++ 10 ∷ rest)) (LabelName l ∷ LineEnd ∷ ts) refl refl
    (space_at (64 ∷ (l ++ 10 ∷ rest)) (LabelName l ∷ LineEnd ∷ ts) label) in
    as_is (printed (jump_pattern last (Jmp l)) ts) (jmp_is l rest)
    (tab_at (codes "jmp" ++ 32 ∷ 64 ∷ (l ++ 10 ∷ rest)) (Word (codes "jmp") ∷ LabelName l ∷ LineEnd ∷ ts) jump)
jump_at last (Jnz v a b) rest ts h e more =
    let k = and_parts _ _ h in
    let j = and_parts _ _ k.1 in
    let t2 = Mark 44 ∷ LabelName b ∷ LineEnd ∷ ts in
    let r2 = 44 ∷ 32 ∷ 64 ∷ (b ++ 10 ∷ rest) in
    let second = comma_at (64 ∷ (b ++ 10 ∷ rest)) (LabelName b ∷ LineEnd ∷ ts)
    (label_at b (10 ∷ rest) (LineEnd ∷ ts) j.1 refl (line_at rest ts more)) in
    let first = comma_at (64 ∷ (a ++ r2)) (LabelName a ∷ t2) (label_at a r2 t2 j.0 refl second) in
    let t1 = printed (value_pattern v) (Mark 44 ∷ LabelName a ∷ t2) in
    let r1 = value_text v ++ 44 ∷ 32 ∷ 64 ∷ (a ++ r2) in
    let value = value_at v (44 ∷ 32 ∷ 64 ∷ (a ++ r2)) (Mark 44 ∷ LabelName a ∷ t2) k.0 refl first in
    as_is (printed (jump_pattern last (Jnz v a b)) ts) (jnz_is v a b rest)
    (tab_at (codes "jnz" ++ 32 ∷ r1) (Word (codes "jnz") ∷ t1) (word_at (codes "jnz") (32 ∷ r1) t1 refl refl (space_at r1 t1 value)))
jump_at last (Ret v) rest ts h e more =
    let r1 = returned_text v ++ 10 ∷ rest in
    let t1 = printed (returned_pattern v) (LineEnd ∷ ts) in
    let value = returned_at v (10 ∷ rest) (LineEnd ∷ ts) h refl (line_at rest ts more) in
    as_is (printed (jump_pattern last (Ret v)) ts) (ret_is v rest)
    (tab_at (codes "ret" ++ r1) (Word (codes "ret") ∷ t1) (word_at (codes "ret") r1 t1 refl (returned_stops v (10 ∷ rest) refl) value))
jump_at last Hlt rest ts h e more = tab_at (codes "hlt\n" ++ rest) (Word (codes "hlt") ∷ LineEnd ∷ ts)
    (word_at (codes "hlt") (10 ∷ rest) (LineEnd ∷ ts) refl refl (line_at rest ts more))
