-- Phis and instructions are read as they are printed.
use Rattle.std.proofs.Common.{◌≡◌, ℕ, zero, suc, ◌+◌, ◌≤◌, List, [], ◌∷◌, ◌++◌, Option, Some, None, Bool, true, false, length, refl, sym, ap, subst, ◌∙◌, ◌⊎◌, inl, inr, append_assoc, arith, codes, decimal, ◌&&◌}
use Rattle.std.specs.List.{flat_map, list_all}
use Rattle.std.proofs.lemmas.Bool.{and_parts}
use Rattle.std.proofs.lemmas.Bool.Decides.{nat_tests}
use Rattle.std.proofs.lemmas.Grind.{common_steps}
use Rattle.hx_base.specs.declared.Class.{Class}
use Rattle.il_code.specs.declared.op.IlOp.{IlOp}
use Rattle.il_code.specs.declared.types.IlArg.{IlArg}
use Rattle.il_code.specs.declared.types.IlParam.{IlParam}
use Rattle.il_code.specs.declared.types.IlValue.{IlValue}
use Rattle.il_code.specs.declared.types.Inst.{Inst}
use Rattle.il_code.specs.declared.types.Inst.TheVariants.{Set, Store, Blit, Call}
use Rattle.il_code.specs.declared.types.Phi.{Phi}
use Rattle.il_code.specs.declared.types.PhiArg.{PhiArg}
use Rattle.il_code.specs.Classes.{op_kind, takes_two}
use Rattle.il_code.specs.Tokens.{is_identifier}
use Rattle.il_code.specs.Shaped.{is_value, is_bits, is_width, is_second, is_param, is_arg, is_inst, some, is_phi_arg, is_phi}
use Rattle.il_code.specs.Print.{class_text, value_text, second_text, store_word, with_commas, arg_text, inst_text, phi_arg_text, phi_text, on_line}
use Rattle.il_code.specs.Words.{op_word}
use Rattle.il_read.specs.declared.line.Line.TheVariants as line
use Rattle.il_read.specs.Values.{arg_at, phi_arg_at}
use Rattle.il_read.specs.Lines.{second_at, operation_at, call_at, phi_at, set_at, store_width_at, store_at, blit_at, code_at, line_at, begins_line, lines}
use Rattle.il_read.proofs.FrontsAgain.{Stops, number_again}
use Rattle.il_read.proofs.ListsAgain.{listed_again, bracketed_again}
use Rattle.il_read.proofs.ValuesAgain.{symbol_again, value_again, target_again, arg_again, arg_is_no, phi_arg_again}
use Rattle.il_read.proofs.OpsAgain.{op_again, op_is_other}

-- ---- operations

second_again : (two : Bool) (b : Option IlValue) (rest : List ℕ) → is_second two b ≡ true →
    second_at (second_text b ++ 10 ∷ rest) ≡ Some (b, 10 ∷ rest)
unfolding second_at
second_again two None rest h = refl
second_again two (Some b) rest h = let value = value_again b (10 ∷ rest) (and_parts two (is_value b) h).1 refl in rw value refl

operation_again : (t : List ℕ) (class : Class) (op : IlOp) (a : IlValue) (b : Option IlValue) (rest : List ℕ) → is_value a ≡ true →
    is_second (takes_two (op_kind op)) b ≡ true → Stops (second_text b ++ 10 ∷ rest) →
    operation_at (record { name = t; class = class }) (op_word op ++ 32 ∷ (value_text a ++ (second_text b ++ 10 ∷ rest))) ≡
    Some (line.Inst (Set t class op a b), 10 ∷ rest)
unfolding operation_at
operation_again t class op a b rest ha hb stop =
    let word = op_again op (value_text a ++ (second_text b ++ 10 ∷ rest)) in
    let first = value_again a (second_text b ++ 10 ∷ rest) ha stop in
    let second = second_again (takes_two (op_kind op)) b rest hb in
    rw word (rw first (rw second refl))

second_stops : (b : Option IlValue) (rest : List ℕ) → Stops (second_text b ++ 10 ∷ rest)
second_stops None rest = refl
second_stops (Some b) rest = refl

-- ---- calls

call_again : (result : Option IlParam) (target : List ℕ) (args : List IlArg) (rest : List ℕ) → is_identifier target ≡ true →
    list_all is_arg args ≡ true → call_at result (36 ∷ (target ++ 40 ∷ (with_commas arg_text args ++ 41 ∷ rest))) ≡
    Some (line.Inst (Call result target args), rest)
unfolding call_at
call_again result target args rest ht ha =
    let name = symbol_again target (40 ∷ (with_commas arg_text args ++ 41 ∷ rest)) ht refl in
    let list = bracketed_again arg_at arg_text is_arg Stops arg_again (λ r. refl) arg_is_no (λ r. refl) args rest ha in
    rw name (rw list refl)

-- ---- stores

widths : (w : ℕ) → is_width w ≡ true → (w ≡ 1) ⊎ ((w ≡ 2) ⊎ ((w ≡ 4) ⊎ (w ≡ 8)))
widths w h = grind (arith, nat_tests, common_steps)

-- what a property of the four widths says of a width
pub by_width : (P : ℕ → Type 0) (w : ℕ) → is_width w ≡ true → P 1 → P 2 → P 4 → P 8 → P w
by_width P w h one two four eight = elim (widths w h) [
  | inl e ↦ subst P (sym e) one
  | inr k ↦ elim k [
    | inl e ↦ subst P (sym e) two
    | inr m ↦ elim m [
      | inl e ↦ subst P (sym e) four
      | inr e ↦ subst P (sym e) eight
    ]
  ]
]

store_parts : (w : ℕ) (value at : IlValue) (rest : List ℕ) → is_width w ≡ true → is_value value ≡ true → is_value at ≡ true →
    code_at (store_word w ++ 32 ∷ (value_text value ++ (codes ", " ++ (value_text at ++ 10 ∷ rest)))) ≡
    Some (line.Inst (Store w value at), 10 ∷ rest)
unfolding code_at store_at store_width_at
store_parts w value at rest hw hv ha =
    let first = value_again value (codes ", " ++ (value_text at ++ 10 ∷ rest)) hv refl in
    let second = value_again at (10 ∷ rest) ha refl in
    let P : ℕ → Type 0 = λ n. code_at (store_word n ++ 32 ∷ (value_text value ++ (codes ", " ++ (value_text at ++ 10 ∷ rest)))) ≡
    Some (line.Inst (Store n value at), 10 ∷ rest) in
    by_width P w hw (rw first (rw second refl)) (rw first (rw second refl)) (rw first (rw second refl)) (rw first (rw second refl))

-- ---- instructions

pub inst_again : (i : Inst) (rest : List ℕ) → is_inst i ≡ true → code_at (inst_text i ++ 10 ∷ rest) ≡ Some (line.Inst i, 10 ∷ rest)
unfolding code_at set_at blit_at
inst_again (Set t class op a b) rest h =
    let p = and_parts (is_identifier t) (is_value a && is_second (takes_two (op_kind op)) b) h in
    let q = and_parts (is_value a) (is_second (takes_two (op_kind op)) b) p.1 in
    let tail = value_text a ++ (second_text b ++ 10 ∷ rest) in
    let text : inst_text (Set t class op a b) ++ 10 ∷ rest ≡
    37 ∷ (t ++ (codes " =" ++ (class_text class ++ 32 ∷ (op_word op ++ 32 ∷ tail)))) = simp append_assoc in
    let target = target_again t class (op_word op ++ 32 ∷ tail) p.0 in
    let no_phi = (op_is_other op tail).0 in
    let no_call = (op_is_other op tail).1 in
    let operation = operation_again t class op a b rest q.0 q.1 (second_stops b rest) in
    ap code_at text ∙ rw target (rw (no_phi, no_call) operation)
inst_again (Store width value at) rest h =
    let p = and_parts (is_width width) (is_value value && is_value at) h in
    let q = and_parts (is_value value) (is_value at) p.1 in
    let text : inst_text (Store width value at) ++ 10 ∷ rest ≡
    store_word width ++ 32 ∷ (value_text value ++ (codes ", " ++ (value_text at ++ 10 ∷ rest))) = simp append_assoc in
    ap code_at text ∙ store_parts width value at rest p.0 q.0 q.1
inst_again (Blit from to bytes) rest h =
    let p = and_parts (is_value from) (is_value to && is_bits bytes) h in
    let q = and_parts (is_value to) (is_bits bytes) p.1 in
    let text : inst_text (Blit from to bytes) ++ 10 ∷ rest ≡
    codes "blit " ++ (value_text from ++ (codes ", " ++ (value_text to ++ (codes ", " ++ (decimal bytes ++ 10 ∷ rest))))) =
    simp append_assoc in
    let first = value_again from (codes ", " ++ (value_text to ++ (codes ", " ++ (decimal bytes ++ 10 ∷ rest)))) p.0 refl in
    let second = value_again to (codes ", " ++ (decimal bytes ++ 10 ∷ rest)) q.0 refl in
    let number = number_again bytes (10 ∷ rest) q.1 refl in
    ap code_at text ∙ rw first (rw second (rw number refl))
inst_again (Call None target args) rest h =
    let p = and_parts (is_identifier target) (list_all is_arg args) h in
    let text : inst_text (Call None target args) ++ 10 ∷ rest ≡
    codes "call " ++ 36 ∷ (target ++ 40 ∷ (with_commas arg_text args ++ 41 ∷ 10 ∷ rest)) = simp append_assoc in
    ap code_at text ∙ call_again None target args (10 ∷ rest) p.0 p.1
inst_again (Call (Some r) target args) rest h =
    let p = and_parts (is_param r) (is_identifier target && list_all is_arg args) h in
    let q = and_parts (is_identifier target) (list_all is_arg args) p.1 in
    let tail = 36 ∷ (target ++ 40 ∷ (with_commas arg_text args ++ 41 ∷ 10 ∷ rest)) in
    let text : inst_text (Call (Some r) target args) ++ 10 ∷ rest ≡
    37 ∷ (r.name ++ (codes " =" ++ (class_text r.class ++ 32 ∷ (codes "call " ++ tail)))) = simp append_assoc in
    let result = target_again r.name r.class (codes "call " ++ tail) p.0 in
    ap code_at text ∙ rw result (call_again (Some r) target args (10 ∷ rest) q.0 q.1)

-- ---- phis

phi_args_again : (p : Phi) (rest : List ℕ) → some p.args ≡ true → list_all is_phi_arg p.args ≡ true →
    phi_at (record { name = p.temp; class = p.class }) (with_commas phi_arg_text p.args ++ 10 ∷ rest) ≡ Some (line.Phi p, 10 ∷ rest)
unfolding phi_at
phi_args_again p rest h k = go p.args h k
  where
    go : (args : List PhiArg) → some args ≡ true → list_all is_phi_arg args ≡ true →
        (phi_at (record { name = p.temp; class = p.class }) (with_commas phi_arg_text args ++ 10 ∷ rest)) ≡
        Some (line.Phi (record { temp = p.temp; class = p.class; args = args }), 10 ∷ rest)
    go [] h k = absurd (cc)
    go (a ∷ args) h k =
        let list = listed_again phi_arg_at phi_arg_text is_phi_arg Stops phi_arg_again (λ r. refl) a args 10 rest k refl refl in rw list
        refl

pub phi_again : (p : Phi) (rest : List ℕ) → is_phi p ≡ true → code_at (phi_text p ++ 10 ∷ rest) ≡ Some (line.Phi p, 10 ∷ rest)
unfolding code_at set_at
phi_again p rest h =
    let k = and_parts (is_identifier p.temp) (some p.args && list_all is_phi_arg p.args) h in
    let q = and_parts (some p.args) (list_all is_phi_arg p.args) k.1 in
    let tail = with_commas phi_arg_text p.args ++ 10 ∷ rest in
    let text : phi_text p ++ 10 ∷ rest ≡ 37 ∷ (p.temp ++ (codes " =" ++ (class_text p.class ++ 32 ∷ (codes "phi " ++ tail)))) =
    simp append_assoc in
    let target = target_again p.temp p.class (codes "phi " ++ tail) k.0 in
    ap code_at text ∙ rw target (phi_args_again p rest q.0 q.1)

-- ---- lines

line_again : (text rest : List ℕ) (l : line.the_data) → code_at (text ++ 10 ∷ rest) ≡ Some (l, 10 ∷ rest) →
    line_at (on_line text ++ rest) ≡ Some (l, rest)
unfolding line_at
line_again text rest l h =
    let whole : on_line text ++ rest ≡ 9 ∷ (text ++ 10 ∷ rest) = simp append_assoc in
    ap line_at whole ∙ rw h refl

-- the line of an instruction begins as no jump
pub begins_inst : (i : Inst) (rest : List ℕ) → is_inst i ≡ true → begins_line (on_line (inst_text i) ++ rest) ≡ true
begins_inst (Set t class op a b) rest h = refl
begins_inst (Store width value at) rest h =
    let P : ℕ → Type 0 = λ n. begins_line (on_line (inst_text (Store n value at)) ++ rest) ≡ true in
    by_width P width (and_parts (is_width width) (is_value value && is_value at) h).0 refl refl refl refl
begins_inst (Blit from to bytes) rest h = refl
begins_inst (Call None target args) rest h = refl
begins_inst (Call (Some r) target args) rest h = refl

-- the lines of instructions
insts_again : (is : List Inst) (rest : List ℕ) (n : ℕ) → list_all is_inst is ≡ true → length is ≤ n → begins_line rest ≡ false →
    lines n (flat_map (λ i. on_line (inst_text i)) is ++ rest) ≡ Some (([], is), rest)
insts_again [] rest zero h k b = refl
insts_again [] rest (suc n) h k b = rw b refl
insts_again (i ∷ is) rest zero h k b = absurd (omega arith)
insts_again (i ∷ is) rest (suc n) h k b =
    let parts = and_parts (is_inst i) (list_all is_inst is) h in
    let more = flat_map (λ j. on_line (inst_text j)) is ++ rest in
    let one = begins_inst i more parts.0 in
    let two = line_again (inst_text i) more (line.Inst i) (inst_again i more parts.0) in
    let three = insts_again is rest n parts.1 (omega arith) b in
    ap (lines (suc n)) (append_assoc (on_line (inst_text i)) (flat_map (λ j. on_line (inst_text j)) is) rest) ∙ rw (one, two, three) refl

-- the lines of phis and instructions
pub lines_again : (ps : List Phi) (is : List Inst) (rest : List ℕ) (n : ℕ) → list_all is_phi ps ≡ true → list_all is_inst is ≡ true →
    length ps + length is ≤ n → begins_line rest ≡ false →
    lines n (flat_map (λ p. on_line (phi_text p)) ps ++ (flat_map (λ i. on_line (inst_text i)) is ++ rest)) ≡ Some ((ps, is), rest)
lines_again [] is rest n hp hi k b = insts_again is rest n hi (omega arith) b
lines_again (p ∷ ps) is rest zero hp hi k b = absurd (omega arith)
lines_again (p ∷ ps) is rest (suc n) hp hi k b =
    let parts = and_parts (is_phi p) (list_all is_phi ps) hp in
    let code = flat_map (λ i. on_line (inst_text i)) is ++ rest in
    let more = flat_map (λ q. on_line (phi_text q)) ps ++ code in
    let two = line_again (phi_text p) more (line.Phi p) (phi_again p more parts.0) in
    let three = lines_again ps is rest n parts.1 hi (omega arith) b in
    ap (lines (suc n)) (append_assoc (on_line (phi_text p)) (flat_map (λ q. on_line (phi_text q)) ps) code) ∙ rw (two, three) refl
