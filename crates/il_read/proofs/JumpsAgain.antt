-- Jumps are read as they are printed.
use Rattle.std.proofs.Common.{◌≡◌, ℕ, List, [], ◌∷◌, ◌++◌, Option, Some, None, true, false, refl, ap, ◌∙◌, append_assoc, codes, eqb, ◌&&◌}
use Rattle.std.proofs.lemmas.Bool.{and_parts}
use Rattle.il_code.specs.declared.types.IlValue.{IlValue}
use Rattle.il_code.specs.declared.types.Jump.{Jump}
use Rattle.il_code.specs.declared.types.Jump.TheVariants.{Fall, Jmp, Jnz, Ret, Hlt}
use Rattle.il_code.specs.Tokens.{is_identifier}
use Rattle.il_code.specs.Shaped.{is_value, is_returned, is_jump}
use Rattle.il_code.specs.Print.{value_text, returned_text, jump_text}
use Rattle.il_read.specs.Lines.{begins_line}
use Rattle.il_read.specs.Jumps.{jmp_at, jnz_at, returned_at, ret_at, jump_at}
use Rattle.il_read.proofs.ValuesAgain.{label_again, value_again}

-- no line of a block stands here
abbrev pub NoTab : List ℕ → Type 0
NoTab [] = Unit {0}
NoTab (c ∷ s) = eqb c 9 ≡ false

returned_again : (v : Option IlValue) (rest : List ℕ) → is_returned v ≡ true →
    returned_at (returned_text v ++ 10 ∷ rest) ≡ Some (v, 10 ∷ rest)
unfolding returned_at
returned_again None rest h = refl
returned_again (Some v) rest h = let value = value_again v (10 ∷ rest) h refl in rw value refl

pub jump_again : (j : Jump) (rest : List ℕ) → is_jump j ≡ true → NoTab rest → jump_at (jump_text j ++ rest) ≡ Some (j, rest)
unfolding jump_at jmp_at jnz_at ret_at
jump_again Fall [] h k = refl
jump_again Fall (c ∷ rest) h k = rw k refl
jump_again (Jmp l) rest h k =
    let text : jump_text (Jmp l) ++ rest ≡ codes "\tjmp " ++ 64 ∷ (l ++ 10 ∷ rest) = simp append_assoc in
    let label = label_again l (10 ∷ rest) h refl in
    ap jump_at text ∙ rw label refl
jump_again (Jnz v a b) rest h k =
    let p = and_parts (is_value v) (is_identifier a && is_identifier b) h in
    let q = and_parts (is_identifier a) (is_identifier b) p.1 in
    let text : jump_text (Jnz v a b) ++ rest ≡
    codes "\tjnz " ++ (value_text v ++ (codes ", " ++ 64 ∷ (a ++ (codes ", " ++ 64 ∷ (b ++ 10 ∷ rest))))) = simp append_assoc in
    let value = value_again v (codes ", " ++ 64 ∷ (a ++ (codes ", " ++ 64 ∷ (b ++ 10 ∷ rest)))) p.0 refl in
    let first = label_again a (codes ", " ++ 64 ∷ (b ++ 10 ∷ rest)) q.0 refl in
    let second = label_again b (10 ∷ rest) q.1 refl in
    ap jump_at text ∙ rw value (rw first (rw second refl))
jump_again (Ret v) rest h k =
    let text : jump_text (Ret v) ++ rest ≡ codes "\tret" ++ (returned_text v ++ 10 ∷ rest) = simp append_assoc in
    let value = returned_again v rest h in
    ap jump_at text ∙ rw value refl
jump_again Hlt rest h k = refl

-- a jump's line is none of the others
pub jump_is_no : (j : Jump) (rest : List ℕ) → NoTab rest → begins_line (jump_text j ++ rest) ≡ false
jump_is_no Fall [] k = refl
jump_is_no Fall (c ∷ rest) k = rw k refl
jump_is_no (Jmp l) rest k = refl
jump_is_no (Jnz v a b) rest k = refl
jump_is_no (Ret v) rest k = refl
jump_is_no Hlt rest k = refl
