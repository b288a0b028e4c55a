-- Words that are not there.
use Rattle.std.proofs.Common.{◌≡◌, ◌≢◌, ◌∙◌, sym, ap, refl, ℕ, ◌+◌, ◌<◌, arith, Bool, true, false, List, length, None}
use Rattle.std.proofs.lemmas.Bool.Decides.{nat_tests}
use Rattle.std.proofs.lemmas.List.{length-take, length-drop}
use Rattle.std.specs.Prelude.{nat_eq, drop, pos, ◌*◌, option_map, if◌then◌else◌}
use Rattle.hx_base.specs.Memory.{le_number}
use Rattle.hx_base.specs.Numbers.{wrap}
use Rattle.hare_typed.specs.declared.cell.Cell.{Cell}
use Rattle.hare_typed.specs.Answers.{Answer, Gives, Aborts, IsUndefined, or_undefined, ◌then◌}
use Rattle.hare_typed.specs.Cells.{cells_within, bytes_of}
use Rattle.hare_typed.specs.Scalars.{Scalar, Number, Nullable}
use Rattle.hare_typed.specs.Objects.{scalar_of}
use Rattle.hare_typed.specs.Words.{Words, size_in, natural_of, number_in, pointer_in, words}

-- fewer cells than a word has
short_of : (at : ℕ) (cs : List Cell) → length cs < at + 8 → nat_eq (length (cells_within at 8 cs)) 8 ≡ false
short_of at cs h =
    let few : length (cells_within at 8 cs) < 8 = omega (arith, h, length-take 8 (drop at cs), length-drop at cs) in
    by (nat_eq (length (cells_within at 8 cs)) 8) refl few
  where
    by : (b : Bool) → nat_eq (length (cells_within at 8 cs)) 8 ≡ b → length (cells_within at 8 cs) < 8 → b ≡ false
    by true e few = let same : length (cells_within at 8 cs) ≡ 8 = grind (arith, nat_tests) in absurd (omega (arith, same, few))
    by false e few = refl

-- they are no number
pub no_size_short : (at : ℕ) (cs : List Cell) (n : ℕ) → length cs < at + 8 → size_in (cells_within at 8 cs) ≢ Gives n
no_size_short at cs n h e =
    let none : size_in (cells_within at 8 cs) ≡ (or_undefined 3 None then λ v. Gives (natural_of (number_in v))) =
    ap (λ b. or_undefined 3 (if b then option_map (λ bs. Number (wrap (pos (le_number bs)) (8 * 8) false)) (bytes_of (cells_within at 8 cs))
    else None) then λ v. Gives (natural_of (number_in v)))
    (short_of at cs h) in
    let both = sym none ∙ e in
    absurd cc

-- without a third word there are no three
no_third : (a : Answer Scalar) (b c : Answer ℕ) (w : Words) → ((n : ℕ) → c ≢ Gives n) →
    (a then λ p. b then λ n. c then λ k. Gives (record { data_at = pointer_in p; length = n; capacity = k })) ≡ Gives w → ⊥
no_third (Gives p) (Gives n) (Gives k) w h e = h k refl
no_third (Gives p) (Gives n) (Aborts r) w h e = absurd cc
no_third (Gives p) (Gives n) (IsUndefined u) w h e = absurd cc
no_third (Gives p) (Aborts r) c w h e = absurd cc
no_third (Gives p) (IsUndefined u) c w h e = absurd cc
no_third (Aborts r) b c w h e = absurd cc
no_third (IsUndefined u) b c w h e = absurd cc

pub no_capacity : (cs : List Cell) (w : Words) → ((n : ℕ) → size_in (cells_within 16 8 cs) ≢ Gives n) → words cs ≡ Gives w → ⊥
no_capacity cs w h e =
    no_third (scalar_of Nullable (cells_within 0 8 cs)) (size_in (cells_within 8 8 cs)) (size_in (cells_within 16 8 cs)) w h e
