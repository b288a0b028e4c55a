-- Decimal digits, as std reads them.
use Rattle.std.proofs.Common.{◌≡◌, ℕ, ◌<◌, List, [], ◌∷◌, true, refl, ap, zero, suc, Result, Ok, Err, get_or, arith, ◌&&◌}
use Rattle.std.specs.List.{list_all}
use Rattle.std.specs.Char.{is_ascii_digit}
use Rattle.std.specs.Option.{SomeIff}
use Rattle.std.specs.Result.{OkIff, result_ok}
use Rattle.std.specs.Str.{all_ascii_digits, IsAscii}
use Rattle.std.specs.Str.Parse.{digits_value}
use Rattle.std.proofs.lemmas.Str.Parse.{IsNumeralModel, numerals_by_value, tells_all_ascii_digits}

-- each is a digit
pub list_all-digits : (s : List ℕ) → list_all is_ascii_digit s ≡ all_ascii_digits s
list_all-digits [] = refl
list_all-digits (c ∷ s) = ap (λ b. is_ascii_digit c && b) (list_all-digits s)

-- decimal digits are numerals in std's sense
pub own : IsNumeralModel (λ ds. all_ascii_digits ds ≡ true) (digits_value 10)
own = numerals_by_value _ tells_all_ascii_digits

-- digits are ASCII
pub IsAscii-digits : (ds : List ℕ) → all_ascii_digits ds ≡ true → IsAscii ds
IsAscii-digits ds h = below ds h
  where
    below : (ds : List ℕ) → all_ascii_digits ds ≡ true → (i : ℕ) → get_or ds i 0 < 128
    below [] h i = omega arith
    below (c ∷ cs) h zero = let r = tells_all_ascii_digits.parts c cs h in omega (arith, r.0)
    below (c ∷ cs) h (suc i) = below cs (tells_all_ascii_digits.parts c cs h).1 i

-- the value of an Ok exactly where there is one
pub some_of_ok : {E : Type 0} (r : Result ℕ E) (P : Type 0) (v : ℕ) → OkIff r P v → SomeIff (result_ok r) P v
some_of_ok (Ok x) P v h = h
some_of_ok (Err e) P v h = h
