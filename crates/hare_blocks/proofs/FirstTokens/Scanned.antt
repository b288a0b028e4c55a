-- Numbers and words that are taken off the front of bytes.
use Rattle.std.proofs.Common.{◌≡◌, ℕ, ◌+◌, ◌<◌, ◌^◌, List, [], ◌∷◌, ◌++◌, Some, Bool, true, false, cond, length, take, Result, Ok, Err, refl, ap, ◌∙◌, zero, suc, get_or, arith, eq-eqb, add-zero, ◌&&◌, one-add}
use Rattle.std.proofs.Math.Seq.{take-append_seam, drop-append_seam}
use Rattle.std.specs.List.{prefix_len}
use Rattle.std.specs.Char.{is_ascii_digit}
use Rattle.std.specs.Result.{OkIff, result_ok}
use Rattle.std.specs.Str.{all_ascii_digits, IsAscii}
use Rattle.std.specs.Str.Parse.{digits_value}
use Rattle.std.proofs.lemmas.Str.Parse.{IsNumeralModel, numerals_by_value, tells_all_ascii_digits}
use Rattle.std.proofs.lemmas.List.Folds.{prefix_len-append}
use Rattle.std.proofs.lemmas.Bool.Decides.{nat_tests}
use Rattle.hare_blocks.specs.Lexing.{number_of, number_behind, number_at}

-- ---- both tests pass

-- the first
pub and_left : (a b : Bool) → (a && b) ≡ true → a ≡ true
and_left true b h = refl
and_left false b h = h

-- the second
pub and_right : (a b : Bool) → (a && b) ≡ true → b ≡ true
and_right true b h = h
and_right false b h = absurd (cc)

-- ---- the digits in front

-- one byte more in front, whether it is a digit or not
first_digit : (c : ℕ) (s : List ℕ) (n : ℕ) (b : Bool) → is_ascii_digit c ≡ b → all_ascii_digits (take n s) ≡ true →
    all_ascii_digits (take (cond b (1 + n) 0) (c ∷ s)) ≡ true
first_digit c s n false e h = refl
first_digit c s n true e h = rw one-add (rw e h)

-- the bytes up to the first that is no digit are digits
pub digits_in_front : (s : List ℕ) → all_ascii_digits (take (prefix_len is_ascii_digit s) s) ≡ true
digits_in_front [] = refl
digits_in_front (c ∷ s) = first_digit c s (prefix_len is_ascii_digit s) (is_ascii_digit c) refl (digits_in_front s)

-- ---- the number that digits spell

-- decimal digits are numerals in std's sense
pub own : IsNumeralModel (λ ds. all_ascii_digits ds ≡ true) (digits_value 10)
own = numerals_by_value _ tells_all_ascii_digits

-- what std's `parse` answers is the number
pub number_is : {E : Type 0} (ds : List ℕ) (r : Result ℕ E) →
    OkIff r ((0 < length ds) × (digits_value 10 ds < 2 ^ 64)) (digits_value 10 ds) → result_ok r ≡ number_of ds
number_is ds (Ok x) h = grind (arith, nat_tests)
number_is ds (Err e) h = grind (arith, nat_tests)

-- a digit is below 128
digit_below : (ds : List ℕ) → all_ascii_digits ds ≡ true → (i : ℕ) → get_or ds i 0 < 128
digit_below [] h i = omega arith
digit_below (c ∷ cs) h zero = let r = tells_all_ascii_digits.parts c cs h in omega (arith, r.0)
digit_below (c ∷ cs) h (suc i) = digit_below cs (tells_all_ascii_digits.parts c cs h).1 i

-- digits are ASCII
pub IsAscii-digits : (ds : List ℕ) → all_ascii_digits ds ≡ true → IsAscii ds
IsAscii-digits ds h = digit_below ds h

-- digits spell their value, where it fits
pub number_of_is : (ds : List ℕ) → 0 < length ds → digits_value 10 ds < 2 ^ 64 → number_of ds ≡ Some (digits_value 10 ds)
number_of_is ds a b = grind (arith, nat_tests)

-- ---- elements that pass, in front of one that does not

-- they are all that passes
pub run_len : (p : ℕ → Bool) (s rest : List ℕ) → prefix_len p s ≡ length s → prefix_len p rest ≡ 0 → prefix_len p (s ++ rest) ≡ length s
run_len p s rest w stop = prefix_len-append p s rest ∙ rw (w, eq-eqb (length s) (length s) refl, stop) (add-zero (length s))

-- all of the digits pass
pub all_digits_len : (ds : List ℕ) → all_ascii_digits ds ≡ true → prefix_len is_ascii_digit ds ≡ length ds
all_digits_len [] h = refl
all_digits_len (d ∷ ds) h =
    let digit : is_ascii_digit d ≡ true = and_left _ _ h in
    let more = all_digits_len ds (and_right _ _ h) in
    rw (digit, more) (one-add (length ds))

-- the number of digits in front of something else is found
pub number_at-append : (ds rest : List ℕ) (n : ℕ) → all_ascii_digits ds ≡ true → prefix_len is_ascii_digit rest ≡ 0 →
    number_of ds ≡ Some n → number_at (ds ++ rest) ≡ Some (n, rest)
unfolding number_at
number_at-append ds rest n h stop e = ap (λ k. number_behind k (ds ++ rest)) (run_len is_ascii_digit ds rest (all_digits_len ds h) stop) ∙
    rw (take-append_seam ds rest, drop-append_seam ds rest, e) refl
