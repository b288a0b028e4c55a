-- What stands at the front of a text.
use Rattle.std.proofs.Common.{◌≡◌, ◌≢◌, ℕ, ◌+◌, ◌<◌, ◌^◌, List, [], ◌∷◌, ◌++◌, Option, Some, None, Result, Ok, Err, Bool, true, false, cond, length, take, option_copied, MatchOption, Bor, refl, sym, zero, suc, get_or, arith, eq-eqb, one-add, rules}
use Rattle.std.specs.List.{prefix_len, All, AllByRecursion}
use Rattle.std.specs.Char.{is_ascii_digit}
use Rattle.std.specs.Result.{OkIff, result_ok}
use Rattle.std.specs.Str.{all_ascii_digits, IsAscii}
use Rattle.std.specs.Str.Parse.{digits_value}
use Rattle.std.proofs.lemmas.Str.Parse.{IsNumeralModel, numerals_by_value, tells_all_ascii_digits}
use Rattle.std.proofs.lemmas.List.Elements.{All-from_recursion}
use Rattle.std.proofs.lemmas.Grind.{common_steps}
use Rattle.std.proofs.lemmas.Bool.Decides.{nat_tests}
use Rattle.il_code.specs.Tokens.{is_name_byte}
use Rattle.il_read.specs.Front.{behind, name_len, number_of}

-- ---- known bytes

pub behind-append : (p rest : List ℕ) → behind p (p ++ rest) ≡ Some rest
behind-append [] rest = refl
behind-append (x ∷ p) rest = rw (eq-eqb x x refl) (behind-append p rest)

behind_none : (p s : List ℕ) → ((rest : List ℕ) → s ≢ p ++ rest) → behind p s ≡ None
behind_none [] s h = absurd (h s refl)
behind_none (x ∷ p) [] h = refl
behind_none (x ∷ p) (y ∷ s) h = first_of (search rules, grind (arith, common_steps, behind_none p s))

pub behind_is : (p s : List ℕ) (r : Option (Bor (List ℕ))) → MatchOption r ((rest : List ℕ) → s ≢ p ++ rest) (λ x. s ≡ p ++ x.now) →
    option_copied r ≡ behind p s
behind_is p s None h = sym (behind_none p s h)
behind_is p s (Some x) h = rw h (sym (behind-append p x.now))

-- ---- names

name_byte_ascii : (c : ℕ) → is_name_byte c ≡ true → c < 128
name_byte_ascii c h = grind (arith, nat_tests, common_steps)

one_more : (c : ℕ) (s : List ℕ) (n : ℕ) (b : Bool) → is_name_byte c ≡ b → AllByRecursion (λ x. x < 128) (take n s) →
    AllByRecursion (λ x. x < 128) (take (cond b (1 + n) 0) (c ∷ s))
one_more c s n false e h = tt
one_more c s n true e h = rw one-add (name_byte_ascii c e, h)

ascii_in_front : (s : List ℕ) → AllByRecursion (λ x. x < 128) (take (prefix_len is_name_byte s) s)
ascii_in_front [] = tt
ascii_in_front (c ∷ s) = one_more c s (prefix_len is_name_byte s) (is_name_byte c) refl (ascii_in_front s)

no_digit_first : (b : Bool) (n : ℕ) (s : List ℕ) → AllByRecursion (λ x. x < 128) (take n s) →
    AllByRecursion (λ x. x < 128) (take (cond b 0 n) s)
no_digit_first true n s h = search rules
no_digit_first false n s h = h

by_recursion : (s : List ℕ) → AllByRecursion (λ x. x < 128) (take (name_len s) s)
by_recursion [] = tt
by_recursion (c ∷ s) = no_digit_first _ _ (c ∷ s) (ascii_in_front (c ∷ s))

pub names_are_ascii : (s : List ℕ) → All (λ x. x < 128) (take (name_len s) s)
names_are_ascii s = All-from_recursion _ _ (by_recursion s)

-- ---- digits

-- one byte more in front, whether it is a digit or not
first_digit : (c : ℕ) (s : List ℕ) (n : ℕ) (b : Bool) → is_ascii_digit c ≡ b → all_ascii_digits (take n s) ≡ true →
    all_ascii_digits (take (cond b (1 + n) 0) (c ∷ s)) ≡ true
first_digit c s n false e h = refl
first_digit c s n true e h = rw one-add (rw e h)

-- the bytes up to the first that is no digit are digits
pub digits_in_front : (s : List ℕ) → all_ascii_digits (take (prefix_len is_ascii_digit s) s) ≡ true
digits_in_front [] = refl
digits_in_front (c ∷ s) = first_digit c s (prefix_len is_ascii_digit s) (is_ascii_digit c) refl (digits_in_front s)

-- decimal digits are numerals in std's sense
pub own : IsNumeralModel (λ ds. all_ascii_digits ds ≡ true) (digits_value 10)
own = numerals_by_value _ tells_all_ascii_digits

-- what std's `parse` answers is the number
pub number_is : {E : Type 0} (ds : List ℕ) (r : Result ℕ E) →
    OkIff r ((0 < length ds) × (digits_value 10 ds < 2 ^ 64)) (digits_value 10 ds) → result_ok r ≡ number_of ds
number_is ds (Ok x) h = grind (arith, nat_tests)
number_is ds (Err e) h = grind (arith, nat_tests)

-- a digit is below 128
digit_below : (ds : List ℕ) → all_ascii_digits ds ≡ true → (i : ℕ) → get_or ds i 0 < 128
digit_below [] h i = omega arith
digit_below (c ∷ cs) h zero = let r = tells_all_ascii_digits.parts c cs h in omega (arith, r.0)
digit_below (c ∷ cs) h (suc i) = digit_below cs (tells_all_ascii_digits.parts c cs h).1 i

-- digits are ASCII
pub IsAscii-digits : (ds : List ℕ) → all_ascii_digits ds ≡ true → IsAscii ds
IsAscii-digits ds h = digit_below ds h
