-- The globals of strings keep the rules of globals.
use Rattle.std.proofs.Common.{◌≡◌, ◌≢◌, ℕ, suc, ◌+◌, ◌^◌, ◌<◌, ◌≤◌, Bool, true, false, List, [], ◌∷◌, length, refl, ap, ◌∙◌, arith}
use Rattle.std.specs.Prelude.{codes, count_by, sum_by, nat_eq, bytes_eq, if◌then◌else◌}
use Rattle.std.specs.Char.{is_ascii_digit}
use Rattle.std.specs.Fmt.{decimal}
use Rattle.std.specs.List.{list_all}
use Rattle.std.specs.Str.{all_ascii_digits}
use Rattle.std.specs.Str.Parse.{digits_value}
use Rattle.std.proofs.lemmas.Bool.{and_parts}
use Rattle.std.proofs.lemmas.Bool.Decides.{nat_tests}
use Rattle.std.proofs.lemmas.Fmt.{digits_decimal}
use Rattle.std.proofs.lemmas.Grind.{common_steps}
use Rattle.std.proofs.lemmas.List.Sums.{sum_by-cons}
use Rattle.std.proofs.lemmas.Str.Parse.{IsNumeralModel, numerals_by_value, tells_all_ascii_digits}
use Rattle.hx_base.specs.Runtime.{argument_size}
use Rattle.flat_code.specs.declared.program.Data.{Data}
use Rattle.flat_code.specs.declared.program.FlatProgram.{FlatProgram}
use Rattle.flat_code.specs.WellFormed.{is_name_byte, is_symbol, is_item, is_global, global_size}
use Rattle.flat_code.proofs.NumberNames.{decimal_eq}
use Rattle.low_blocks.specs.Programs.{text_name, text_items, text_global, text_globals}
use Rattle.low_blocks.proofs.RightCode.Plain.{and_both}
use Rattle.low_blocks.proofs.SameRuns.Start.{text_size, texts_size}

-- ---- names

digit_in_name : (c : ℕ) → is_ascii_digit c ≡ true → is_name_byte c ≡ true
digit_in_name c h = grind (arith, nat_tests, common_steps)

digits_in_name : (s : List ℕ) → all_ascii_digits s ≡ true → list_all is_name_byte s ≡ true
digits_in_name [] h = refl
digits_in_name (c ∷ s) h =
    let k = and_parts (is_ascii_digit c) (all_ascii_digits s) h in and_both (is_name_byte c) _ (digit_in_name c k.0) (digits_in_name s k.1)

own : IsNumeralModel (λ ds. all_ascii_digits ds ≡ true) (digits_value 10)
own = numerals_by_value _ tells_all_ascii_digits

name_is_symbol : (i : ℕ) → i < 2 ^ 64 → is_symbol (text_name i) ≡ true
name_is_symbol i l = and_both _ _ (digits_in_name (decimal i) (digits_decimal own i l)) refl

count-cons : {X : Type 0} (q : X → Bool) (x : X) (xs : List X) → count_by q (x ∷ xs) ≡ (if q x then 1 else 0) + count_by q xs
count-cons q x xs = sum_by-cons (λ y. if q y then 1 else 0) x xs

-- one that does not count
count_less : {X : Type 0} (q : X → Bool) (x : X) (xs : List X) (n : ℕ) → q x ≡ false → count_by q xs ≡ n → count_by q (x ∷ xs) ≡ n
count_less q x xs n e h = count-cons q x xs ∙ rw (e, h) (omega arith)

-- no string has the name of the function
pub texts_not_main : (i : ℕ) (ts : List (List ℕ)) → count_by (λ (d : Data). bytes_eq d.name (codes "main")) (text_globals i ts) ≡ 0
texts_not_main i [] = refl
texts_not_main i (t ∷ ts) =
    count_less (λ (d : Data). bytes_eq d.name (codes "main")) (text_global i t) (text_globals (suc i) ts) 0 refl (texts_not_main (suc i) ts)

-- the test of a string's name
abbrev named : ℕ → Data → Bool
named k d = bytes_eq d.name (text_name k)

differ_nat : (a b : ℕ) → a ≢ b → nat_eq a b ≡ false
differ_nat a b h = pick (nat_eq a b) refl
  where
    pick : (x : Bool) → nat_eq a b ≡ x → x ≡ false
    pick true e = absurd (h (grind (arith, nat_tests)))
    pick false e = refl

same_nat : (a : ℕ) → nat_eq a a ≡ true
same_nat a = pick (nat_eq a a) refl
  where
    pick : (x : Bool) → nat_eq a a ≡ x → x ≡ true
    pick true e = refl
    pick false e = absurd (grind (arith, nat_tests))

none_earlier : (k i : ℕ) (ts : List (List ℕ)) → i + length ts < 2 ^ 64 → k < i → count_by (named k) (text_globals i ts) ≡ 0
none_earlier k i [] l h = refl
none_earlier k i (t ∷ ts) l h =
    count_less (named k) (text_global i t) (text_globals (suc i) ts) 0
    (decimal_eq i k (omega arith) (omega arith) ∙ differ_nat i k (λ e. omega arith))
    (none_earlier k (suc i) ts (omega arith) (omega arith))

-- each string's name is that of one
pub one_named : (k i : ℕ) (ts : List (List ℕ)) → i + length ts < 2 ^ 64 → i ≤ k → k < i + length ts →
    count_by (named k) (text_globals i ts) ≡ 1
one_named k i [] l h m = absurd (omega arith)
one_named k i (t ∷ ts) l h m = pick (nat_eq i k) refl (one_named k (suc i) ts (omega arith))
  where
    pick : (b : Bool) → nat_eq i k ≡ b → (suc i ≤ k → k < suc i + length ts → count_by (named k) (text_globals (suc i) ts) ≡ 1) →
        count_by (named k) (text_globals i (t ∷ ts)) ≡ 1
    pick true e on =
        let s : i ≡ k = grind (arith, nat_tests) in
        let q : named k (text_global i t) ≡ true = decimal_eq i k (omega arith) (omega arith) ∙ e in
        count-cons (named k) (text_global i t) (text_globals (suc i) ts) ∙ rw (q, none_earlier k (suc i) ts (omega arith) (omega arith))
        refl
    pick false e on =
        let ne : i ≢ k = grind (arith, nat_tests) in
        count_less (named k) (text_global i t) (text_globals (suc i) ts) 1 (decimal_eq i k (omega arith) (omega arith) ∙ e)
        (on (omega arith) (omega arith))

-- ---- all globals

-- what holds of each string's global
pub each_text : (q : Data → Bool) (i : ℕ) (ts : List (List ℕ)) →
    ((j : ℕ) (t : List ℕ) → i ≤ j → j < i + length ts → q (text_global j t) ≡ true) → list_all q (text_globals i ts) ≡ true
each_text q i [] h = refl
each_text q i (t ∷ ts) h =
    and_both _ _ (h i t (omega arith) (omega arith)) (each_text q (suc i) ts (λ j u l m. h j u (omega arith) (omega arith)))

items_right : (p : FlatProgram) (t : List ℕ) → list_all (is_item p) (text_items t) ≡ true
items_right p [] = refl
items_right p (c ∷ t) = refl

pub text_right : (p : FlatProgram) (i : ℕ) (t : List ℕ) → i < 2 ^ 64 → is_global p (text_global i t) ≡ true
text_right p i t l = and_both _ _ (name_is_symbol i l) (and_both _ _ refl (items_right p t))

pub length-text_globals : (i : ℕ) (ts : List (List ℕ)) → length (text_globals i ts) ≡ length ts
length-text_globals i [] = refl
length-text_globals i (t ∷ ts) = ap suc (length-text_globals (suc i) ts)

-- their bytes are no more than what they take, and neither are they themselves
pub size-text_globals : (i : ℕ) (ts : List (List ℕ)) → sum_by global_size (text_globals i ts) ≤ texts_size ts
size-text_globals i [] = omega arith
size-text_globals i (t ∷ ts) = omega (
  arith,
  sum_by-cons global_size (text_global i t) (text_globals (suc i) ts),
  sum_by-cons argument_size t ts,
  size-text_globals (suc i)
      ts,
  text_size t,
)

pub length_le-texts_size : (ts : List (List ℕ)) → length ts ≤ texts_size ts
length_le-texts_size [] = omega arith
length_le-texts_size (t ∷ ts) = omega (arith, sum_by-cons argument_size t ts, length_le-texts_size ts)
