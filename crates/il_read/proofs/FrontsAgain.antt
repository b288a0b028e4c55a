-- Names, numbers and strings are read as they are printed.
use Rattle.std.proofs.Common.{◌≡◌, ℕ, ◌<◌, ◌^◌, List, [], ◌∷◌, ◌++◌, Some, None, Bool, true, false, not, cond, length, refl, ap, ◌∙◌, arith, eqb, one-add, add-zero, eq-eqb, decimal}
use Rattle.std.proofs.Math.Seq.{take-append_seam, drop-append_seam}
use Rattle.std.specs.List.{prefix_len, list_all}
use Rattle.std.specs.Char.{is_ascii_digit}
use Rattle.std.specs.Str.{all_ascii_digits}
use Rattle.std.specs.Str.Parse.{digits_value}
use Rattle.std.proofs.lemmas.Bool.{and_parts}
use Rattle.std.proofs.lemmas.Bool.Decides.{nat_tests, Decides-ltb}
use Rattle.std.proofs.lemmas.Fmt.{digits_decimal, digits_value-decimal, decimal_nonempty}
use Rattle.std.proofs.lemmas.Grind.{common_steps}
use Rattle.std.proofs.lemmas.List.Folds.{prefix_len-append}
use Rattle.il_code.specs.Tokens.{is_name_byte, is_digit_byte, is_identifier, is_string_byte}
use Rattle.il_code.specs.Shaped.{is_bits}
use Rattle.il_read.specs.Front.{behind, name_len, name_of, name_at, number_of, number_behind, number_at, is_inside, string_behind, string_at}
use Rattle.il_read.proofs.Fronts.{own}

-- no name and no number goes on with this rest
abbrev pub Stops : List ℕ → Type 0
Stops [] = Unit {0}
Stops (c ∷ s) = is_name_byte c ≡ false

Stops-name : (rest : List ℕ) → Stops rest → prefix_len is_name_byte rest ≡ 0
Stops-name [] h = refl
Stops-name (c ∷ s) h = rw h refl

no_digit : (c : ℕ) → is_name_byte c ≡ false → is_ascii_digit c ≡ false
no_digit c h = grind (arith, nat_tests, common_steps)

Stops-digit : (rest : List ℕ) → Stops rest → prefix_len is_ascii_digit rest ≡ 0
Stops-digit [] h = refl
Stops-digit (c ∷ s) h = let no = no_digit c h in rw no refl

-- elements that pass, in front of one that does not, are all that passes
run_len : (p : ℕ → Bool) (s rest : List ℕ) → prefix_len p s ≡ length s → prefix_len p rest ≡ 0 → prefix_len p (s ++ rest) ≡ length s
run_len p s rest w stop = prefix_len-append p s rest ∙ rw (w, eq-eqb (length s) (length s) refl, stop) (add-zero (length s))

all_len : (p : ℕ → Bool) (s : List ℕ) → list_all p s ≡ true → prefix_len p s ≡ length s
all_len p [] h = refl
all_len p (c ∷ s) h =
    let parts = and_parts (p c) (list_all p s) h in
    let first = parts.0 in
    let more = all_len p s parts.1 in
    rw (first, more) (one-add (length s))

-- ---- names

not_true : (b : Bool) → not b ≡ true → b ≡ false
not_true true h = absurd (cc)
not_true false h = refl

pub name_again : (t rest : List ℕ) → is_identifier t ≡ true → Stops rest → name_at (t ++ rest) ≡ Some (t, rest)
unfolding name_at
name_again [] rest h stop = absurd (cc)
name_again (c ∷ t) rest h stop =
    let parts = and_parts (not (is_digit_byte c)) (list_all is_name_byte (c ∷ t)) h in
    let first = not_true (is_digit_byte c) parts.0 in
    let len = run_len is_name_byte (c ∷ t) rest (all_len is_name_byte (c ∷ t) parts.1) (Stops-name rest stop) in
    let all : name_len (c ∷ t ++ rest) ≡ length (c ∷ t) = ap (λ b. cond b 0 (prefix_len is_name_byte (c ∷ t ++ rest))) first ∙ len in
    let some : eqb (length (c ∷ t)) 0 ≡ false = grind (arith, nat_tests) in
    ap (λ k. name_of k (c ∷ t ++ rest)) all ∙ rw (some, take-append_seam (c ∷ t) rest, drop-append_seam (c ∷ t) rest) refl

-- ---- numbers

pub bits_below : (n : ℕ) → is_bits n ≡ true → n < 2 ^ 64
bits_below n h = (Decides-ltb n (2 ^ 64)).0 h

all_digits_len : (ds : List ℕ) → all_ascii_digits ds ≡ true → prefix_len is_ascii_digit ds ≡ length ds
all_digits_len [] h = refl
all_digits_len (d ∷ ds) h =
    let parts = and_parts (is_ascii_digit d) (all_ascii_digits ds) h in
    let digit = parts.0 in
    let more = all_digits_len ds parts.1 in
    rw (digit, more) (one-add (length ds))

number_of_is : (ds : List ℕ) → 0 < length ds → digits_value 10 ds < 2 ^ 64 → number_of ds ≡ Some (digits_value 10 ds)
number_of_is ds a b = grind (arith, nat_tests)

number_of-decimal : (n : ℕ) → n < 2 ^ 64 → number_of (decimal n) ≡ Some n
number_of-decimal n h =
    let same : digits_value 10 (decimal n) ≡ n = digits_value-decimal own n h in
    number_of_is (decimal n) (decimal_nonempty n h) (rw same h) ∙ ap Some same

pub number_again : (n : ℕ) (rest : List ℕ) → is_bits n ≡ true → Stops rest → number_at (decimal n ++ rest) ≡ Some (n, rest)
unfolding number_at
number_again n rest h stop =
    let ds = decimal n in
    let below = bits_below n h in
    ap (λ k. number_behind k (ds ++ rest)) (run_len is_ascii_digit ds rest (all_digits_len ds (digits_decimal own n below))
    (Stops-digit rest stop)) ∙ rw (take-append_seam ds rest, drop-append_seam ds rest, number_of-decimal n below) refl

-- a digit differs from a byte that is no digit
pub digit_is_no : (d b : ℕ) → is_ascii_digit d ≡ true → is_ascii_digit b ≡ false → eqb d b ≡ false
digit_is_no d b h k = grind (arith, nat_tests, common_steps)

digits_are_no : (ds rest : List ℕ) (b : ℕ) → all_ascii_digits ds ≡ true → 0 < length ds → is_ascii_digit b ≡ false →
    behind (b ∷ []) (ds ++ rest) ≡ None
digits_are_no [] rest b h some other = absurd (omega arith)
digits_are_no (d ∷ ds) rest b h some k =
    let parts = and_parts (is_ascii_digit d) (all_ascii_digits ds) h in
    let other = digit_is_no d b parts.0 k in
    rw other refl

pub number_is_no : (n : ℕ) (rest : List ℕ) (b : ℕ) → is_bits n ≡ true → is_ascii_digit b ≡ false →
    behind (b ∷ []) (decimal n ++ rest) ≡ None
number_is_no n rest b h k =
    let below = bits_below n h in digits_are_no (decimal n) rest b (digits_decimal own n below) (decimal_nonempty n below) k

-- a number begins with a digit
pub number_first : (n : ℕ) → is_bits n ≡ true → (d : ℕ) × (ds : List ℕ) × (decimal n ≡ d ∷ ds) × (is_ascii_digit d ≡ true)
number_first n h =
    let below = bits_below n h in
    first (decimal n) (digits_decimal own n below) (decimal_nonempty n below)
  where
    first : (ds : List ℕ) → all_ascii_digits ds ≡ true → 0 < length ds → (d : ℕ) × (es : List ℕ) × (ds ≡ d ∷ es) × (is_ascii_digit d ≡ true)
    first [] a b = absurd (omega arith)
    first (d ∷ ds) a b = (d, ds, refl, (and_parts (is_ascii_digit d) (all_ascii_digits ds) a).0)

-- ---- strings

inside : (c : ℕ) → is_string_byte c ≡ true → is_inside c ≡ true
inside c h = grind (arith, nat_tests, common_steps)

inside_all : (s : List ℕ) → list_all is_string_byte s ≡ true → list_all is_inside s ≡ true
inside_all [] h = refl
inside_all (c ∷ s) h =
    let parts = and_parts (is_string_byte c) (list_all is_string_byte s) h in
    let first = inside c parts.0 in
    rw first (inside_all s parts.1)

pub string_again : (s rest : List ℕ) → list_all is_string_byte s ≡ true → string_at (s ++ 34 ∷ rest) ≡ Some (s, rest)
unfolding string_at
string_again s rest h =
    let len = run_len is_inside s (34 ∷ rest) (all_len is_inside s (inside_all s h)) refl in
    ap (λ k. string_behind k (s ++ 34 ∷ rest)) len ∙ rw (take-append_seam s (34 ∷ rest), drop-append_seam s (34 ∷ rest)) refl
