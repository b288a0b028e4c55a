-- The longest word of a table at the front of a text.
use Rattle.std.proofs.Common.{◌≡◌, ℕ, zero, suc, ◌<◌, ◌≤◌, List, [], ◌∷◌, ◌++◌, Bool, true, false, cond, not, leb, length, take, refl, ap}
use Rattle.std.proofs.Common.{arith}
use Rattle.std.specs.List.{list_all, AllByRecursion}
use Rattle.std.specs.Char.{is_digit, digit_value}
use Rattle.std.proofs.lemmas.Bool.Decides.{nat_tests}
use Rattle.hare_tree.specs.declared.token.Suffix.{Suffix}
use Rattle.hare_tree.specs.declared.token.Suffix.TheVariants.{None, I8, I16, I32, I64, U8, U16, U32, U64, I, U, Z}
use Rattle.hare_tree.specs.Words.{is_listed, marks, suffix_word}
use Rattle.hare_lex.specs.Lexing.{longest, suffixes, suffix_named}
use Rattle.hare_lex.proofs.Fronts.Lists.{and_left, and_right, listed_case, take_take}

-- a length that is picked by three tests
pick : (words : List (List ℕ)) (s : List ℕ) (b3 b2 b1 : Bool) → is_listed words (take 3 s) ≡ b3 → is_listed words (take 2 s) ≡ b2 →
    is_listed words (take 1 s) ≡ b1
    → 0 < cond b3 (length (take 3 s)) (cond b2 (length (take 2 s)) (cond b1 (length (take 1 s)) 0))
    → is_listed words (take (cond b3 (length (take 3 s)) (cond b2 (length (take 2 s)) (cond b1 (length (take 1 s)) 0))) s) ≡ true
pick words s true b2 b1 e3 e2 e1 h = rw take_take e3
pick words s false true b1 e3 e2 e1 h = rw take_take e2
pick words s false false true e3 e2 e1 h = rw take_take e1
pick words s false false false e3 e2 e1 h = absurd (omega arith)

-- what is found is listed
pub longest_listed : (words : List (List ℕ)) (s : List ℕ) → 0 < longest words s → is_listed words (take (longest words s) s) ≡ true
unfolding longest
longest_listed words s h = pick words s _ _ _ refl refl refl h

pick_one : (b3 b2 : Bool) (n3 n2 : ℕ) → cond b3 (suc n3) (cond b2 (suc n2) 1) ≡ cond b3 (suc n3) (cond b2 (suc n2) (cond true 1 0)) →
    1 ≤ cond b3 (suc n3) (cond b2 (suc n2) 1)
pick_one true b2 n3 n2 e = omega arith
pick_one false true n3 n2 e = omega arith
pick_one false false n3 n2 e = omega arith

pick_two : (b3 : Bool) (n3 : ℕ) → 2 ≤ cond b3 (suc (suc n3)) 2
pick_two true n3 = omega arith
pick_two false n3 = omega arith

-- no listed word at the front is longer
pub longest_most : (words : List (List ℕ)) (w more : List ℕ) → length w ≤ 3 → is_listed words w ≡ true →
    length w ≤ longest words (w ++ more)
unfolding longest
longest_most words [] more n h = omega arith
longest_most words (a ∷ []) more n h = rw h (pick_one (is_listed words (a ∷ take 2 more)) (is_listed words (a ∷ take 1 more))
    (length (take 2 more)) (length (take 1 more)) refl)
longest_most words (a ∷ b ∷ []) more n h = rw h (pick_two (is_listed words (a ∷ b ∷ take 1 more)) (length (take 1 more)))
longest_most words (a ∷ b ∷ c ∷ []) more n h = rw h (omega arith)
longest_most words (a ∷ b ∷ c ∷ d ∷ w) more n h = absurd (omega arith)

take_within : (n : ℕ) (s : List ℕ) → length (take n s) ≤ length s
take_within zero s = omega arith
take_within (suc n) [] = omega arith
take_within (suc n) (c ∷ s) = omega (arith, take_within n s)

pick_within : (s : List ℕ) (a b c : Bool) → cond a (length (take 3 s)) (cond b (length (take 2 s)) (cond c (length (take 1 s)) 0)) ≤ length
    s
pick_within s true b c = take_within 3 s
pick_within s false true c = take_within 2 s
pick_within s false false true = take_within 1 s
pick_within s false false false = omega arith

pub longest_within : (words : List (List ℕ)) (s : List ℕ) → longest words s ≤ length s
unfolding longest
longest_within words s = pick_within s _ _ _

short : (words : List (List ℕ)) (w : List ℕ) → AllByRecursion (λ k. length k ≤ 3) words → is_listed words w ≡ true → length w ≤ 3
short words w all h = listed_case (λ k. length k ≤ 3) words w all h

short_words : (words : List (List ℕ)) → list_all (λ w. leb (length w) 3) words ≡ true → AllByRecursion (λ k. length k ≤ 3) words
short_words [] h = tt
short_words (w ∷ words) h = (le_of (length w) (and_left _ _ h), short_words words (and_right _ _ h))
  where
    le_of : (n : ℕ) → leb n 3 ≡ true → n ≤ 3
    le_of n h = grind (arith, nat_tests)

pub mark_short : (w : List ℕ) → is_listed marks w ≡ true → length w ≤ 3
mark_short w h = short marks w (short_words marks refl) h

-- each mark begins with a mark
begins_with_mark : List ℕ → Bool
begins_with_mark w = is_listed marks (take 1 w)

each_begins : (words : List (List ℕ)) → list_all begins_with_mark words ≡ true →
    AllByRecursion (λ w. is_listed marks (take 1 w) ≡ true) words
unfolding begins_with_mark
each_begins [] h = tt
each_begins (w ∷ words) h = (and_left _ _ h, each_begins words (and_right _ _ h))

pub mark_of_first : (w : List ℕ) → is_listed marks w ≡ true → is_listed marks (take 1 w) ≡ true
unfolding begins_with_mark
mark_of_first w h = listed_case (λ k. is_listed marks (take 1 k) ≡ true) marks w (each_begins marks refl) h

-- ---- suffixes

-- a suffix is named by its word
pub named_suffix : (x : Suffix) → suffix_named (suffix_word x) ≡ x
unfolding suffix_named
named_suffix None = refl
named_suffix I8 = refl
named_suffix I16 = refl
named_suffix I32 = refl
named_suffix I64 = refl
named_suffix U8 = refl
named_suffix U16 = refl
named_suffix U32 = refl
named_suffix U64 = refl
named_suffix I = refl
named_suffix U = refl
named_suffix Z = refl

named_word : (w : List ℕ) → is_listed suffixes w ≡ true → suffix_word (suffix_named w) ≡ w
unfolding suffix_named
named_word w h = listed_case (λ k. suffix_word (suffix_named k) ≡ k) suffixes w
    (refl, (refl, (refl, (refl, (refl, (refl, (refl, (refl, (refl, (refl, (refl, tt))))))))))) h

named_front : (s : List ℕ) (n : ℕ) → (0 < n → is_listed suffixes (take n s) ≡ true) → suffix_word (suffix_named (take n s)) ≡ take n s
unfolding suffix_named
named_front s zero h = refl
named_front s (suc n) h = named_word (take (suc n) s) (h (omega arith))

-- the longest suffix at the front is the word of what it names
pub front_suffix : (s : List ℕ) → suffix_word (suffix_named (take (longest suffixes s) s)) ≡ take (longest suffixes s) s
front_suffix s = named_front s (longest suffixes s) (λ h. longest_listed suffixes s h)

-- no suffix at the front is longer
pub suffix_most : (x : Suffix) (more : List ℕ) → length (suffix_word x) ≤ longest suffixes (suffix_word x ++ more)
suffix_most None more = omega arith
suffix_most I8 more = longest_most suffixes (suffix_word I8) more (omega arith) refl
suffix_most I16 more = longest_most suffixes (suffix_word I16) more (omega arith) refl
suffix_most I32 more = longest_most suffixes (suffix_word I32) more (omega arith) refl
suffix_most I64 more = longest_most suffixes (suffix_word I64) more (omega arith) refl
suffix_most U8 more = longest_most suffixes (suffix_word U8) more (omega arith) refl
suffix_most U16 more = longest_most suffixes (suffix_word U16) more (omega arith) refl
suffix_most U32 more = longest_most suffixes (suffix_word U32) more (omega arith) refl
suffix_most U64 more = longest_most suffixes (suffix_word U64) more (omega arith) refl
suffix_most I more = longest_most suffixes (suffix_word I) more (omega arith) refl
suffix_most U more = longest_most suffixes (suffix_word U) more (omega arith) refl
suffix_most Z more = longest_most suffixes (suffix_word Z) more (omega arith) refl

-- a suffix is nothing, or begins with a letter that is no digit
abbrev pub no_suffix_digit : ℕ → List ℕ → Bool
no_suffix_digit r [] = true
no_suffix_digit r (c ∷ w) = not (is_digit c r)

not_digit : (c r : ℕ) → 17 ≤ digit_value c → r ≤ 16 → is_digit c r ≡ false
not_digit c r h k = grind (arith, nat_tests)

pub suffix_no_digit : (x : Suffix) (r : ℕ) → r ≤ 16 → no_suffix_digit r (suffix_word x) ≡ true
suffix_no_digit None r h = refl
suffix_no_digit I8 r h = ap not (not_digit 105 r (omega arith) h)
suffix_no_digit I16 r h = ap not (not_digit 105 r (omega arith) h)
suffix_no_digit I32 r h = ap not (not_digit 105 r (omega arith) h)
suffix_no_digit I64 r h = ap not (not_digit 105 r (omega arith) h)
suffix_no_digit U8 r h = ap not (not_digit 117 r (omega arith) h)
suffix_no_digit U16 r h = ap not (not_digit 117 r (omega arith) h)
suffix_no_digit U32 r h = ap not (not_digit 117 r (omega arith) h)
suffix_no_digit U64 r h = ap not (not_digit 117 r (omega arith) h)
suffix_no_digit I r h = ap not (not_digit 105 r (omega arith) h)
suffix_no_digit U r h = ap not (not_digit 117 r (omega arith) h)
suffix_no_digit Z r h = ap not (not_digit 122 r (omega arith) h)

-- ---- words by their first byte

-- lists that agree on the words that begin with a byte agree on the longest in front of a text that begins with it
pub longest_like : (some all : List (List ℕ)) (c : ℕ) (s : List ℕ) →
    ((rest : List ℕ) → is_listed some (c ∷ rest) ≡ is_listed all (c ∷ rest)) → longest some (c ∷ s) ≡ longest all (c ∷ s)
unfolding longest
longest_like some all c s h = rw (h (take 2 s), h (take 1 s), h []) refl
