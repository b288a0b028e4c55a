-- The word or number that stands at the front of a text is found there.
use Rattle.std.proofs.Common.{◌≡◌, ℕ, ◌<◌, ◌≤◌, ◌^◌, List, ◌++◌, Option, Some, None, Bool, true, false, cond, ltb, get_or, drop, refl, sym, ap, ◌∙◌, arith, subst, take-append-drop}
use Rattle.std.specs.List.{prefix_len}
use Rattle.std.specs.Char.{is_ascii_digit}
use Rattle.std.proofs.lemmas.Bool.Decides.{nat_tests}
use Rattle.hare_tree.specs.declared.token.TokenKind.TheVariants.{Name, Keyword, Number}
use Rattle.hare_tree.specs.declared.token.Suffix.TheVariants as suffix
use Rattle.hare_tree.specs.declared.token.Token.{Token}
use Rattle.hare_tree.specs.Words.{is_letter, is_word_byte, is_listed, keywords, begins_fraction}
use Rattle.hare_tree.specs.Spelling.{IsSpelling}
use Rattle.hare_tree.specs.Tokens.{Fits}
use Rattle.hare_lex.specs.declared.front.Found.{Found}
use Rattle.hare_lex.specs.declared.front.Found.TheVariants as found
use Rattle.hare_lex.specs.Lexing.{at_front, word_front, number_front, number_at}
use Rattle.hare_lex.proofs.Fronts.Lists.{run_within, same_front}
use Rattle.hare_lex.proofs.Literals.Numbers.{number_sound, number_value, number_within}
use Rattle.hare_lex.proofs.Whole.Same.{alike}
use Rattle.hare_lex.specs.Fronts.{token_at}
use Rattle.hare_lex.proofs.Fronts.Standing.{nowhere, kind_first, len_front, digit_not}
use Rattle.hare_lex.proofs.Sound.Words.{word_of, rest_of, front_word, word_longest}
use Rattle.hare_lex.proofs.Sound.Numbers.{number_word, number_of, number_longest, digit_kind}

-- ---- words

-- the run of letters and digits spells a keyword or a name
word_spells : (s : List ℕ) (b : Bool) → is_letter (get_or s 0 0) ≡ true → is_listed keywords (word_of s) ≡ b → (t : Token) ×
    IsSpelling t (word_of s)
word_spells s true l e = (token_at Keyword nowhere (word_of s) 0 suffix.None, (refl, refl, refl, e))
word_spells s false l e = (token_at Name nowhere (word_of s) 0 suffix.None, (refl, refl, refl, front_word s l, e))

-- the token at a letter is the run of letters and digits
pub word_same : (t : Token) (s rest text : List ℕ) → text ≡ s ++ rest → Fits t s rest → is_letter (get_or text 0 0) ≡ true →
    word_of text ≡ s
word_same t s rest text e f l =
    let n = prefix_len is_word_byte text in
    let w = word_spells text _ l refl in
    let whole : s ++ rest ≡ word_of text ++ rest_of text = sym e ∙ sym (take-append-drop n text) in
    let a = f.longest w.0 (word_of text) (rest_of text) whole w.1 in
    let k = kind_first t.kind t.text t.number t.suffix text s rest e f.spells in
    let b = word_longest t.kind t.text t.number t.suffix text s rest l e f.spells k in
    let len = len_front n text (run_within is_word_byte text) in
    sym (same_front s (word_of text) rest (rest_of text) whole (omega (arith, a, b, len)))

-- at a letter a word is looked for
pub front_letter : (b : Bool) (s : List ℕ) → is_letter (get_or s 0 0) ≡ true → at_front b s ≡ word_front b s
unfolding at_front
front_letter b s l = rw l refl

-- ---- numbers

-- the token at a digit has the value of the number at the front
pub number_same : (t : Token) (s rest text : List ℕ) → text ≡ s ++ rest → Fits t s rest → is_ascii_digit (get_or text 0 0) ≡ true →
    t.number ≡ number_of text
number_same t s rest text e f h =
    let n = (number_at text).len in
    let u = token_at Number nowhere (number_word text) (number_of text) (number_at text).suffix in
    let spells : IsSpelling u (number_word text) = (refl, number_sound text h) in
    let whole : s ++ rest ≡ number_word text ++ drop n text = sym e ∙ sym (take-append-drop n text) in
    let a = f.longest u (number_word text) (drop n text) whole spells in
    let k = digit_kind t.kind (get_or text 0 0) h (kind_first t.kind t.text t.number t.suffix text s rest e f.spells) in
    let b = number_longest t.kind t.text t.number t.suffix text s rest k e f.spells in
    let len = len_front n text (number_within text h) in
    let same : s ≡ number_word text = same_front s (number_word text) rest (drop n text) whole (omega (arith, a, b, len)) in
    (alike t.kind Number t.text (number_word text) t.number (number_of text) t.suffix (number_at text).suffix (number_word text)
    (subst (λ l. IsSpelling t l) same f.spells) spells).number

-- at a digit a number is looked for
pub front_digit : (b : Bool) (s : List ℕ) → is_ascii_digit (get_or s 0 0) ≡ true → at_front b s ≡ number_front s
unfolding at_front
front_digit b s h = let l = (digit_not (get_or s 0 0) h).0 in rw (l, h) refl

-- a small value is kept
value_small : (n : ℕ) → n < 2 ^ 127 → cond (ltb n (2 ^ 127)) (Some n) None ≡ Some n
value_small n h = grind (arith, nat_tests)

-- a great value is not kept
value_none : (n : ℕ) → 2 ^ 127 ≤ n → cond (ltb n (2 ^ 127)) (Some n) None ≡ None
value_none n h = grind (arith, nat_tests)

-- what is found at a digit, by the value that was kept
number_step : (s : List ℕ) (o : Option ℕ) → (number_at s).value ≡ o →
    number_front s ≡ elim o as (λ _. Found) [
      | None ↦ found.Fault 7 0
      | Some v ↦ cond (begins_fraction s) (found.Fault 10 0)
          (found.Token Number (number_at s).len v (number_at s).suffix)
    ]
number_step s o e = ap (λ q. elim q as (λ _. Found) [
  | None ↦ found.Fault 7 0
  | Some v ↦ cond (begins_fraction s) (found.Fault 10 0)
      (found.Token Number (number_at s).len v (number_at s).suffix)
]) e

-- a great number is found to be a fault
pub great_front : (s : List ℕ) → 2 ^ 127 ≤ number_of s → number_front s ≡ found.Fault 7 0
great_front s h = number_step s None (number_value s ∙ value_none (number_of s) h)

-- a small number is found to be a fraction or a token
pub small_front : (s : List ℕ) (b : Bool) → number_of s < 2 ^ 127 → begins_fraction s ≡ b →
    number_front s ≡ cond b (found.Fault 10 0) (found.Token Number (number_at s).len (number_of s) (number_at s).suffix)
small_front s b h f = number_step s (Some (number_of s)) (number_value s ∙ value_small (number_of s) h) ∙ ap
    (λ q. cond q (found.Fault 10 0) (found.Token Number (number_at s).len (number_of s) (number_at s).suffix)) f
