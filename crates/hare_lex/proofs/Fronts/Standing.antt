-- What it is to stand at the front of a text, for tokens of every kind.
use Rattle.std.proofs.Common.{◌≡◌, ℕ, zero, suc, ◌<◌, ◌≤◌, ◌^◌, List, [], ◌∷◌, ◌++◌, Bool, true, false, ◌&&◌, ◌||◌, not, eqb, length, get_or, take, refl, sym, ap, ◌∙◌, arith, subst, lit<, codes}
use Rattle.std.specs.Str.{bytes_eq}
use Rattle.std.specs.Char.{is_ascii_digit}
use Rattle.std.proofs.lemmas.Grind.{common_steps}
use Rattle.std.proofs.lemmas.Bool.Decides.{nat_tests}
use Rattle.hare_tree.specs.declared.place.Place.{Place}
use Rattle.hare_tree.specs.declared.token.TokenKind.{TokenKind}
use Rattle.hare_tree.specs.declared.token.Suffix.{Suffix}
use Rattle.hare_tree.specs.Words.{is_letter, is_word, is_listed, is_left_out, left_out, begins_fraction}
use Rattle.hare_tree.specs.Spelling.{IsSpellingOf}
use Rattle.hare_tree.specs.Tokens.{Fits}
use Rattle.hare_lex.specs.Lexing.{text_of, longest}
use Rattle.hare_lex.specs.Fronts.{token_at, Standing}
use Rattle.hare_lex.proofs.Fronts.Lists.{and_left, listed_case}
use Rattle.hare_lex.proofs.Fronts.Firsts.{all_listed, is_first, is_other, first_of_kind}

-- the text begins with the first byte of a word at its front
pub first_same : (s w more : List ℕ) → s ≡ w ++ more → 0 < length w → get_or w 0 0 ≡ get_or s 0 0
first_same s [] more e h = absurd (omega arith)
first_same s (c ∷ w) more e h = sym (ap (λ (l : List ℕ). get_or l 0 0) e)

-- what begins the text begins whatever token fits there
pub kind_first : (k : TokenKind) (text : List ℕ) (n : ℕ) (x : Suffix) (s w more : List ℕ) → s ≡ w ++ more → IsSpellingOf k text n x w →
    is_first k (get_or s 0 0) ≡ true
kind_first k text n x s w more e h =
    let f = first_of_kind k text n x w h in
    subst (λ c. is_first k c ≡ true) (first_same s w more e f.0) f.1

-- a letter begins no number, literal or mark
pub letter_not : (c : ℕ) → is_letter c ≡ true → (is_ascii_digit c ≡ false) × ((eqb c 34 || eqb c 96) ≡ false) × (eqb c 39 ≡ false) ×
    (is_other c ≡ false)
letter_not c h = (
  grind (arith, nat_tests, common_steps),
  (grind (arith, nat_tests, common_steps)),
  (grind (arith, nat_tests, common_steps)),
  (grind (arith, nat_tests, common_steps)),
)

-- a digit begins no word, literal or mark
pub digit_not : (c : ℕ) → is_ascii_digit c ≡ true → (is_letter c ≡ false) × ((eqb c 34 || eqb c 96) ≡ false) × (eqb c 39 ≡ false) ×
    (is_other c ≡ false)
digit_not c h = (
  grind (arith, nat_tests, common_steps),
  (grind (arith, nat_tests, common_steps)),
  (grind (arith, nat_tests, common_steps)),
  (grind (arith, nat_tests, common_steps)),
)

-- a left-out word is a word
pub left_out_is_word : (w : List ℕ) → is_listed left_out w ≡ true → is_word w ≡ true
left_out_is_word w h = listed_case (λ k. is_word k ≡ true) left_out w (all_listed is_word left_out refl) h

-- a word begins with a letter
pub word_letter : (w : List ℕ) → is_word w ≡ true → is_letter (get_or w 0 0) ≡ true
word_letter [] h = absurd (cc)
word_letter (c ∷ w) h = and_left _ _ h

-- what begins with no letter is no left-out word
pub not_left_out : (b : Bool) (w : List ℕ) → is_letter (get_or w 0 0) ≡ false → is_left_out b w ≡ false
not_left_out b w h = of_test (is_listed left_out w) refl
  where
    of_test : (t : Bool) → is_listed left_out w ≡ t → (t && not (b && bytes_eq w (codes "nomem"))) ≡ false
    of_test false e = refl
    of_test true e = let k : is_letter (get_or w 0 0) ≡ true = word_letter w (left_out_is_word w e) in absurd (cc)

-- what begins with no digit begins no fraction
pub no_fraction : (s : List ℕ) → is_ascii_digit (get_or s 0 0) ≡ false → begins_fraction s ≡ false
no_fraction s h = rw h refl

-- a token that fits and has no fault of its own stands at the front
pub standing : (b : Bool) (k : TokenKind) (s w rest : List ℕ) (n : ℕ) (x : Suffix) (len : ℕ) → s ≡ w ++ rest → length w ≡ len →
    ((p : Place) → Fits (token_at k p w n x) w rest) → is_left_out b w ≡ false → n < 2 ^ 127 → begins_fraction s ≡ false →
    Standing b s k len n x
standing b k s w rest n x len e l fits kept small whole = record {
  word = w;
  rest = rest;
  split = e;
  len_is = l;
  stands = λ p. record { fits = fits p; kept_word = kept; small = small; whole = subst (λ q. begins_fraction q ≡ false) e whole };
}

-- a spelling fits where all that begins with the same byte is no longer
pub fits_by : (k : TokenKind) (p : Place) (s w rest : List ℕ) (n : ℕ) (x : Suffix) → s ≡ w ++ rest → IsSpellingOf k (text_of k w) n x w →
    ((j : TokenKind) (text : List ℕ) (m : ℕ) (y : Suffix) (v more : List ℕ) → s ≡ v ++ more → IsSpellingOf j text m y v →
    is_first j (get_or s 0 0) ≡ true → length v ≤ length w) → Fits (token_at k p w n x) w rest
fits_by k p s w rest n x e spells longest = record {
  spells = spells;
  longest = λ u v more j h.
      let same : s ≡ v ++ more = e ∙ j in
      longest u.kind u.text u.number u.suffix v more same h (kind_first u.kind u.text u.number u.suffix s v more same h);
}

-- 0 is a small number
pub nothing_small : 0 < 2 ^ 127
nothing_small = lit< tt

-- a place for tokens whose place does not count
abbrev pub nowhere : Place
nowhere = record { file = 0; line = 0; column = 0 }

-- the front of n bytes has n bytes
pub len_front : (n : ℕ) (s : List ℕ) → n ≤ length s → length (take n s) ≡ n
len_front zero s h = refl
len_front (suc n) [] h = absurd (omega arith)
len_front (suc n) (c ∷ s) h = ap suc (len_front n s (omega arith))
