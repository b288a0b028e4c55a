-- The word that is found at the front of a text stands there.
use Rattle.std.proofs.Common.{◌≡◌, ℕ, ◌+◌, ◌≤◌, List, [], ◌∷◌, ◌++◌, Bool, true, false, cond, length, get_or, take, drop, refl, sym, subst, inl, inr, take-append-drop, one-add}
use Rattle.std.specs.List.{prefix_len, list_all}
use Rattle.hare_tree.specs.declared.place.Place.{Place}
use Rattle.hare_tree.specs.declared.token.TokenKind.{TokenKind}
use Rattle.hare_tree.specs.declared.token.TokenKind.TheVariants.{Name, Keyword, Number, Str, RuneLit, Mark, End}
use Rattle.hare_tree.specs.declared.token.Suffix.{Suffix}
use Rattle.hare_tree.specs.declared.token.Suffix.TheVariants as suffix
use Rattle.hare_tree.specs.Words.{is_letter, is_word, is_word_byte, is_listed, is_left_out, keywords}
use Rattle.hare_tree.specs.Spelling.{IsSpellingOf}
use Rattle.hare_tree.specs.Tokens.{Fits, Break}
use Rattle.hare_lex.specs.declared.front.Found.TheVariants as found
use Rattle.hare_lex.specs.Lexing.{word_front, text_of}
use Rattle.hare_lex.proofs.Fronts.Lists.{and_left, and_right, and_both, run_passes, run_most, run_within}
use Rattle.hare_lex.proofs.Fronts.Firsts.{is_first, keyword_is_word}
use Rattle.hare_lex.specs.Fronts.{token_at, Standing, Sound}
use Rattle.hare_lex.proofs.Fronts.Standing.{letter_not, no_fraction, standing, fits_by, nothing_small, nowhere, len_front}

-- a letter may stand in a word
letter_word : (c : ℕ) → is_letter c ≡ true → is_word_byte c ≡ true
letter_word c h = rw h refl

-- a word is all letters and digits
word_all : (w : List ℕ) → is_word w ≡ true → list_all is_word_byte w ≡ true
word_all [] h = absurd (cc)
word_all (c ∷ w) h = and_both _ _ (letter_word c (and_left _ _ h)) (and_right _ _ h)

-- behind a letter no token is longer than the run of letters and digits
pub word_longest : (k : TokenKind) (text : List ℕ) (n : ℕ) (x : Suffix) (s w more : List ℕ) → is_letter (get_or s 0 0) ≡ true →
    s ≡ w ++ more → IsSpellingOf k text n x w → is_first k (get_or s 0 0) ≡ true → length w ≤ prefix_len is_word_byte s
word_longest Name text n x s w more l e h f =
    subst (λ (q : List ℕ). length w ≤ prefix_len is_word_byte q) (sym e) (run_most is_word_byte w more (word_all w h.3))
word_longest Keyword text n x s w more l e h f =
    subst (λ (q : List ℕ). length w ≤ prefix_len is_word_byte q) (sym e) (run_most is_word_byte w more (word_all w (keyword_is_word w h.3)))
word_longest Number text n x s w more l e h f = let k = (letter_not (get_or s 0 0) l).0 in absurd (cc)
word_longest Str text n x s w more l e h f = let k = (letter_not (get_or s 0 0) l).1 in absurd (cc)
word_longest RuneLit text n x s w more l e h f = let k = (letter_not (get_or s 0 0) l).2 in absurd (cc)
word_longest Mark text n x s w more l e h f = let k = (letter_not (get_or s 0 0) l).3 in absurd (cc)
word_longest End text n x s w more l e h f = absurd h

-- the run of letters and digits behind a letter is a word
pub front_word : (s : List ℕ) → is_letter (get_or s 0 0) ≡ true → is_word (take (prefix_len is_word_byte s) s) ≡ true
front_word [] h = absurd (cc)
front_word (c ∷ s) h = subst (λ t. is_word (take (cond t (1 + prefix_len is_word_byte s) 0) (c ∷ s)) ≡ true) (sym (letter_word c h))
    (rw one-add (and_both _ _ h (run_passes is_word_byte s)))

-- the run of letters and digits at the front
abbrev pub word_of : List ℕ → List ℕ
word_of s = take (prefix_len is_word_byte s) s

-- what stands behind that run
abbrev pub rest_of : List ℕ → List ℕ
rest_of s = drop (prefix_len is_word_byte s) s

-- the run fits, as a name or a keyword
word_fits : (k : TokenKind) (p : Place) (s : List ℕ) → is_letter (get_or s 0 0) ≡ true →
    IsSpellingOf k (text_of k (word_of s)) 0 suffix.None (word_of s) → Fits (token_at k p (word_of s) 0 suffix.None) (word_of s) (rest_of s)
word_fits k p s l spells =
    let n = prefix_len is_word_byte s in
    let len = len_front n s (run_within is_word_byte s) in
    fits_by k p s (word_of s) (rest_of s) 0 suffix.None (sym (take-append-drop n s)) spells
    (λ j text m y v more e h f. subst (λ q. length v ≤ q) (sym len) (word_longest j text m y s v more l e h f))

-- the run stands at the front unless it is left out
word_stands : (b : Bool) (k : TokenKind) (s : List ℕ) → is_letter (get_or s 0 0) ≡ true → is_left_out b (word_of s) ≡ false →
    IsSpellingOf k (text_of k (word_of s)) 0 suffix.None (word_of s) → Standing b s k (prefix_len is_word_byte s) 0 suffix.None
word_stands b k s l out spells =
    let n = prefix_len is_word_byte s in
    standing b k s (word_of s) (rest_of s) 0 suffix.None n (sym (take-append-drop n s)) (len_front n s (run_within is_word_byte s))
    (λ p. word_fits k p s l spells) out nothing_small (no_fraction s (letter_not (get_or s 0 0) l).0)

-- a run that is left out is a fault
word_out : (b : Bool) (k : TokenKind) (s : List ℕ) → is_letter (get_or s 0 0) ≡ true → is_left_out b (word_of s) ≡ true →
    IsSpellingOf k (text_of k (word_of s)) 0 suffix.None (word_of s) → Break b s 10 0
word_out b k s l out spells =
    inr (inr (inr (inr (
      refl,
      refl,
      inl (record {
        token = token_at k nowhere (word_of s) 0 suffix.None;
        word = word_of s;
        rest = rest_of s;
        text_is = sym (take-append-drop (prefix_len is_word_byte s) s);
        fits = word_fits k nowhere s l spells;
        is_out = out;
      }),
    ))))

-- the run is a fault, a keyword or a name
word_at : (b : Bool) (s : List ℕ) (t k : Bool) → is_letter (get_or s 0 0) ≡ true → is_left_out b (word_of s) ≡ t →
    is_listed keywords (word_of s) ≡ k → Sound b s
    (cond t (found.Fault 10 0) (cond k (found.Token Keyword (prefix_len is_word_byte s) 0 suffix.None)
    (found.Token Name (prefix_len is_word_byte s) 0 suffix.None)))
word_at b s true true l e f = word_out b Keyword s l e (refl, refl, refl, f)
word_at b s true false l e f = word_out b Name s l e (refl, refl, refl, front_word s l, f)
word_at b s false true l e f = word_stands b Keyword s l e (refl, refl, refl, f)
word_at b s false false l e f = word_stands b Name s l e (refl, refl, refl, front_word s l, f)

-- what is found at a letter is right
pub word_sound : (b : Bool) (s : List ℕ) → is_letter (get_or s 0 0) ≡ true → Sound b s (word_front b s)
word_sound b s l = word_at b s _ _ l refl refl
