-- The number that is found at the front of a text stands there.
use Rattle.std.proofs.Common.{◌≡◌, ℕ, zero, suc, ◌<◌, ◌≤◌, ◌^◌, List, [], ◌++◌, Option, Some, None, Bool, true, false, cond, ltb, length, get_or, take, drop, refl, sym, ◌∙◌, arith, subst, inl, inr, take-append-drop}
use Rattle.std.specs.Char.{is_ascii_digit}
use Rattle.std.specs.Str.Parse.{digits_value}
use Rattle.std.proofs.lemmas.Bool.Decides.{nat_tests}
use Rattle.hare_tree.specs.declared.place.Place.{Place}
use Rattle.hare_tree.specs.declared.token.TokenKind.{TokenKind}
use Rattle.hare_tree.specs.declared.token.TokenKind.TheVariants.{Name, Keyword, Number, Str, RuneLit, Mark, End}
use Rattle.hare_tree.specs.declared.token.Suffix.{Suffix}
use Rattle.hare_tree.specs.Words.{is_letter, begins_fraction}
use Rattle.hare_tree.specs.Spelling.{IsSpellingOf, IsNumber}
use Rattle.hare_tree.specs.Tokens.{Fits}
use Rattle.hare_lex.specs.declared.front.Found.{Found}
use Rattle.hare_lex.specs.declared.front.Found.TheVariants as found
use Rattle.hare_lex.specs.Lexing.{number_front, number_at, radix_of}
use Rattle.hare_lex.proofs.Fronts.Firsts.{is_first, first_of_kind}
use Rattle.hare_lex.proofs.Literals.Numbers.{digits_at, number_sound, number_value, number_most}
use Rattle.hare_lex.specs.Fronts.{token_at, Sound}
use Rattle.hare_lex.proofs.Fronts.Standing.{first_same, digit_not, not_left_out, standing, fits_by, nowhere, len_front}

-- what begins with a digit is a number
pub digit_kind : (k : TokenKind) (c : ℕ) → is_ascii_digit c ≡ true → is_first k c ≡ true → k ≡ Number
digit_kind Name c h f = let a = (digit_not c h).0 in absurd (cc)
digit_kind Keyword c h f = let a = (digit_not c h).0 in absurd (cc)
digit_kind Number c h f = refl
digit_kind Str c h f = let a = (digit_not c h).1 in absurd (cc)
digit_kind RuneLit c h f = let a = (digit_not c h).2 in absurd (cc)
digit_kind Mark c h f = let a = (digit_not c h).3 in absurd (cc)
digit_kind End c h f = absurd (cc)

-- no number at the front is longer than the one that is found
pub number_longest : (j : TokenKind) (text : List ℕ) (m : ℕ) (y : Suffix) (s v more : List ℕ) → j ≡ Number → s ≡ v ++ more →
    IsSpellingOf j text m y v → length v ≤ (number_at s).len
number_longest Number text m y s v more j e h = number_most s m y v more e h.1
number_longest Name text m y s v more j e h = absurd (cc)
number_longest Keyword text m y s v more j e h = absurd (cc)
number_longest Str text m y s v more j e h = absurd (cc)
number_longest RuneLit text m y s v more j e h = absurd (cc)
number_longest Mark text m y s v more j e h = absurd (cc)
number_longest End text m y s v more j e h = absurd h

-- the spelling of the number at the front
abbrev pub number_word : List ℕ → List ℕ
number_word s = take (number_at s).len s

-- the value of the number at the front
abbrev pub number_of : List ℕ → ℕ
number_of s = digits_value (radix_of s) (digits_at s)

-- the number at the front fits
number_fits : (p : Place) (s : List ℕ) → is_ascii_digit (get_or s 0 0) ≡ true → (number_at s).len ≤ length s →
    Fits (token_at Number p (number_word s) (number_of s) (number_at s).suffix) (number_word s) (drop (number_at s).len s)
number_fits p s h w =
    let n = (number_at s).len in
    let len = len_front n s w in
    fits_by Number p s (number_word s) (drop n s) (number_of s) (number_at s).suffix (sym (take-append-drop n s)) (refl, number_sound s h)
    (λ j text m y v more e k f. let most = number_longest j text m y s v more (digit_kind j (get_or s 0 0) h f) e k in omega
    (arith, most, len))

-- the number at a digit has at least one byte
pub number_some : (s : List ℕ) → is_ascii_digit (get_or s 0 0) ≡ true → 0 < (number_at s).len
number_some s h =
    let k = number_sound s h in
    by_len (number_at s).len (number_of s) (number_at s).suffix k
  where
    by_len : (n v : ℕ) (x : Suffix) → IsNumber v x (take n s) → 0 < n
    by_len zero v x k =
        let b = first_of_kind Number [] v x [] (refl, k) in absurd (omega (arith, b.0))
    by_len (suc n) v x k = omega arith

-- a value that was kept is the number, which is small
value_is : (w v : ℕ) → cond (ltb w (2 ^ 127)) (Some w) None ≡ Some v → (w ≡ v) × (w < 2 ^ 127)
value_is w v h = grind (arith, nat_tests)

-- a value that was not kept is great
pub value_great : (w : ℕ) → cond (ltb w (2 ^ 127)) (Some w) None ≡ None → 2 ^ 127 ≤ w
value_great w h = grind (arith, nat_tests)

-- the number is too great, begins a fraction, or stands at the front
number_front_at : (b : Bool) (s : List ℕ) (o : Option ℕ) (t : Bool) → (number_at s).value ≡ o → begins_fraction s ≡ t →
    is_ascii_digit (get_or s 0 0) ≡ true → (number_at s).len ≤ length s →
    Sound b s (elim o as (λ _. Found) [
      | None ↦ found.Fault 7 0
      | Some v ↦ cond t (found.Fault 10 0)
          (found.Token Number (number_at s).len v (number_at s).suffix)
    ])
number_front_at b s None t e f h w =
    let n = (number_at s).len in
    let great = value_great (number_of s) (sym (number_value s) ∙ e) in
    inr (inr (inr (inl (
      refl,
      refl,
      record {
        token = token_at Number nowhere (number_word s) (number_of s) (number_at s).suffix;
        number = number_word s;
        rest = drop n s;
        text_is = sym (take-append-drop n s);
        fits = number_fits nowhere s h w;
        great = great;
      },
    ))))
number_front_at b s (Some v) true e f h w =
    let n = (number_at s).len in
    let value = value_is (number_of s) v (sym (number_value s) ∙ e) in
    inr (inr (inr (inr (
      refl,
      refl,
      inr (inl (record {
        token = token_at Number nowhere (number_word s) (number_of s) (number_at s).suffix;
        number = number_word s;
        rest = drop n s;
        text_is = sym (take-append-drop n s);
        fits = number_fits nowhere s h w;
        small = value.1;
        fraction = f;
      })),
    ))))
number_front_at b s (Some v) false e f h w =
    let n = (number_at s).len in
    let value = value_is (number_of s) v (sym (number_value s) ∙ e) in
    let letter : is_letter (get_or (number_word s) 0 0) ≡ false =
    subst (λ q. is_letter q ≡ false) (sym
    (first_same s (number_word s) (drop n s) (sym (take-append-drop n s)) (omega (arith, len_front n s w, number_some s h))))
    (digit_not (get_or s 0 0) h).0 in
    standing b Number s (number_word s) (drop n s) v (number_at s).suffix n (sym (take-append-drop n s)) (len_front n s w)
    (λ p. subst (λ q. Fits (token_at Number p (number_word s) q (number_at s).suffix) (number_word s) (drop n s)) value.0
    (number_fits p s h w))
    (not_left_out b (number_word s) letter) (omega (arith, value.0, value.1)) f

-- what is found at a digit is right
pub number_sounds : (b : Bool) (s : List ℕ) → is_ascii_digit (get_or s 0 0) ≡ true → (number_at s).len ≤ length s →
    Sound b s (number_front s)
number_sounds b s h w = number_front_at b s _ _ refl refl h w
