-- The mark that is found at the front of a text stands there.
use Rattle.std.proofs.Common.{◌≡◌, ℕ, ◌<◌, ◌≤◌, List, [], ◌∷◌, ◌++◌, Bool, true, false, cond, ◌||◌, eqb, length, get_or, take, drop, refl}
use Rattle.std.proofs.Common.{sym, arith, subst, inl, take-append-drop, append-nil}
use Rattle.std.specs.Char.{is_ascii_digit}
use Rattle.std.proofs.lemmas.Bool.Decides.{nat_tests}
use Rattle.hare_tree.specs.declared.token.TokenKind.{TokenKind}
use Rattle.hare_tree.specs.declared.token.TokenKind.TheVariants.{Name, Keyword, Number, Str, RuneLit, Mark, End}
use Rattle.hare_tree.specs.declared.token.Suffix.{Suffix}
use Rattle.hare_tree.specs.declared.token.Suffix.TheVariants as suffix
use Rattle.hare_tree.specs.Words.{is_letter, is_listed, marks}
use Rattle.hare_tree.specs.Spelling.{IsSpellingOf}
use Rattle.hare_lex.specs.declared.front.Found.TheVariants as found
use Rattle.hare_lex.specs.Lexing.{mark_front, longest}
use Rattle.hare_lex.proofs.Fronts.Firsts.{is_first}
use Rattle.hare_lex.proofs.Fronts.Longest.{longest_listed, longest_most, longest_within, mark_short, mark_of_first}
use Rattle.hare_lex.specs.Fronts.{Sound}
use Rattle.hare_lex.proofs.Fronts.Standing.{first_same, kind_first, not_left_out, no_fraction, standing, fits_by, nothing_small, len_front}

-- the byte begins no word, number, literal, and is not `@`
abbrev pub NoOther : ℕ → Type 0
NoOther c = (is_letter c ≡ false) × (is_ascii_digit c ≡ false) × (eqb c 34 ≡ false) × (eqb c 96 ≡ false) × (eqb c 39 ≡ false) ×
    (eqb c 64 ≡ false)

-- a byte that begins no other kind of token begins a mark
pub no_other_kind : (k : TokenKind) (c : ℕ) → NoOther c → is_first k c ≡ true → k ≡ Mark
no_other_kind Name c h f = let a = h.0 in absurd (cc)
no_other_kind Keyword c h f = let a = h.0 in absurd (cc)
no_other_kind Number c h f = let a = h.1 in absurd (cc)
no_other_kind Str c h f = let a = h.2 in let b = h.3 in let k : (eqb c 34 || eqb c 96) ≡ false = rw (a, b) refl in absurd (cc)
no_other_kind RuneLit c h f = let a = h.4 in absurd (cc)
no_other_kind Mark c h f = refl
no_other_kind End c h f = absurd (cc)

-- no mark at the front is longer than the longest that is found
pub mark_longest : (j : TokenKind) (text : List ℕ) (m : ℕ) (y : Suffix) (s v more : List ℕ) → j ≡ Mark → s ≡ v ++ more →
    IsSpellingOf j text m y v → length v ≤ longest marks s
mark_longest Mark text m y s v more j e h = subst (λ q. length v ≤ longest marks q) (sym e)
    (longest_most marks v more (mark_short v h.3) h.3)
mark_longest Name text m y s v more j e h = absurd (cc)
mark_longest Keyword text m y s v more j e h = absurd (cc)
mark_longest Number text m y s v more j e h = absurd (cc)
mark_longest Str text m y s v more j e h = absurd (cc)
mark_longest RuneLit text m y s v more j e h = absurd (cc)
mark_longest End text m y s v more j e h = absurd h

-- the spelling of a mark stands in the list
pub mark_listed : (j : TokenKind) (text : List ℕ) (m : ℕ) (y : Suffix) (v : List ℕ) → j ≡ Mark → IsSpellingOf j text m y v →
    is_listed marks v ≡ true
mark_listed Mark text m y v j h = h.3
mark_listed Name text m y v j h = absurd (cc)
mark_listed Keyword text m y v j h = absurd (cc)
mark_listed Number text m y v j h = absurd (cc)
mark_listed Str text m y v j h = absurd (cc)
mark_listed RuneLit text m y v j h = absurd (cc)
mark_listed End text m y v j h = absurd h

-- a number that tests as 0 is 0
pub is_zero : (n : ℕ) → eqb n 0 ≡ true → n ≡ 0
is_zero n h = grind (arith, nat_tests)

-- a number that does not test as 0 is more
pub is_some : (n : ℕ) → eqb n 0 ≡ false → 0 < n
is_some n h = grind (arith, nat_tests)

-- the longest mark stands at the front, and where there is none the byte begins no token
mark_at : (b : Bool) (s : List ℕ) (n : ℕ) (q : Bool) → eqb n 0 ≡ q → longest marks s ≡ n → 0 < length s → NoOther (get_or s 0 0) →
    n ≤ length s → Sound b s (cond q (found.Fault 4 0) (found.Token Mark n 0 suffix.None))
mark_at b [] n q j e z h w = absurd (omega arith)
mark_at b (c ∷ s) n true j e z h w =
    inl (
      refl,
      refl,
      record {
        first = c;
        rest = s;
        text_is = refl;
        none = λ t v k.
            let first : is_first t.kind c ≡ true =
            kind_first t.kind t.text t.number t.suffix (c ∷ v) (c ∷ v) [] (sym (append-nil (c ∷ v))) k in
            let listed : is_listed marks (c ∷ []) ≡ true =
            mark_of_first (c ∷ v) (mark_listed t.kind t.text t.number t.suffix (c ∷ v) (no_other_kind t.kind c h first) k) in
            let most : 1 ≤ longest marks (c ∷ s) = longest_most marks (c ∷ []) s (omega arith) listed in
            omega (arith, most, e, is_zero n j);
        not_at = h.5;
      },
    )
mark_at b (c ∷ s) n false j e z h w =
    let t = c ∷ s in
    let l : 0 < longest marks t = omega (arith, e, is_some n j) in
    let len = len_front n t w in
    let listed : is_listed marks (take n t) ≡ true = subst (λ q. is_listed marks (take q t) ≡ true) e (longest_listed marks t l) in
    let letter : is_letter (get_or (take n t) 0 0) ≡ false =
    subst (λ q. is_letter q ≡ false) (sym (first_same t (take n t) (drop n t) (sym (take-append-drop n t)) (omega (arith, len, l, e))))
    h.0 in
    standing b Mark t (take n t) (drop n t) 0 suffix.None n (sym (take-append-drop n t)) len
    (λ p. fits_by Mark p t (take n t) (drop n t) 0 suffix.None (sym (take-append-drop n t)) (refl, refl, refl, listed)
    (λ j text m y v more i k f. let most = mark_longest j text m y t v more (no_other_kind j c h f) i k in omega (arith, most, e, len)))
    (not_left_out b (take n t) letter) nothing_small (no_fraction t h.1)

-- what is found at a mark or a strange byte is right
pub mark_sound : (b : Bool) (s : List ℕ) → 0 < length s → NoOther (get_or s 0 0) → Sound b s (mark_front s)
mark_sound b s z h = mark_at b s (longest marks s) _ refl refl z h (longest_within marks s)
