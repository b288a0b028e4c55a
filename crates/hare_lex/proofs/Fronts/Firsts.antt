-- What the tokens of each kind begin with.
use Rattle.std.proofs.Common.{◌≡◌, ℕ, ◌<◌, ◌≤◌, List, [], ◌∷◌, ◌++◌, Bool, true, false, not, ◌||◌, eqb, length, get_or, refl, sym, arith, subst}
use Rattle.std.proofs.Math.Logic.{⊎_elim}
use Rattle.std.specs.List.{list_all, AllByRecursion}
use Rattle.std.specs.Char.{is_ascii_digit, is_digit}
use Rattle.std.proofs.lemmas.Grind.{common_steps}
use Rattle.std.proofs.lemmas.Bool.Decides.{nat_tests}
use Rattle.hare_tree.specs.declared.token.TokenKind.{TokenKind}
use Rattle.hare_tree.specs.declared.token.TokenKind.TheVariants.{Name, Keyword, Number, Str, RuneLit, Mark, End}
use Rattle.hare_tree.specs.declared.token.Suffix.{Suffix}
use Rattle.hare_tree.specs.Words.{is_letter, is_word, keywords, marks, radix, base_mark, Base, Decimal, Hexadecimal, Octal, Binary, is_listed}
use Rattle.hare_tree.specs.Spelling.{IsSpellingOf}
use Rattle.hare_lex.proofs.Fronts.Lists.{and_left, and_right, listed_case}

-- a byte that begins neither a word, a number nor a literal, and is not `@`
abbrev pub is_other : ℕ → Bool
is_other c = not (is_letter c || is_ascii_digit c || eqb c 34 || eqb c 96 || eqb c 39 || eqb c 64)

abbrev pub is_first : TokenKind → ℕ → Bool
is_first Name c = is_letter c
is_first Keyword c = is_letter c
is_first Number c = is_ascii_digit c
is_first Str c = eqb c 34 || eqb c 96
is_first RuneLit c = eqb c 39
is_first Mark c = is_other c
is_first End c = false

-- this word is not empty and begins so
abbrev pub Begins : (ℕ → Bool) → List ℕ → Type 0
Begins p w = (0 < length w) × (p (get_or w 0 0) ≡ true)

word_begins : (w : List ℕ) → is_word w ≡ true → Begins is_letter w
word_begins [] h = absurd (cc)
word_begins (c ∷ w) h = (omega arith, and_left _ _ h)

-- the table's test computes
pub all_listed : (p : List ℕ → Bool) (words : List (List ℕ)) → list_all p words ≡ true → AllByRecursion (λ w. p w ≡ true) words
all_listed p [] h = tt
all_listed p (w ∷ words) h = (and_left _ _ h, all_listed p words (and_right _ _ h))

pub keyword_is_word : (w : List ℕ) → is_listed keywords w ≡ true → is_word w ≡ true
keyword_is_word w h = listed_case (λ k. is_word k ≡ true) keywords w (all_listed is_word keywords refl) h

mark_first : List ℕ → Bool
mark_first [] = false
mark_first (c ∷ w) = is_other c

mark_first_is : (w : List ℕ) → mark_first w ≡ true → Begins is_other w
unfolding mark_first
mark_first_is [] h = absurd (cc)
mark_first_is (c ∷ w) h = (omega arith, h)

mark_begins : (w : List ℕ) → is_listed marks w ≡ true → mark_first w ≡ true
unfolding mark_first
mark_begins w h = listed_case (λ k. mark_first k ≡ true) marks w (all_listed mark_first marks refl) h

decimal_of : (c r : ℕ) → r ≤ 10 → is_digit c r ≡ true → is_ascii_digit c ≡ true
decimal_of c r m h = grind (arith, nat_tests, common_steps)

number_first : (b : Base) (ds more : List ℕ) → 0 < length ds → list_all (λ c. is_digit c (radix b)) ds ≡ true →
    Begins is_ascii_digit (base_mark b ++ (ds ++ more))
number_first Decimal [] more n h = absurd (omega arith)
number_first Decimal (d ∷ ds) more n h = (omega arith, decimal_of d 10 (omega arith) (and_left _ _ h))
number_first Hexadecimal ds more n h = (omega arith, refl)
number_first Octal ds more n h = (omega arith, refl)
number_first Binary ds more n h = (omega arith, refl)

pub first_of_kind : (k : TokenKind) (text : List ℕ) (n : ℕ) (x : Suffix) (w : List ℕ) → IsSpellingOf k text n x w → Begins (is_first k) w
first_of_kind Name text n x w h = word_begins w h.3
first_of_kind Keyword text n x w h = word_begins w (keyword_is_word w h.3)
first_of_kind Number text n x w h =
    let k = h.1 in subst (Begins is_ascii_digit) (sym k.spelled) (number_first k.base k.digits _ k.some k.each)
first_of_kind Str text n x w h = ⊎_elim (λ q. subst (Begins (is_first Str)) (sym q.spelled_by) (omega arith, refl))
    (λ q. subst (Begins (is_first Str)) (sym q.spelled_by) (omega arith, refl)) h.2
first_of_kind RuneLit text n x w h = let q = h.2 in subst (Begins (is_first RuneLit)) (sym q.spelled_by) (omega arith, refl)
first_of_kind Mark text n x w h = mark_first_is w (mark_begins w h.3)
first_of_kind End text n x w h = absurd h
