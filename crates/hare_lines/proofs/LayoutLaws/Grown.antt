-- Where a blank is kept for the tokens' sake, it is needed.
use Rattle.std.proofs.Common.{◌≡◌, ℕ, suc, ◌+◌, List, [], ◌∷◌, ◌++◌, ◌⊎◌, inl, inr, Bool, true, false, cond, ◌&&◌, ◌||◌, not, eqb, get_or, length, drop, codes, refl, sym, ap, ◌∙◌, subst, arith, append_assoc, length-append}
use Rattle.std.specs.List.{list_all, prefix_len, AllByRecursion}
use Rattle.std.specs.Char.{is_ascii_digit}
use Rattle.std.specs.Str.{bytes_eq}
use Rattle.std.proofs.lemmas.Bool.{eqb-true}
use Rattle.std.proofs.lemmas.Slice.Eq.{bytes_eq-Decides}
use Rattle.hare_tree.specs.declared.token.TokenKind.TheVariants as tk
use Rattle.hare_tree.specs.declared.token.Suffix.TheVariants as suffix
use Rattle.hare_tree.specs.declared.token.Token.{Token}
use Rattle.hare_tree.specs.Words.{is_listed, marks, begins_fraction, goes_on_as_fraction}
use Rattle.hare_tree.specs.Spell.{start_of}
use Rattle.hare_lex.proofs.Fronts.Lists.{and_left, and_right, and_both, listed_case}
use Rattle.hare_lines.specs.Gaps.{lengthened, are_digits}
use Rattle.hare_lines.specs.Layout.{NoTokenStands, GrowingPiecesAreOthers}

-- ---- a longer mark

mark : List ℕ → Token
mark s = record { kind = tk.Mark; place = start_of 0; text = s; number = 0; suffix = suffix.None }

same_bytes : (a b : List ℕ) → bytes_eq a b ≡ true → a ≡ b
same_bytes a b h = (bytes_eq-Decides a b).0 h

-- what these marks are with the byte behind them is a mark
abbrev AreLonger : ℕ → List (List ℕ) → Bool
AreLonger k words = list_all (λ w. is_listed marks (w ++ k ∷ [])) words

all_longer : (k : ℕ) (words : List (List ℕ)) → AreLonger k words ≡ true → AllByRecursion (λ w. is_listed marks (w ++ k ∷ []) ≡ true) words
all_longer k [] h = tt
all_longer k (w ∷ words) h = (and_left _ _ h, all_longer k words (and_right (is_listed marks (w ++ k ∷ [])) _ h))

longer_by : (k c : ℕ) (words others : List (List ℕ)) (m : List ℕ) (b : Bool) → eqb c k ≡ b → AreLonger k words ≡ true
    → (is_listed others m ≡ true → is_listed marks (m ++ c ∷ []) ≡ true) → is_listed (cond b words others) m ≡ true
    → is_listed marks (m ++ c ∷ []) ≡ true
longer_by k c words others m true e h f l =
    subst (λ x. is_listed marks (m ++ x ∷ []) ≡ true) (sym (eqb-true c k e))
    (listed_case (λ w. is_listed marks (w ++ k ∷ []) ≡ true) words m (all_longer k words h) l)
longer_by k c words others m false e h f l = f l

nothing_longer : (c : ℕ) (m : List ℕ) → is_listed [] m ≡ true → is_listed marks (m ++ c ∷ []) ≡ true
nothing_longer c m h = cc

longer_mark : (c : ℕ) (m : List ℕ) → is_listed (lengthened c) m ≡ true → is_listed marks (m ++ c ∷ []) ≡ true
longer_mark c m =
    longer_by 61 c _ _ m (eqb c 61) refl refl (longer_by 46 c _ _ m (eqb c 46) refl refl
    (longer_by 62 c _ _ m (eqb c 62) refl refl (longer_by 38 c _ _ m (eqb c 38) refl refl
    (longer_by 58 c _ _ m (eqb c 58) refl refl (longer_by 60 c _ _ m (eqb c 60) refl refl
    (longer_by 94 c _ _ m (eqb c 94) refl refl (longer_by 124 c _ _ m (eqb c 124) refl refl (nothing_longer c m))))))))

lengthens : (last body rest : List ℕ) → is_listed (lengthened (get_or body 0 0)) last ≡ true → NoTokenStands last (body ++ rest)
unfolding mark
lengthens last [] rest h b t st = cc
lengthens last (c ∷ body) rest h b t st =
    let longer = last ++ c ∷ [] in
    let k = st.fits.longest (mark longer) longer (body ++ rest) (sym (append_assoc last (c ∷ []) (body ++ rest)))
    (refl, refl, refl, longer_mark c last h) in
    absurd (omega (arith, k, length-append last (c ∷ [])))

-- ---- a number behind a `.` behind plain decimal digits

pub digits_run : (s : List ℕ) (c : ℕ) (rest : List ℕ) → list_all is_ascii_digit s ≡ true → is_ascii_digit c ≡ false
    → drop (prefix_len is_ascii_digit (s ++ c ∷ rest)) (s ++ c ∷ rest) ≡ c ∷ rest
digits_run [] c rest h k = rw k refl
digits_run (d ∷ s) c rest h k =
    let first : is_ascii_digit d ≡ true = and_left _ _ h in
    let one : 1 + prefix_len is_ascii_digit (s ++ c ∷ rest) ≡ suc (prefix_len is_ascii_digit (s ++ c ∷ rest)) = omega arith in
    ap (λ p. drop (cond p (1 + prefix_len is_ascii_digit (s ++ c ∷ rest)) 0) (d ∷ (s ++ c ∷ rest))) first
    ∙ ap (λ n. drop n (d ∷ (s ++ c ∷ rest))) one ∙ digits_run s c rest (and_right (is_ascii_digit d) _ h) k

begins : (s body rest : List ℕ) → are_digits s ≡ true → is_ascii_digit (get_or body 0 0) ≡ true
    → begins_fraction (s ++ 46 ∷ (body ++ rest)) ≡ true
begins [] body rest h k = absurd (cc)
begins (d ∷ s) [] rest h k = let no : is_ascii_digit 0 ≡ true = k in absurd (cc)
begins (d ∷ s) (e ∷ body) rest h k =
    let all : list_all is_ascii_digit (d ∷ s) ≡ true = and_right (not (eqb (length (d ∷ s)) 0)) _ h in
    let first : is_ascii_digit d ≡ true = and_left _ _ all in
    let run = digits_run (d ∷ s) 46 ((e ∷ body) ++ rest) all refl in
    let goes_on : goes_on_as_fraction (46 ∷ ((e ∷ body) ++ rest)) ≡ true = rw k refl in
    and_both _ _ first (ap goes_on_as_fraction run ∙ goes_on)

fraction : (previous last body rest : List ℕ)
    → (are_digits previous && bytes_eq last (codes ".") && is_ascii_digit (get_or body 0 0)) ≡ true
    → NoTokenStands previous (last ++ (body ++ rest))
fraction previous last body rest h b t st =
    let front = and_left (are_digits previous && bytes_eq last (codes ".")) _ h in
    let dot = same_bytes last (codes ".") (and_right (are_digits previous) _ front) in
    let is : begins_fraction (previous ++ 46 ∷ (body ++ rest)) ≡ true = begins previous body rest (and_left _ _ front)
    (and_right (are_digits previous && bytes_eq last (codes ".")) _ h) in
    let both : true ≡ false = sym is ∙ sym (ap (λ l. begins_fraction (previous ++ (l ++ (body ++ rest)))) dot) ∙ st.whole in
    cc

by_cases : (a c : Bool) → (a || c) ≡ true → (a ≡ true) ⊎ (c ≡ true)
by_cases true c h = inl refl
by_cases false c h = inr h

by_either : {A B P Q : Type 0} → (A → P) → (B → Q) → A ⊎ B → P ⊎ Q
by_either f g (inl a) = inl (f a)
by_either f g (inr b) = inr (g b)

pub growing_pieces_are_others : GrowingPiecesAreOthers
growing_pieces_are_others last previous body rest h =
    by_either (lengthens last body rest) (fraction previous last body rest) (by_cases _ _ h)
