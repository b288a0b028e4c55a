-- The pieces of a source are as many tokens as its tree has, strings side by side counted once.
use Rattle.std.proofs.Common.{◌≡◌, ℕ, ◌+◌, ◌-◌, List, [], ◌∷◌, ◌++◌, Bool, true, false, ◌&&◌, Ok, length, take, drop, get_or, refl, sym, ap, ◌∙◌, subst, arith, append_assoc, length-append, if◌then◌else◌}
use Rattle.std.proofs.Math.Logic.{⊎_elim}
use Rattle.std.specs.Prelude.{◌||◌, ◌==◌, not, slice_range}
use Rattle.std.specs.Char.{is_ascii_digit}
use Rattle.std.proofs.lemmas.Bool.Decides.{nat_tests}
use Rattle.std.proofs.lemmas.Grind.{common_steps}
use Rattle.std.proofs.lemmas.List.{length-map}
use Rattle.hare_tree.specs.declared.place.Place.{Place}
use Rattle.hare_tree.specs.declared.token.Token.{Token}
use Rattle.hare_tree.specs.declared.token.TokenKind.{TokenKind}
use Rattle.hare_tree.specs.declared.token.TokenKind.TheVariants.{Name, Keyword, Number, Str, RuneLit, Mark, End}
use Rattle.hare_tree.specs.declared.token.Suffix.{Suffix}
use Rattle.hare_tree.specs.declared.tree.FileTree.{FileTree}
use Rattle.hare_tree.specs.Words.{is_letter}
use Rattle.hare_tree.specs.Spelling.{IsSpellingOf, IsSpelling}
use Rattle.hare_tree.specs.Spell.{spell_file}
use Rattle.hare_tree.specs.Shape.{has_no_suffix}
use Rattle.hare_tree.specs.Tokens.{IsTokens, end_at, place_at}
use Rattle.hare_tree.specs.Grammar as grammar
use Rattle.hare_tree.specs.Grammar.{is_proper_string, string_at, joined_to, joined, begins_with_string, before_end, unplaced, Spells}
use Rattle.hare_lex.proofs.Fronts.Firsts.{is_first, first_of_kind}
use Rattle.hare_lex.proofs.Whole.Unique.{only_tokens}
use Rattle.hare_pieces.specs.declared.piece.Piece.{Piece}
use Rattle.hare_pieces.specs.Pieces.{ConsistsOf, ArePieces}
use Rattle.hare_lines.specs.Read.{Seen, seen, seen_from, seen_piece, body_of, trimmed, is_quoted, comments_before}

-- ---- strings

true-false : {A : Type 0} → true ≡ false → A
true-false h = cc

letter-is-no-quote : (c : ℕ) → is_letter c ≡ true → ((c == 34) || (c == 96)) ≡ false
letter-is-no-quote c h = grind (arith, nat_tests, common_steps)

digit-is-no-quote : (c : ℕ) → is_ascii_digit c ≡ true → ((c == 34) || (c == 96)) ≡ false
digit-is-no-quote c h = grind (arith, nat_tests, common_steps)

rune-is-no-quote : (c : ℕ) → (c == 39) ≡ true → ((c == 34) || (c == 96)) ≡ false
rune-is-no-quote c h = grind (arith, nat_tests, common_steps)

other-is-no-quote : (a b c d e f : Bool) → not (a || b || c || d || e || f) ≡ true → (c || d) ≡ false
other-is-no-quote true b c d e f h = true-false (sym h)
other-is-no-quote false true c d e f h = true-false (sym h)
other-is-no-quote false false true d e f h = true-false (sym h)
other-is-no-quote false false false true e f h = true-false (sym h)
other-is-no-quote false false false false e f h = refl

proper-by : (n : ℕ) (x : Suffix) → n ≡ 0 → has_no_suffix x ≡ true → (has_no_suffix x && n == 0) ≡ true
proper-by n x e f = rw (e, f) refl

-- a token is a string where its spelling begins with a quote
quoted-by : (k : TokenKind) (text : List ℕ) (n : ℕ) (x : Suffix) (w : List ℕ) → IsSpellingOf k text n x w → is_first k (get_or w 0 0) ≡ true
    → is_quoted w ≡ (grammar.is_string k && has_no_suffix x && n == 0)
quoted-by Name text n x w h f = letter-is-no-quote (get_or w 0 0) f
quoted-by Keyword text n x w h f = letter-is-no-quote (get_or w 0 0) f
quoted-by Number text n x w h f = digit-is-no-quote (get_or w 0 0) f
quoted-by Str text n x w h f = f ∙ sym (proper-by n x h.0 (ap has_no_suffix h.1))
quoted-by RuneLit text n x w h f = rune-is-no-quote (get_or w 0 0) f
quoted-by Mark text n x w h f =
    let c = get_or w 0 0 in
    other-is-no-quote (is_letter c) (is_ascii_digit c) (c == 34) (c == 96) (c == 39) (c == 64) f
quoted-by End text n x w h f = absurd h

pub string-is-proper : (t : Token) (s : List ℕ) → IsSpelling t s → is_quoted s ≡ is_proper_string t
string-is-proper t s h =
    quoted-by t.kind t.text t.number t.suffix s h (first_of_kind t.kind t.text t.number t.suffix s h).1

-- ---- tokens, strings side by side counted once

abbrev one_if : Bool → ℕ
one_if true = 1
one_if false = 0

joined-first : (p q : Bool) (t u : Token) (us : List Token) → is_proper_string t ≡ p
    → begins_with_string (if p then (if q then string_at t.place (t.text ++ u.text) ∷ us else t ∷ u ∷ us) else t ∷ u ∷ us) ≡ p
joined-first true true t u us e = refl
joined-first true false t u us e = e
joined-first false q t u us e = e

joined-to-first : (t : Token) (us : List Token) → begins_with_string (joined_to t us) ≡ is_proper_string t
joined-to-first t [] = refl
joined-to-first t (u ∷ us) = joined-first (is_proper_string t) (is_proper_string u) t u us refl

pub joined-begins : (ts : List Token) → begins_with_string (joined ts) ≡ begins_with_string ts
joined-begins [] = refl
joined-begins (t ∷ ts) = joined-to-first t (joined ts)

joined-by : (p q : Bool) (t u : Token) (us : List Token)
    → length (if p then (if q then string_at t.place (t.text ++ u.text) ∷ us else t ∷ u ∷ us) else t ∷ u ∷ us) + one_if (p && q)
    ≡ length (u ∷ us) + 1
joined-by true true t u us = omega arith
joined-by true false t u us = omega arith
joined-by false q t u us = omega arith

one-alone : (x : Bool) → 1 + one_if (x && false) ≡ 0 + 1
one-alone true = refl
one-alone false = refl

joined-to-length : (t : Token) (us : List Token)
    → length (joined_to t us) + one_if (is_proper_string t && begins_with_string us) ≡ length us + 1
joined-to-length t [] = one-alone (is_proper_string t)
joined-to-length t (u ∷ us) = joined-by (is_proper_string t) (is_proper_string u) t u us

-- ---- the text of a piece

take-front : (s v : List ℕ) → take (length s) (s ++ v) ≡ s
take-front [] v = refl
take-front (c ∷ s) v = ap (λ l. c ∷ l) (take-front s v)

drop-front : (u w : List ℕ) → drop (length u) (u ++ w) ≡ w
drop-front [] w = refl
drop-front (c ∷ u) w = drop-front u w

plus-minus : (a b : ℕ) → a + b - a ≡ b
plus-minus a b = omega arith

pub slice-at : (u s v : List ℕ) → slice_range (u ++ (s ++ v)) (length u) (length u + length s) ≡ s
slice-at u s v =
    ap (λ k. take k (drop (length u) (u ++ (s ++ v)))) (plus-minus (length u) (length s))
    ∙ ap (take (length s)) (drop-front u (s ++ v)) ∙ take-front s v

pub piece-text : (src before blank s rest text : List ℕ) (at from to : ℕ) → src ≡ before ++ text → at ≡ length before
    → text ≡ blank ++ (s ++ rest) → from ≡ at + length blank → to ≡ from + length s → slice_range src from to ≡ s
piece-text src before blank s rest text at from to e f g h k =
    let u = before ++ blank in
    let start : from ≡ length u = omega (arith, h, f, length-append before blank) in
    let whole : src ≡ u ++ (s ++ rest) = e ∙ ap (λ l. before ++ l) g ∙ sym (append_assoc before blank (s ++ rest)) in
    let end : to ≡ length u + length s = omega (arith, k, start) in
    (λ i. slice_range (whole i) (start i) (end i)) ∙ slice-at u s rest

pub rest-text : (src before blank s rest text : List ℕ) → src ≡ before ++ text → text ≡ blank ++ (s ++ rest)
    → src ≡ (before ++ (blank ++ s)) ++ rest
rest-text src before blank s rest text e g =
    e ∙ ap (λ l. before ++ l) (g ∙ sym (append_assoc blank s rest)) ∙ sym (append_assoc before (blank ++ s) rest)

pub rest-at : (before blank s : List ℕ) (at from to : ℕ) → at ≡ length before → from ≡ at + length blank → to ≡ from + length s
    → to ≡ length (before ++ (blank ++ s))
rest-at before blank s at from to f h k = omega (arith, f, h, k, length-append before (blank ++ s), length-append blank s)

-- ---- pieces

-- so many tokens stand here, and the end, as these are with an end behind them
abbrev IsCounted : ℕ → Bool → List Seen → List Token → Place → Type 0
IsCounted n s xs ts p = length (comments_before n s xs) + one_if (s && begins_with_string ts) ≡ length (joined (ts ++ end_at p ∷ []))

comment-counted : (n : ℕ) (s : Bool) (x : Seen) (xs : List Seen) → x.comment ≡ true
    → comments_before n s (x ∷ xs) ≡ comments_before (n + 1) s xs
comment-counted n s x xs h = rw h refl

token-counted : (n : ℕ) (s : Bool) (x : Seen) (xs : List Seen) → x.comment ≡ false
    → comments_before n s (x ∷ xs)
    ≡ (if s && is_quoted x.body then comments_before n true xs else n ∷ comments_before n (is_quoted x.body) xs)
token-counted n s x xs h = rw h refl

pub end-begins : (ts : List Token) (p : Place) → begins_with_string (ts ++ end_at p ∷ []) ≡ begins_with_string ts
end-begins [] p = refl
end-begins (t ∷ ts) p = refl

none-left : (s : Bool) → one_if (s && false) ≡ 0
none-left true = refl
none-left false = refl

counted-by : (s q b : Bool) (n more all : ℕ) (xs : List Seen)
    → length (comments_before n q xs) + one_if (q && b) ≡ more → all + one_if (q && b) ≡ more + 1
    → length (if s && q then comments_before n true xs else n ∷ comments_before n q xs) + one_if (s && q) ≡ all
counted-by true true b n more all xs e f = omega (arith, e, f)
counted-by true false b n more all xs e f = omega (arith, e, f)
counted-by false q b n more all xs e f = omega (arith, e, f)

next-counted : (n : ℕ) (s : Bool) (x : Seen) (xs : List Seen) (t : Token) (ts : List Token) (p : Place) → x.comment ≡ false
    → is_quoted x.body ≡ is_proper_string t → IsCounted n (is_quoted x.body) xs ts p → IsCounted n s (x ∷ xs) (t ∷ ts) p
next-counted n s x xs t ts p c e h =
    let q = is_quoted x.body in
    let us = joined (ts ++ end_at p ∷ []) in
    let begins : begins_with_string us ≡ begins_with_string ts = joined-begins (ts ++ end_at p ∷ []) ∙ end-begins ts p in
    let step : length (joined_to t us) + one_if (q && begins_with_string ts) ≡ length us + 1 =
    ap (λ y. length (joined_to t us) + one_if (y && begins_with_string ts)) e
    ∙ ap (λ y. length (joined_to t us) + one_if (is_proper_string t && y)) (sym begins) ∙ joined-to-length t us in
    ap (λ l. length l + one_if (s && is_proper_string t)) (token-counted n s x xs c)
    ∙ ap (λ y. length (if s && q then comments_before n true xs else n ∷ comments_before n q xs) + one_if (s && y)) (sym e)
    ∙ counted-by s q (begins_with_string ts) n (length us) (length (joined_to t us)) xs h step

pieces-counted : (src before text : List ℕ) (at : ℕ) (b : Bool) (ts : List Token) (ps : List Piece) (n : ℕ) (s : Bool) (p : Place)
    → src ≡ before ++ text → at ≡ length before → ConsistsOf at b text ts ps → IsCounted n s (seen_from src at ps) ts p
pieces-counted src before text at b ts [] n s p e f c =
    subst (λ l. IsCounted n s [] l p) (sym c.0) (ap (λ k. 1 + k) (none-left s))
pieces-counted src before text at b ts (x ∷ ps) n s p e f c =
    let rest = rest-text src before c.0 c.1 c.2 text e c.3 in
    let next = rest-at before c.0 c.1 at x.from x.to f c.5 c.6 in
    let here = seen_piece src at x in
    ⊎_elim
    (λ k. ap (λ l. length l + one_if (s && begins_with_string ts)) (comment-counted n s here (seen_from src x.to ps) k.0)
    ∙ pieces-counted src (before ++ (c.0 ++ c.1)) c.2 x.to b ts ps (n + 1) s p rest next k.2)
    (λ k.
    let body : body_of src x ≡ c.1 = ap (λ y. if y then trimmed (slice_range src x.from x.to) else slice_range src x.from x.to) k.2
    ∙ piece-text src before c.0 c.1 c.2 text at x.from x.to e f c.3 c.5 c.6 in
    let string : is_quoted (body_of src x) ≡ is_proper_string k.0 = ap is_quoted body ∙ string-is-proper k.0 c.1 k.5.fits.spells in
    subst (λ l. IsCounted n s (here ∷ seen_from src x.to ps) l p) (sym k.3)
    (next-counted n s here (seen_from src x.to ps) k.0 k.1 p k.2 string
    (pieces-counted src (before ++ (c.0 ++ c.1)) c.2 x.to _ k.1 ps n (is_quoted (body_of src x)) p rest next k.6)))
    c.7

-- ---- sources

pub before-end : (ts : List Token) (p : Place) → before_end (ts ++ end_at p ∷ []) ≡ ts
before-end [] p = refl
before-end (t ∷ []) p = refl
before-end (t ∷ u ∷ ts) p = ap (λ l. t ∷ l) (before-end (u ∷ ts) p)

zero-more : (a : ℕ) → a ≡ a + 0
zero-more a = omega arith

pub sources-count : (src : List ℕ) (ts : List Token) (tree : FileTree) (ps : List Piece) → IsTokens 0 src ts → Spells (spell_file tree) ts
    → ArePieces src ps → length (comments_before 0 false (seen src ps)) ≡ length (spell_file tree)
sources-count src ts tree ps are spelled cut =
    let same : ts ≡ cut.tokens = only_tokens 0 src (Ok ts) are tt cut.tokens cut.are in
    let p = place_at 0 src in
    let parts = cut.are.spelled_by in
    let before : before_end cut.tokens ≡ parts = ap before_end cut.are.tokens_are ∙ before-end parts p in
    let count = pieces-counted src [] src 0 false parts ps 0 false p refl refl
    (subst (λ l. ConsistsOf 0 false src l ps) before cut.consists) in
    let tokens : length (joined (parts ++ end_at p ∷ [])) ≡ length (joined ts) =
    ap (λ l. length (joined l)) (sym (same ∙ cut.are.tokens_are)) in
    let tree_is : length (joined ts) ≡ length (spell_file tree) = sym (length-map (joined ts) unplaced) ∙ ap length (sym spelled)
    ∙ length-map (spell_file tree) unplaced in
    zero-more (length (comments_before 0 false (seen src ps))) ∙ count ∙ tokens ∙ tree_is
