-- A layout is UTF-8, as its source is.
use Rattle.std.proofs.Common.{◌≡◌, ℕ, zero, suc, ◌<◌, List, [], ◌∷◌, ◌++◌, Bool, true, false, ◌&&◌, leb, get_or, length, drop, replicate, refl, sym, ap, ◌∙◌, subst, arith, length-append, append-nil, if◌then◌else◌}
use Rattle.std.proofs.Math.Logic.{⊎_elim}
use Rattle.std.proofs.Math.Seq.{take-append_seam, drop-append_seam, get_or-append_seam}
use Rattle.std.specs.Prelude.{slice_range, codes}
use Rattle.std.specs.List.{list_all}
use Rattle.std.specs.Char.{IsScalar}
use Rattle.std.specs.Str.{IsUtf8}
use Rattle.std.proofs.lemmas.Str.{IsUtf8-nil, IsUtf8-append, IsUtf8-take, IsUtf8-drop, IsUtf8-encode, encode_ascii, IsCharBoundary-before_ascii}
use Rattle.std.proofs.lemmas.Bool.Decides.{nat_tests}
use Rattle.std.proofs.lemmas.Grind.{common_steps}
use Rattle.hare_tree.specs.declared.token.TokenKind.{TokenKind}
use Rattle.hare_tree.specs.declared.token.TokenKind.TheVariants.{Name, Keyword, Number, Str, RuneLit, Mark, End}
use Rattle.hare_tree.specs.declared.token.Suffix.{Suffix}
use Rattle.hare_tree.specs.declared.token.Token.{Token}
use Rattle.hare_tree.specs.Words.{is_blank, is_listed, marks}
use Rattle.hare_tree.specs.Spelling.{IsSpellingOf, IsSpelling}
use Rattle.hare_tree.specs.Tokens.{IsComment, is_path_mark}
use Rattle.hare_lex.proofs.Fronts.Lists.{and_left, and_both, listed_case}
use Rattle.hare_lex.proofs.Fronts.Firsts.{is_first, first_of_kind, all_listed}
use Rattle.hare_pieces.specs.declared.piece.Piece.{Piece}
use Rattle.hare_pieces.specs.Pieces.{ConsistsOf, are_blank}
use Rattle.hare_lines.specs.declared.way.Gap.{Gap}
use Rattle.hare_lines.specs.declared.way.Gap.TheVariants.{First, Join, Blank, Line}
use Rattle.hare_ways.specs.declared.way.Way.{Way}
use Rattle.hare_lines.specs.Read.{Seen, seen_from, before_blanks, trimmed, is_string}
use Rattle.hare_lines.specs.Gaps.{Behind, Placed, placed, at_start, next_is_string, without_comma, laid, comma_of, gap_of, behind_added, behind_piece}
use Rattle.hare_lines.specs.Layout.{gap_bytes, with_end, laid_bytes, written}
use Rattle.hare_again.proofs.LaidAsBefore.PiecesAgain.{way_here}
use Rattle.hare_again.proofs.LaidAsBefore.Sources.{piece-text, rest-text, rest-at}

-- ---- texts cut in front of an ASCII byte

-- nothing, or an ASCII byte comes first
abbrev pub BeginsAscii : List ℕ → Type 0
BeginsAscii [] = Unit {0}
BeginsAscii (c ∷ s) = c < 128

seam-boundary : (a : List ℕ) (c : ℕ) (s : List ℕ) → length a < length (a ++ c ∷ s)
seam-boundary a c s = omega (arith, length-append a (c ∷ s))

front-utf8 : (a rest : List ℕ) → BeginsAscii rest → IsUtf8 (a ++ rest) → IsUtf8 a
front-utf8 a [] f u = subst IsUtf8 (append-nil a) u
front-utf8 a (c ∷ s) f u =
    let at = IsCharBoundary-before_ascii (a ++ c ∷ s) (length a) (seam-boundary a c s)
    (subst (λ k. k < 128) (sym (get_or-append_seam a c s 0)) f) in
    subst IsUtf8 (take-append_seam a (c ∷ s)) (IsUtf8-take (a ++ c ∷ s) (length a) u at)

behind-utf8 : (a rest : List ℕ) → BeginsAscii rest → IsUtf8 (a ++ rest) → IsUtf8 rest
behind-utf8 a [] f u = IsUtf8-nil
behind-utf8 a (c ∷ s) f u =
    let at = IsCharBoundary-before_ascii (a ++ c ∷ s) (length a) (seam-boundary a c s)
    (subst (λ k. k < 128) (sym (get_or-append_seam a c s 0)) f) in
    subst IsUtf8 (drop-append_seam a (c ∷ s)) (IsUtf8-drop (a ++ c ∷ s) (length a) u at)

-- ---- first bytes

blank-ascii : (c : ℕ) → is_blank c ≡ true → c < 128
blank-ascii c h = grind (arith, nat_tests, common_steps)

letter-small : (k : TokenKind) (c : ℕ) → is_first k c ≡ true → (k ≡ Mark → ⊥) → c < 128
letter-small Name c f n = grind (arith, nat_tests, common_steps)
letter-small Keyword c f n = grind (arith, nat_tests, common_steps)
letter-small Number c f n = grind (arith, nat_tests, common_steps)
letter-small Str c f n = grind (arith, nat_tests, common_steps)
letter-small RuneLit c f n = grind (arith, nat_tests, common_steps)
letter-small Mark c f n = absurd (n refl)
letter-small End c f n = cc

small : List ℕ → Bool
small w = leb (suc (get_or w 0 0)) 128

marks-small : list_all small marks ≡ true
unfolding small
marks-small = refl

leb-less : (c : ℕ) → leb (suc c) 128 ≡ true → c < 128
leb-less c h = grind (arith, nat_tests)

mark-small : (w : List ℕ) → is_listed marks w ≡ true → get_or w 0 0 < 128
unfolding small
mark-small w h = leb-less (get_or w 0 0) (listed_case (λ v. small v ≡ true) marks w (all_listed small marks marks-small) h)

no-kind : {A : Type 0} (k : TokenKind) → k ≡ Mark → (k ≡ Mark → ⊥) → A
no-kind k e f = absurd (f e)

spelling-small : (k : TokenKind) (text : List ℕ) (n : ℕ) (x : Suffix) (s : List ℕ) → IsSpellingOf k text n x s →
    is_first k (get_or s 0 0) ≡ true
    → get_or s 0 0 < 128
spelling-small Mark text n x s h f = mark-small s h.3
spelling-small Name text n x s h f = letter-small Name (get_or s 0 0) f (λ e. cc)
spelling-small Keyword text n x s h f = letter-small Keyword (get_or s 0 0) f (λ e. cc)
spelling-small Number text n x s h f = letter-small Number (get_or s 0 0) f (λ e. cc)
spelling-small Str text n x s h f = letter-small Str (get_or s 0 0) f (λ e. cc)
spelling-small RuneLit text n x s h f = letter-small RuneLit (get_or s 0 0) f (λ e. cc)
spelling-small End text n x s h f = absurd h

begins-at : (s rest : List ℕ) → 0 < length s → get_or s 0 0 < 128 → BeginsAscii (s ++ rest)
begins-at [] rest l h = absurd (omega (arith, l))
begins-at (c ∷ s) rest l h = h

token-ascii : (t : Token) (s rest : List ℕ) → IsSpelling t s → BeginsAscii (s ++ rest)
token-ascii t s rest h =
    let f = first_of_kind t.kind t.text t.number t.suffix s h in
    begins-at s rest f.0 (spelling-small t.kind t.text t.number t.suffix s h f.1)

comment-ascii : (s rest : List ℕ) → IsComment s rest → BeginsAscii (s ++ rest)
comment-ascii s rest k = subst (λ l. BeginsAscii (l ++ rest)) (sym k.1) (omega arith)

blanks-ascii : (b rest : List ℕ) → are_blank b ≡ true → BeginsAscii rest → BeginsAscii (b ++ rest)
blanks-ascii [] rest h f = f
blanks-ascii (c ∷ b) rest h f = blank-ascii c (and_left _ _ h)

all-blanks-ascii : (b : List ℕ) → are_blank b ≡ true → BeginsAscii b
all-blanks-ascii [] h = tt
all-blanks-ascii (c ∷ b) h = blank-ascii c (and_left _ _ h)

-- what consists of pieces begins so
consists-ascii : (at : ℕ) (b : Bool) (text : List ℕ) (ts : List Token) (ps : List Piece) → ConsistsOf at b text ts ps → BeginsAscii text
consists-ascii at b text ts [] c = all-blanks-ascii text c.1
consists-ascii at b text ts (p ∷ ps) c =
    subst BeginsAscii (sym c.3)
    (blanks-ascii c.0 (c.1 ++ c.2) c.4
    (⊎_elim (λ k. comment-ascii c.1 c.2 k.1) (λ k. token-ascii k.0 c.1 c.2 k.5.fits.spells) c.7))

-- ---- comments without the blanks at their end

record IsTrimmed (s : List ℕ) : Type 0 where
  end : List ℕ
  split : s ≡ trimmed s ++ end
  blank : are_blank end ≡ true

trimmed-split : (s : List ℕ) → IsTrimmed s
trimmed-split [] = record { end = []; split = refl; blank = refl }
trimmed-split (c ∷ s) =
    let t = trimmed-split s in
    let n = by (trimmed s) t.end t.split t.blank in
    record { end = n.0; split = n.1; blank = n.2 }
  where
    first : (b : Bool) (e : List ℕ) → is_blank c ≡ b → are_blank e ≡ true
        → (d : List ℕ) × (c ∷ e ≡ (if b then [] else c ∷ []) ++ d) × (are_blank d ≡ true)
    first true e h k = (c ∷ e, refl, and_both _ _ h k)
    first false e h k = (e, refl, k)

    by : (t e : List ℕ) → s ≡ t ++ e → are_blank e ≡ true → (d : List ℕ) × (c ∷ s ≡ before_blanks c t ++ d) × (are_blank d ≡ true)
    by [] e h k = let f = first (is_blank c) e refl k in (f.0, ap (λ l. c ∷ l) h ∙ f.1, f.2)
    by (x ∷ t) e h k = (e, ap (λ l. c ∷ l) h, k)

trimmed-utf8 : (s : List ℕ) → IsUtf8 s → IsUtf8 (trimmed s)
trimmed-utf8 s u =
    let t = trimmed-split s in
    front-utf8 (trimmed s) t.end (all-blanks-ascii t.end t.blank) (subst IsUtf8 t.split u)

-- ---- the pieces of a source

abbrev pub AreUtf8 : List Seen → Type 0
AreUtf8 [] = Unit {0}
AreUtf8 (x ∷ xs) = IsUtf8 x.body × AreUtf8 xs

body-utf8 : (k : Bool) (s : List ℕ) → IsUtf8 s → IsUtf8 (if k then trimmed s else s)
body-utf8 true s u = trimmed-utf8 s u
body-utf8 false s u = u

pub source-utf8 : (src before text : List ℕ) (at : ℕ) (b : Bool) (ts : List Token) (ps : List Piece) → src ≡ before ++ text →
    at ≡ length before
    → ConsistsOf at b text ts ps → IsUtf8 text → AreUtf8 (seen_from src at ps)
source-utf8 src before text at b ts [] e f c u = tt
source-utf8 src before text at b ts (x ∷ ps) e f c u =
    let rest = rest-text src before c.0 c.1 c.2 text e c.3 in
    let next = rest-at before c.0 c.1 at x.from x.to f c.5 c.6 in
    let bytes = piece-text src before c.0 c.1 c.2 text at x.from x.to e f c.3 c.5 c.6 in
    let begins = ⊎_elim (λ k. comment-ascii c.1 c.2 k.1) (λ k. token-ascii k.0 c.1 c.2 k.5.fits.spells) c.7 in
    let both = behind-utf8 c.0 (c.1 ++ c.2) begins (subst IsUtf8 c.3 u) in
    let ends : BeginsAscii c.2 = ⊎_elim (λ k. consists-ascii x.to b c.2 ts ps k.2)
    (λ k. consists-ascii x.to (is_path_mark k.0.kind k.0.text) c.2 k.1 ps k.6) c.7 in
    let here = front-utf8 c.1 c.2 ends both in
    let there = behind-utf8 c.1 c.2 ends both in (
      body-utf8 x.comment (slice_range src x.from x.to) (subst IsUtf8 (sym bytes) here),
      ⊎_elim (λ k. source-utf8 src (before ++ (c.0 ++ c.1)) c.2 x.to b ts ps rest next k.2 there)
          (λ k. source-utf8 src (before ++ (c.0 ++ c.1)) c.2 x.to (is_path_mark k.0.kind k.0.text) k.1 ps rest next k.6 there) c.7,
    )

-- ---- the layout

ascii-one : (c : ℕ) → c < 128 → IsScalar c → IsUtf8 (c ∷ [])
ascii-one c h k = subst IsUtf8 (encode_ascii c h) (IsUtf8-encode c k)

tabs-utf8 : (n : ℕ) → IsUtf8 (replicate n 9)
tabs-utf8 zero = IsUtf8-nil
tabs-utf8 (suc n) = IsUtf8-append (9 ∷ []) (replicate n 9) (ascii-one 9 (omega arith) refl) (tabs-utf8 n)

gap-utf8 : (g : Gap) → IsUtf8 (gap_bytes g)
gap-utf8 First = IsUtf8-nil
gap-utf8 Join = IsUtf8-nil
gap-utf8 Blank = ascii-one 32 (omega arith) refl
gap-utf8 (Line true n) =
    IsUtf8-append (10 ∷ []) (10 ∷ replicate n 9) (ascii-one 10 (omega arith) refl)
    (IsUtf8-append (10 ∷ []) (replicate n 9) (ascii-one 10 (omega arith) refl) (tabs-utf8 n))
gap-utf8 (Line false n) = IsUtf8-append (10 ∷ []) (replicate n 9) (ascii-one 10 (omega arith) refl) (tabs-utf8 n)

comma-utf8 : (y : Bool) (l : List (Gap × List ℕ)) → IsUtf8 (laid_bytes l) → IsUtf8 (laid_bytes (comma_of y ++ l))
comma-utf8 true l u = IsUtf8-append (codes ",") (laid_bytes l) (ascii-one 44 (omega arith) refl) u
comma-utf8 false l u = u

abbrev PlacedAreUtf8 : List Placed → Type 0
PlacedAreUtf8 [] = Unit {0}
PlacedAreUtf8 (p ∷ ps) = IsUtf8 p.piece.body × PlacedAreUtf8 ps

placed-utf8 : (c : Behind) (ps : List Placed) → PlacedAreUtf8 ps → IsUtf8 (laid_bytes (laid c ps))
placed-utf8 c [] u = IsUtf8-nil
placed-utf8 c (p ∷ ps) u =
    let here = behind_added p.way.comma c in
    let rest = laid (behind_piece here p) ps in
    comma-utf8 p.way.comma ((gap_of here p, p.piece.body) ∷ rest)
    (IsUtf8-append (gap_bytes (gap_of here p) ++ p.piece.body) (laid_bytes rest)
    (IsUtf8-append (gap_bytes (gap_of here p)) p.piece.body (gap-utf8 (gap_of here p)) u.0) (placed-utf8 (behind_piece here p) ps u.1))

seen-utf8 : (joined : Bool) (d : ℕ) (ws : List Way) (xs : List Seen) → AreUtf8 xs → PlacedAreUtf8 (placed joined d ws xs)
seen-utf8 joined d ws [] u = tt
seen-utf8 joined d ws (x ∷ xs) u = (
  u.0,
  either x.comment _ _ (seen-utf8 joined d (if joined then ws else without_comma ws) xs u.1)
      (seen-utf8 (is_string x && next_is_string xs) (way_here joined d ws).depth (if joined then ws else drop 1 ws) xs u.1),
)
  where
    either : (k : Bool) (a b : List Placed) → PlacedAreUtf8 a → PlacedAreUtf8 b → PlacedAreUtf8 (if k then a else b)
    either true a b p q = p
    either false a b p q = q

pub written-utf8 : (ws : List Way) (xs : List Seen) → AreUtf8 xs → IsUtf8 (written ws xs)
written-utf8 ws xs u = ended (laid_bytes (laid at_start (placed false 0 ws xs)))
    (placed-utf8 at_start (placed false 0 ws xs) (seen-utf8 false 0 ws xs u))
  where
    ended : (s : List ℕ) → IsUtf8 s → IsUtf8 (with_end s)
    ended [] v = v
    ended (c ∷ s) v = IsUtf8-append (c ∷ s) (10 ∷ []) v (ascii-one 10 (omega arith) refl)
