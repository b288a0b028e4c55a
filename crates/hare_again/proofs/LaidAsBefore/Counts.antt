-- How many comments stand in front of the tokens of a layout, as they are read.
use Rattle.std.proofs.Common.{◌≡◌, ℕ, suc, ◌+◌, List, [], ◌∷◌, ◌++◌, Bool, true, false, ◌&&◌, length, drop, refl, sym, ap, ◌∙◌, subst, arith, if◌then◌else◌}
use Rattle.hare_ways.specs.declared.way.Start.{Start}
use Rattle.hare_ways.specs.declared.way.Way.{Way}
use Rattle.hare_commas.specs.Commas.{settled, comma_count, AreSpread}
use Rattle.hare_lines.specs.declared.way.Feeds.{Feeds}
use Rattle.hare_lines.specs.Read.{Seen, is_quoted, is_string, comments_before}
use Rattle.hare_lines.specs.Gaps.{Behind, placed, next_is_string, string_way, behind_piece, behind_comma, at_start}
use Rattle.hare_lines.specs.Layout.{read_again}
use Rattle.hare_again.specs.Again.{comma_seen, laid_seen, written_seen}
use Rattle.hare_again.proofs.LaidAsBefore.PiecesAgain.{seen_as, way_as}

-- ---- the end

-- no comma is added in front of the last
abbrev pub EndsPlain : List Way → Type 0
EndsPlain [] = Unit {0}
EndsPlain (w ∷ []) = w.comma ≡ false
EndsPlain (w ∷ v ∷ ws) = EndsPlain (v ∷ ws)

ends-behind : (w : Way) (ws : List Way) → EndsPlain (w ∷ ws) → EndsPlain ws
ends-behind w [] e = tt
ends-behind w (v ∷ ws) e = e

-- ---- one token

-- one more token, in front of which a comma is added or not
spread-comma : (s : Start) (d n : ℕ) (j k : Bool) (ws : List Way) (c : ℕ) (cs ds : List ℕ)
    → AreSpread (way_as s d j k false ∷ ws) (c ∷ cs) ds → AreSpread (way_as s d j k true ∷ ws) (c ∷ cs) (n ∷ ds)
spread-comma s d n j k ws c cs ds h = h

-- the comments in front of pieces are never none
record Begins (cs : List ℕ) : Type 0 where
  first : ℕ
  rest : List ℕ
  is : cs ≡ first ∷ rest

begins-by : (c b : Bool) (n : ℕ) (x y z : List ℕ) → Begins x → Begins y → Begins (if c then x else if b then y else n ∷ z)
begins-by true b n x y z p q = p
begins-by false true n x y z p q = q
begins-by false false n x y z p q = record { first = n; rest = z; is = refl }

counts-begin : (n : ℕ) (s : Bool) (xs : List Seen) → Begins (comments_before n s xs)
counts-begin n s [] = record { first = n; rest = []; is = refl }
counts-begin n s (x ∷ xs) =
    begins-by x.comment (s && is_string x) n _ _ _ (counts-begin (n + 1) s xs) (counts-begin n true xs)

-- a comma in front of the pieces
spread-added : (s : Start) (d n : ℕ) (j k : Bool) (ws : List Way) (cs ds : List ℕ) → Begins cs
    → AreSpread (way_as s d j k false ∷ ws) cs ds → AreSpread (way_as s d j k true ∷ ws) cs (n ∷ ds)
spread-added s d n j k ws cs ds b h =
    subst (λ l. AreSpread (way_as s d j k true ∷ ws) l (n ∷ ds)) (sym b.is)
    (spread-comma s d n j k ws b.first b.rest ds (subst (λ l. AreSpread (way_as s d j k false ∷ ws) l ds) b.is h))

-- ---- pieces

-- the next token is a string behind a string
abbrev IsJoined : Bool → Bool → List Seen → Type 0
IsJoined joined behind xs = joined ≡ (behind && next_is_string xs)

-- the ways that are left are as many as the tokens, and the end
abbrev AreAsMany : ℕ → Bool → List Seen → List Way → Type 0
AreAsMany n s xs ws = (length (comments_before n s xs) ≡ length ws) × EndsPlain ws

abbrev CountsStay : List Seen → Type 0
CountsStay xs =
    (b : Behind) (joined : Bool) (d : ℕ) (ws : List Way) (n : ℕ) (s t : Bool) → IsJoined joined s xs → IsJoined joined t xs
    → AreAsMany n s xs ws → AreSpread ws (comments_before n s xs) (comments_before n t (laid_seen b (placed joined d ws xs)))

false-true : {A : Type 0} → false ≡ true → A
false-true h = cc

true-false : {A : Type 0} → true ≡ false → A
true-false h = cc

nil-spread : (ws : List Way) (n : ℕ) → length (n ∷ []) ≡ length ws → EndsPlain ws → AreSpread ws (n ∷ []) (n ∷ [])
nil-spread [] n e p = tt
nil-spread (w ∷ []) n e p = ([], ap (λ c. drop (comma_count c) (n ∷ [])) p, tt)
nil-spread (w ∷ v ∷ ws) n e p = cc

suc-same : (a b : ℕ) → suc a ≡ suc b → a ≡ b
suc-same a b e = omega (arith, e)

and-true : (s q : Bool) → true ≡ (s && q) → q ≡ true
and-true true q e = sym e
and-true false q e = true-false e

-- a string behind a string has no entry of its own
string-skipped : (s q : Bool) (n : ℕ) (x y : List ℕ) → true ≡ (s && q) → (if s && q then x else n ∷ y) ≡ x
string-skipped s q n x y e = ap (λ c. if c then x else n ∷ y) (sym e)

token-counted : (s q : Bool) (n : ℕ) (x y : List ℕ) → false ≡ (s && q) → (if s && q then x else n ∷ y) ≡ n ∷ y
token-counted s q n x y e = ap (λ c. if c then x else n ∷ y) (sym e)

abbrev read_as : Behind → Feeds → List ℕ → Bool → Way → Seen
read_as b f o c w = (read_again b (record { piece = seen_as f o c; way = w })).piece

-- behind a string
joined-step : (b : Behind) (d : ℕ) (ws : List Way) (n : ℕ) (s t : Bool) (f : Feeds) (o : List ℕ) (c : Bool) (xs : List Seen) → CountsStay xs
    → IsJoined true s (seen_as f o c ∷ xs) → IsJoined true t (seen_as f o c ∷ xs) → AreAsMany n s (seen_as f o c ∷ xs) ws
    → AreSpread ws (comments_before n s (seen_as f o c ∷ xs)) (comments_before n t (laid_seen b (placed true d ws (seen_as f o c ∷ xs))))
joined-step b d ws n s t f o true xs all p q m =
    all (behind_piece b (record { piece = seen_as f o true; way = string_way d })) true d ws (n + 1) s t p q m
joined-step b d ws n s t f o false xs all p q m =
    let quoted = is_quoted o in
    let behind = behind_piece b (record { piece = seen_as f o false; way = string_way d }) in
    let rest = laid_seen behind (placed (quoted && next_is_string xs) d ws xs) in
    let old = string-skipped s quoted n (comments_before n true xs) (comments_before n quoted xs) p in
    let new = string-skipped t quoted n (comments_before n true rest) (comments_before n quoted rest) q in
    let string : IsJoined (quoted && next_is_string xs) true xs = ap (λ y. y && next_is_string xs) (and-true s quoted p) in
    let many : AreAsMany n true xs ws = (ap length (sym old) ∙ m.0, m.1) in
    subst (AreSpread ws (comments_before n s (seen_as f o false ∷ xs))) (sym new)
    (subst (λ l. AreSpread ws l (comments_before n true rest)) (sym old)
    (all behind (quoted && next_is_string xs) d ws n true true string string many))

-- a token of its own, in front of which no comma is added
plain-step : (b : Behind) (d : ℕ) (w : Way) (vs : List Way) (n : ℕ) (s t : Bool) (f : Feeds) (o : List ℕ) (c : Bool) (xs : List Seen)
    → CountsStay xs → w.comma ≡ false → IsJoined false s (seen_as f o c ∷ xs) → IsJoined false t (seen_as f o c ∷ xs)
    → AreAsMany n s (seen_as f o c ∷ xs) (settled w ∷ vs)
    → AreSpread (settled w ∷ vs) (comments_before n s (seen_as f o c ∷ xs))
    (comments_before n t (laid_seen b (placed false d (settled w ∷ vs) (seen_as f o c ∷ xs))))
plain-step b d w vs n s t f o true xs all e p q m =
    all (behind_piece b (record { piece = seen_as f o true; way = settled w })) false d (settled w ∷ vs) (n + 1) s t p q m
plain-step b d w vs n s t f o false xs all e p q m =
    let quoted = is_quoted o in
    let behind = behind_piece b (record { piece = seen_as f o false; way = settled w }) in
    let rest = laid_seen behind (placed (quoted && next_is_string xs) w.depth vs xs) in
    let old = token-counted s quoted n (comments_before n true xs) (comments_before n quoted xs) p in
    let new = token-counted t quoted n (comments_before n true rest) (comments_before n quoted rest) q in
    let many : AreAsMany n quoted xs vs = (suc-same _ _ (ap length (sym old) ∙ m.0), ends-behind (settled w) vs m.1) in
    subst (AreSpread (settled w ∷ vs) (comments_before n s (seen_as f o false ∷ xs))) (sym new)
    (subst (λ l. AreSpread (settled w ∷ vs) l (n ∷ comments_before n quoted rest)) (sym old)
    (comments_before n quoted rest, refl, all behind (quoted && next_is_string xs) w.depth vs n quoted quoted refl refl many))

-- behind a comma that is added
comma-counted : (t : Bool) (n : ℕ) (rest : List Seen)
    → comments_before n t (comma_seen true ++ rest) ≡ n ∷ comments_before n false rest
comma-counted true n rest = refl
comma-counted false n rest = refl

ends-settled : (w : Way) (vs : List Way) → EndsPlain (w ∷ vs) → EndsPlain (settled w ∷ vs)
ends-settled w [] e = refl
ends-settled w (v ∷ vs) e = e

way-step : (b : Behind) (d : ℕ) (s' : Start) (k : ℕ) (i j y : Bool) (vs : List Way) (n : ℕ) (s t : Bool) (x : Seen) (xs : List Seen)
    → CountsStay xs → IsJoined false s (x ∷ xs) → IsJoined false t (x ∷ xs) → AreAsMany n s (x ∷ xs) (way_as s' k i j y ∷ vs)
    → AreSpread (way_as s' k i j y ∷ vs) (comments_before n s (x ∷ xs))
    (comments_before n t (laid_seen b (placed false d (way_as s' k i j y ∷ vs) (x ∷ xs))))
way-step b d s' k i j true vs n s t x xs all p q m =
    let w = way_as s' k i j false in
    let rest = laid_seen behind_comma (placed false d (w ∷ vs) (x ∷ xs)) in
    subst (AreSpread (way_as s' k i j true ∷ vs) (comments_before n s (x ∷ xs))) (sym (comma-counted t n rest))
    (spread-added s' k n i j vs (comments_before n s (x ∷ xs)) (comments_before n false rest) (counts-begin n s (x ∷ xs))
    (plain-step behind_comma d w vs n s false x.feeds x.body x.comment xs all refl p refl
    (m.0, ends-settled (way_as s' k i j true) vs m.1)))
way-step b d s' k i j false vs n s t x xs all p q m =
    plain-step b d (way_as s' k i j false) vs n s t x.feeds x.body x.comment xs all refl p q m

next-counts : (x : Seen) (xs : List Seen) → CountsStay xs → CountsStay (x ∷ xs)
next-counts x xs all b true d ws n s t p q m = joined-step b d ws n s t x.feeds x.body x.comment xs all p q m
next-counts x xs all b false d [] n s t p q m = tt
next-counts x xs all b false d (w ∷ vs) n s t p q m =
    way-step b d w.start w.depth w.joins_before w.joins_behind w.comma vs n s t x xs all p q m

all-counts : (xs : List Seen) → CountsStay xs
all-counts [] b joined d ws n s t p q m = nil-spread ws n m.0 m.1
all-counts (x ∷ xs) b joined d ws n s t p q m = next-counts x xs (all-counts xs) b joined d ws n s t p q m

-- so many comments stand in front of the tokens of a layout, where the commas that were added are tokens
pub counts-spread : (ws : List Way) (xs : List Seen) → length (comments_before 0 false xs) ≡ length ws → EndsPlain ws
    → AreSpread ws (comments_before 0 false xs) (comments_before 0 false (written_seen ws xs))
counts-spread ws xs e p = all-counts xs at_start false 0 ws 0 false false refl refl (e, p)
