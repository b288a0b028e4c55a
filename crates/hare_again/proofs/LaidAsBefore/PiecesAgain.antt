-- Pieces that are read of a layout are laid out as before.
use Rattle.std.proofs.Common.{◌≡◌, ℕ, List, [], ◌∷◌, ◌++◌, ◌⊎◌, inl, inr, Bool, true, false, ◌&&◌, codes, drop, refl, sym, ap, ◌∙◌, if◌then◌else◌}
use Rattle.std.specs.Prelude.{◌||◌, not, bytes_eq}
use Rattle.hare_ways.specs.declared.way.Start.{Start}
use Rattle.hare_ways.specs.declared.way.Way.{Way}
use Rattle.hare_ways.specs.Ways.{end_way}
use Rattle.hare_commas.specs.Commas.{comma_way, with_commas}
use Rattle.hare_lines.specs.declared.way.Feeds.{Feeds}
use Rattle.hare_lines.specs.declared.way.Feeds.TheVariants.{Same}
use Rattle.hare_lines.specs.declared.way.Before.TheVariants.{Opening, Other}
use Rattle.hare_lines.specs.declared.way.Gap.TheVariants.{Join}
use Rattle.hare_lines.specs.Read.{Seen, is_quoted, is_string}
use Rattle.hare_lines.specs.Gaps.{Behind, Placed, placed, next_way, next_is_string, string_way, without_comma, gap_of, are_digits, within_line, before_gap, behind_piece, behind_token, behind_comment, behind_comma, comma_of, behind_added, laid, at_start, is_opening}
use Rattle.hare_lines.specs.Layout.{read_again}
use Rattle.hare_again.specs.Again.{comma_seen, laid_seen, PiecesStay}
use Rattle.hare_again.proofs.LaidAsBefore.Alike.{quiet-nothing, quiet-comma, IsAlike, alike-same, gap-again, behind-alike}

-- ---- the pieces with their ways

abbrev pub seen_as : Feeds → List ℕ → Bool → Seen
seen_as f o c = record { feeds = f; body = o; comment = c }

-- a way that asks for a comma or does not
abbrev pub way_as : Start → ℕ → (before behind comma : Bool) → Way
way_as s d j k c = record { start = s; depth = d; joins_before = j; joins_behind = k; comma = c }

depth-by : (d e : ℕ) (ws : List Way) (x : Seen) (xs : List Seen) (c : Bool) →
    placed false d (without_comma ws) xs ≡ placed false e (without_comma ws) xs
    → record { piece = x; way = next_way ws } ∷ (if c then placed false d (without_comma ws) xs
    else placed (is_string x && next_is_string xs) (next_way ws).depth (drop 1 ws) xs)
    ≡ record { piece = x; way = next_way ws } ∷ (if c then placed false e (without_comma ws) xs
    else placed (is_string x && next_is_string xs) (next_way ws).depth (drop 1 ws) xs)
depth-by d e ws x xs true h = ap (λ ps. record { piece = x; way = next_way ws } ∷ ps) h
depth-by d e ws x xs false h = refl

-- where no string stood before, it does not matter how deep one stood
depth-blind : (d e : ℕ) (ws : List Way) (xs : List Seen) → placed false d ws xs ≡ placed false e ws xs
depth-blind d e ws [] = refl
depth-blind d e ws (x ∷ xs) = depth-by d e ws x xs x.comment (depth-blind d e (without_comma ws) xs)

-- ---- the next string is read as the next string

false-true : {A : Type 0} → false ≡ true → A
false-true h = cc

seen-by : (y c : Bool) (f : Feeds) (o : List ℕ) (rest xs : List Seen) →
    (y ≡ true → (if c then next_is_string xs else (not c && is_quoted o)) ≡ false)
    → (c ≡ true → next_is_string rest ≡ next_is_string xs)
    → next_is_string (comma_seen y ++ seen_as f o c ∷ rest) ≡ (if c then next_is_string xs else (not c && is_quoted o))
seen-by true c f o rest xs h k = sym (h refl)
seen-by false true f o rest xs h k = k refl
seen-by false false f o rest xs h k = refl

abbrev pub way_here : Bool → ℕ → List Way → Way
way_here joined d ws = if joined then string_way d else next_way ws

no-comma : (joined : Bool) (d : ℕ) (ws : List Way) → joined ≡ true → (way_here joined d ws).comma ≡ false
no-comma joined d ws e = ap (λ j. (way_here j d ws).comma) e

apart : (joined : Bool) (d : ℕ) (ws : List Way) (next : Bool) → (joined ≡ true) ⊎ (next ≡ false) → (way_here joined d ws).comma ≡ true
    → next ≡ false
apart joined d ws next (inl j) e = false-true (sym (no-comma joined d ws j) ∙ e)
apart joined d ws next (inr h) e = h

later : (joined c : Bool) (next q : Bool) → c ≡ true → (joined ≡ true) ⊎ ((if c then next else q) ≡ false) →
    (joined ≡ true) ⊎ (next ≡ false)
later joined c next q e (inl j) = inl j
later joined c next q e (inr h) = inr (ap (λ x. if x then next else q) (sym e) ∙ h)

-- It is the same where no comma stands in front of it: where it is joined to a string, and where it is none.
string-seen : (b : Behind) (joined : Bool) (d : ℕ) (ws : List Way) (xs : List Seen) → (joined ≡ true) ⊎ (next_is_string xs ≡ false)
    → next_is_string (laid_seen b (placed joined d ws xs)) ≡ next_is_string xs
string-seen b joined d ws [] h = refl
string-seen b joined d ws (x ∷ xs) h =
    let w = way_here joined d ws in
    let comment = placed joined d (if joined then ws else without_comma ws) xs in
    let token = placed (is_string x && next_is_string xs) w.depth (if joined then ws else drop 1 ws) xs in
    let here = behind_added w.comma b in
    let p : Placed = record { piece = x; way = w } in
    let behind = behind_piece here p in
    seen-by w.comma x.comment (read_again here p).piece.feeds x.body (laid_seen behind (if x.comment then comment else token)) xs
    (apart joined d ws (next_is_string (x ∷ xs)) h)
    (λ e. ap (λ c. next_is_string (laid_seen behind (if c then comment else token))) e
    ∙ string-seen behind joined d (if joined then ws else without_comma ws) xs
    (later joined x.comment (next_is_string xs) (is_string x) e h))

true-or-false : (x : Bool) → (x ≡ true) ⊎ (x ≡ false)
true-or-false true = inl refl
true-or-false false = inr refl

-- whether the next token is a string behind a string
joined-seen : (q : Bool) (b : Behind) (d : ℕ) (ws : List Way) (xs : List Seen)
    → (q && next_is_string (laid_seen b (placed (q && next_is_string xs) d ws xs))) ≡ (q && next_is_string xs)
joined-seen true b d ws xs = string-seen b (next_is_string xs) d ws xs (true-or-false (next_is_string xs))
joined-seen false b d ws xs = refl

-- ---- one piece

-- where a comma is added next, a token stands before
abbrev IsFit : Behind → Bool → List Way → Type 0
IsFit b joined ws = joined ≡ false → (next_way ws).comma ≡ true → (b.before ≡ Opening) ⊎ (b.before ≡ Other)

abbrev PiecesStayBehind : Behind → Behind → Bool → ℕ → List Way → List Seen → Type 0
PiecesStayBehind b c joined d ws xs =
    laid c (placed joined d (with_commas ws) (laid_seen b (placed joined d ws xs))) ≡ laid b (placed joined d ws xs)

abbrev AllStay : List Seen → Type 0
AllStay xs =
    (b c : Behind) (joined : Bool) (d : ℕ) (ws : List Way) → IsAlike b c → IsFit b joined ws → PiecesStayBehind b c joined d ws xs

-- a piece in front of which no comma is added
abbrev placed_as : Feeds → List ℕ → Bool → Way → Placed
placed_as f o c w = record { piece = seen_as f o c; way = w }

alike-behind : (b c : Behind) (f : Feeds) (o : List ℕ) (k : Bool) (w : Way) → IsAlike b c
    → IsAlike (behind_piece b (placed_as f o k w)) (behind_piece c (read_again b (placed_as f o k w)))
alike-behind b c f o true w a = alike-same behind_comment
alike-behind b c f o false w a =
    behind-alike b c w o (gap_of b (placed_as f o false w)) (gap_of c (read_again b (placed_as f o false w)))
    (gap-again b c (placed_as f o false w) a) a

piece-again : (b c : Behind) (p : Placed) (ps qs : List Placed) → p.way.comma ≡ false → IsAlike b c
    → laid (behind_piece c (read_again b p)) qs ≡ laid (behind_piece b p) ps → laid c (read_again b p ∷ qs) ≡ laid b (p ∷ ps)
piece-again b c p ps qs e a h =
    ap (λ y. comma_of y ++ (gap_of (behind_added y c) (read_again b p), p.piece.body) ∷ laid
    (behind_piece (behind_added y c) (read_again b p)) qs) e
    ∙ ap (λ g. (g, p.piece.body) ∷ laid (behind_piece c (read_again b p)) qs) (gap-again b c p a)
    ∙ ap (λ l. (gap_of b p, p.piece.body) ∷ l) h
    ∙ ap (λ y. comma_of y ++ (gap_of (behind_added y b) p, p.piece.body) ∷ laid (behind_piece (behind_added y b) p) ps) (sym e)

opening-or-other : (x : Bool) → ((if x then Opening else Other) ≡ Opening) ⊎ ((if x then Opening else Other) ≡ Other)
opening-or-other true = inl refl
opening-or-other false = inr refl

-- behind a comment, whose token is still to come, and behind a token
rest-again : (f : Feeds) (o : List ℕ) (k : Bool) (b c : Behind) (joined : Bool) (d e : ℕ) (w : Way) (us vs : List Way) (xs : List Seen) →
    AllStay xs
    → IsAlike b c → (joined ≡ false → (next_way us).comma ≡ true → ⊥)
    → laid (behind_piece c (read_again b (placed_as f o k w))) (if k then placed joined d (with_commas us)
    (laid_seen (behind_piece b (placed_as f o k w))
    (if k then placed joined d us xs else placed ((not k && is_quoted o) && next_is_string xs) e vs xs))
    else placed ((not k && is_quoted o) && next_is_string (laid_seen (behind_piece b (placed_as f o k w))
    (if k then placed joined d us xs else placed ((not k && is_quoted o) && next_is_string xs) e vs xs))) e (with_commas vs)
    (laid_seen (behind_piece b (placed_as f o k w))
    (if k then placed joined d us xs else placed ((not k && is_quoted o) && next_is_string xs) e vs xs)))
    ≡ laid (behind_piece b (placed_as f o k w))
    (if k then placed joined d us xs else placed ((not k && is_quoted o) && next_is_string xs) e vs xs)
rest-again f o true b c joined d e w us vs xs all a n =
    all behind_comment behind_comment joined d us (alike-same behind_comment) (λ j y. absurd (n j y))
rest-again f o false b c joined d e w us vs xs all a n =
    let p = placed_as f o false w in
    let before = behind_piece b p in
    let after = behind_piece c (read_again b p) in
    ap (λ j. laid after (placed j e (with_commas vs) (laid_seen before (placed (is_quoted o && next_is_string xs) e vs xs))))
    (joined-seen (is_quoted o) before e vs xs)
    ∙ all before after (is_quoted o && next_is_string xs) e vs (alike-behind b c f o false w a) (λ j y. opening-or-other (is_opening o))

-- ---- a comma

comma-fits : (j y z : Bool) → ((j || true) && not (false || (y && z && false))) ≡ true
comma-fits true true true = refl
comma-fits true true false = refl
comma-fits true false z = refl
comma-fits false true true = refl
comma-fits false true false = refl
comma-fits false false z = refl

abbrev comma_placed : ℕ → Placed
comma_placed d = record { piece = seen_as Same (codes ",") false; way = comma_way d }

comma-joins : (c : Behind) (d : ℕ) → (c.before ≡ Opening) ⊎ (c.before ≡ Other) → gap_of c (comma_placed d) ≡ Join
comma-joins c d (inl e) = ap (before_gap c (comma_way d) Same (codes ",")) e ∙ ap within_line
    (comma-fits c.joins (are_digits c.previous) (bytes_eq c.last (codes ".")))
comma-joins c d (inr e) = ap (before_gap c (comma_way d) Same (codes ",")) e ∙ ap within_line
    (comma-fits c.joins (are_digits c.previous) (bytes_eq c.last (codes ".")))

comma-alike : (c : Behind) (d : ℕ) → IsAlike behind_comma (behind_token Join c (comma_way d) (codes ","))
comma-alike c d = record { before = refl; joins = refl; last = inr (quiet-nothing, quiet-comma) }

fit-again : (b c : Behind) → IsAlike b c → (b.before ≡ Opening) ⊎ (b.before ≡ Other) → (c.before ≡ Opening) ⊎ (c.before ≡ Other)
fit-again b c a (inl e) = inl (sym a.before ∙ e)
fit-again b c a (inr e) = inr (sym a.before ∙ e)

-- ---- all pieces

plain-again : (b c : Behind) (d : ℕ) (s : Start) (n : ℕ) (j k : Bool) (vs : List Way) (x : Seen) (xs : List Seen) → AllStay xs → IsAlike b c
    → PiecesStayBehind b c false d (way_as s n j k false ∷ vs) (x ∷ xs)
plain-again b c d s n j k vs x xs all a =
    let w = way_as s n j k false in
    piece-again b c (record { piece = x; way = w }) _ _ refl a
    (rest-again x.feeds x.body x.comment b c false d n w (w ∷ vs) vs xs all a (λ i y. false-true y))

comma-again : (b c : Behind) (d : ℕ) (s : Start) (n : ℕ) (j k : Bool) (vs : List Way) (x : Seen) (xs : List Seen) → AllStay xs → IsAlike b c
    → (b.before ≡ Opening) ⊎ (b.before ≡ Other) → PiecesStayBehind b c false d (way_as s n j k true ∷ vs) (x ∷ xs)
comma-again b c d s n j k vs x xs all a f =
    let w = way_as s n j k false in
    let rest = laid_seen behind_comma (placed false d (w ∷ vs) (x ∷ xs)) in
    ap (λ g. (g, codes ",") ∷ laid (behind_token g c (comma_way n) (codes ",")) (placed false n (w ∷ with_commas vs) rest))
    (comma-joins c n (fit-again b c a f))
    ∙ ap (λ ps. (Join, codes ",") ∷ laid (behind_token Join c (comma_way n) (codes ",")) ps) (depth-blind n d (w ∷ with_commas vs) rest)
    ∙ ap (λ l. (Join, codes ",") ∷ l)
    (plain-again behind_comma (behind_token Join c (comma_way n) (codes ",")) d s n j k vs x xs all (comma-alike c n))

way-again : (b c : Behind) (d : ℕ) (s : Start) (n : ℕ) (j k y : Bool) (vs : List Way) (x : Seen) (xs : List Seen) → AllStay xs → IsAlike b c
    → (y ≡ true → (b.before ≡ Opening) ⊎ (b.before ≡ Other)) → PiecesStayBehind b c false d (way_as s n j k y ∷ vs) (x ∷ xs)
way-again b c d s n j k true vs x xs all a f = comma-again b c d s n j k vs x xs all a (f refl)
way-again b c d s n j k false vs x xs all a f = plain-again b c d s n j k vs x xs all a

next-stay : (x : Seen) (xs : List Seen) → AllStay xs → AllStay (x ∷ xs)
next-stay x xs all b c true d ws a f =
    piece-again b c (record { piece = x; way = string_way d }) _ _ refl a
    (rest-again x.feeds x.body x.comment b c true d d (string_way d) ws ws xs all a (λ i y. false-true (sym i)))
next-stay x xs all b c false d [] a f =
    piece-again b c (record { piece = x; way = end_way }) _ _ refl a
    (rest-again x.feeds x.body x.comment b c false d 0 end_way [] [] xs all a (λ i y. false-true y))
next-stay x xs all b c false d (w ∷ vs) a f =
    way-again b c d w.start w.depth w.joins_before w.joins_behind w.comma vs x xs all a (f refl)

all-stay : (xs : List Seen) → AllStay xs
all-stay [] b c joined d ws a f = refl
all-stay (x ∷ xs) b c joined d ws a f = next-stay x xs (all-stay xs) b c joined d ws a f

pub pieces-stay : PiecesStay
pieces-stay ws xs e = all-stay xs at_start at_start false 0 ws (alike-same at_start) (λ j y. false-true (sym e ∙ y))
