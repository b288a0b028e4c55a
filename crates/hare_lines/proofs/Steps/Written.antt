-- One step of the writer.
use Rattle.std.proofs.Common.{◌≡◌, ℕ, zero, suc, ◌+◌, ◌<◌, List, [], ◌∷◌, ◌++◌, Bool, true, false, ◌&&◌, length, drop, get_or, refl, sym, ap, ◌∙◌, arith, append_assoc, add-one, if◌then◌else◌}
use Rattle.std.specs.Prelude.{slice_range}
use Rattle.hare_lines.specs.declared.line.Line.{Line}
use Rattle.hare_pieces.specs.declared.piece.Piece.{Piece}
use Rattle.hare_lines.specs.declared.way.Feeds.{Feeds}
use Rattle.hare_ways.specs.declared.way.Way.{Way}
use Rattle.hare_lines.specs.declared.way.Gap.{Gap}
use Rattle.hare_lines.specs.declared.write.State.{State}
use Rattle.hare_lines.specs.Read.{Seen, seen_from, body_of, feeds_in, is_quoted}
use Rattle.hare_lines.specs.Gaps.{Behind, placed, laid, next_is_string, string_way, next_way, without_comma, comment_gap, comment_tabs, token_gap, behind_comment, behind_token, behind_added, comma_of}
use Rattle.hare_lines.specs.Behind.{behind_of}
use Rattle.hare_lines.specs.Write.{ways_left, left, way_here}
use Rattle.hare_lines.specs.Layout.{laid_bytes, gap_bytes}

-- the piece at a place of the list
pub piece_next : (ps : List Piece) (i : ℕ) (p : Piece) → i < length ps → p ≡ get_or ps i p → drop i ps ≡ p ∷ drop (suc i) ps
piece_next [] i p h e = absurd (omega arith)
piece_next (q ∷ ps) zero p h e = ap (λ x. x ∷ ps) (sym e)
piece_next (q ∷ ps) (suc i) p h e = piece_next ps i p (omega arith) e

bytes_step : (c : Bool) (g : Gap) (body : List ℕ) (l : List (Gap × List ℕ))
    → laid_bytes (comma_of c ++ (g, body) ∷ l) ≡ laid_bytes (comma_of c) ++ ((gap_bytes g ++ body) ++ laid_bytes l)
bytes_step true g body l = refl
bytes_step false g body l = refl

-- the way of the next token
abbrev pub way_at : Bool → ℕ → List Way → Way
way_at joined depth ws = if joined then string_way depth else next_way ws

-- a comment is written
pub comment_step : (b : Behind) (joined : Bool) (depth : ℕ) (ws : List Way) (f : Feeds) (o : List ℕ) (xs : List Seen)
    → laid_bytes (laid b (placed joined depth ws (record { feeds = f; body = o; comment = true } ∷ xs)))
    ≡ laid_bytes (comma_of (way_at joined depth ws).comma)
    ++ ((gap_bytes (comment_gap (behind_added (way_at joined depth ws).comma b).before f (comment_tabs (way_at joined depth ws))) ++ o)
    ++ laid_bytes (laid behind_comment (placed joined depth (if joined then ws else without_comma ws) xs)))
comment_step b joined depth ws f o xs =
    bytes_step (way_at joined depth ws).comma
    (comment_gap (behind_added (way_at joined depth ws).comma b).before f (comment_tabs (way_at joined depth ws))) o
    (laid behind_comment (placed joined depth (if joined then ws else without_comma ws) xs))

-- a token is written
pub token_step : (b : Behind) (joined : Bool) (depth : ℕ) (ws : List Way) (f : Feeds) (o : List ℕ) (xs : List Seen)
    → laid_bytes (laid b (placed joined depth ws (record { feeds = f; body = o; comment = false } ∷ xs)))
    ≡ laid_bytes (comma_of (way_at joined depth ws).comma)
    ++ ((gap_bytes (token_gap (behind_added (way_at joined depth ws).comma b) (way_at joined depth ws) f o) ++ o)
    ++ laid_bytes (laid (behind_token (token_gap (behind_added (way_at joined depth ws).comma b) (way_at joined depth ws) f o)
    (behind_added (way_at joined depth ws).comma b) (way_at joined depth ws) o)
    (placed (is_quoted o && next_is_string xs) (way_at joined depth ws).depth (if joined then ws else drop 1 ws) xs)))
token_step b joined depth ws f o xs =
    bytes_step (way_at joined depth ws).comma (token_gap (behind_added (way_at joined depth ws).comma b) (way_at joined depth ws) f o) o
    (laid (behind_token (token_gap (behind_added (way_at joined depth ws).comma b) (way_at joined depth ws) f o)
    (behind_added (way_at joined depth ws).comma b) (way_at joined depth ws) o)
    (placed (is_quoted o && next_is_string xs) (way_at joined depth ws).depth (if joined then ws else drop 1 ws) xs))

-- ---- the facts of a step

pub piece_at : (ps : List Piece) (i : ℕ) (d : Piece) → i < length ps → drop i ps ≡ get_or ps i d ∷ drop (suc i) ps
piece_at [] i d h = absurd (omega arith)
piece_at (q ∷ ps) zero d h = refl
piece_at (q ∷ ps) (suc i) d h = piece_at ps i d (omega arith)

-- what is left to write
abbrev rest : List ℕ → List Piece → Behind → Bool → ℕ → List Way → ℕ → ℕ → List ℕ
rest src ps b joined depth ws at i = laid_bytes (laid b (placed joined depth ws (seen_from src at (drop i ps))))

-- a piece is read, the comma in front of it is written, and then its gap and its bytes
pub record Put (src : List ℕ) (ps : List Piece) (i : ℕ) (p : Piece) (s : State) (line : Line) (w : Way) (f : Feeds) (o : List ℕ) (g : Gap)
    (old new : List ℕ) : Type 0 where
  pub here : drop i ps ≡ p ∷ drop (suc i) ps
  pub way : w ≡ way_here s
  pub feeds : f ≡ feeds_in (slice_range src s.at p.from)
  pub body : o ≡ body_of src p
  pub line_is : behind_of line ≡ behind_added w.comma (behind_of s.line)
  pub mid : List ℕ
  pub comma : mid ≡ old ++ laid_bytes (comma_of w.comma)
  pub text : new ≡ mid ++ (gap_bytes g ++ o)

seen_here : List ℕ → ℕ → Piece → Bool → Seen
seen_here src at p c = record { feeds = feeds_in (slice_range src at p.from); body = body_of src p; comment = c }

joined_texts : (old c g r : List ℕ) → ((old ++ c) ++ g) ++ r ≡ old ++ (c ++ (g ++ r))
joined_texts old c g r = append_assoc (old ++ c) g r ∙ append_assoc old c (g ++ r)

pub record BehindComment (s next : State) (p : Piece) : Type 0 where
  pub at : next.at ≡ p.to
  pub ways : ways_left next.added next.ways.now ≡
      (if s.joined then ways_left s.added s.ways.now else without_comma (ways_left s.added s.ways.now))
  pub joined : next.joined ≡ s.joined
  pub depth : next.depth ≡ s.depth
  pub line : behind_of next.line ≡ behind_comment

pub comment_written : (src : List ℕ) (ps : List Piece) (i : ℕ) (p : Piece) (s next : State) (line : Line) (w : Way) (f : Feeds)
    (o : List ℕ) (g : Gap) (old new : List ℕ)
    → Put src ps i p s line w f o g old new → p.comment ≡ true → g ≡ comment_gap line.before f (comment_tabs w) → BehindComment s next p
    → new ++ left src next (drop (i + 1) ps) ≡ old ++ left src s (drop i ps)
unfolding seen_here
comment_written src ps i p s next line w f o g old new h k e n =
    let ws = ways_left s.added s.ways.now in
    let b = behind_of s.line in
    let xs = seen_from src p.to (drop (suc i) ps) in
    let r = laid_bytes (laid behind_comment (placed s.joined s.depth (if s.joined then ws else without_comma ws) xs)) in
    let after : left src next (drop (i + 1) ps) ≡ r = λ t. rest src ps (n.line t) (n.joined t) (n.depth t) (n.ways t) (n.at t)
    (add-one i t) in
    let read : left src s (drop i ps) ≡ laid_bytes (laid b (placed s.joined s.depth ws (seen_here src s.at p true ∷ xs))) =
    ap (left src s) h.here ∙ ap (λ c. laid_bytes (laid b (placed s.joined s.depth ws (seen_here src s.at p c ∷ xs)))) k in
    let step = comment_step b s.joined s.depth ws (feeds_in (slice_range src s.at p.from)) (body_of src p) xs in
    let way = sym h.way in
    let feeds = sym h.feeds in
    let body = sym h.body in
    let moved : laid_bytes (comma_of (way_here s).comma) ++
    ((gap_bytes (comment_gap (behind_added (way_here s).comma b).before (feeds_in (slice_range src s.at p.from))
    (comment_tabs (way_here s))) ++ body_of src p) ++ r)
    ≡ laid_bytes (comma_of w.comma) ++ ((gap_bytes (comment_gap (behind_added w.comma b).before f (comment_tabs w)) ++ o) ++ r) =
    λ t. laid_bytes (comma_of (way t).comma) ++
    ((gap_bytes (comment_gap (behind_added (way t).comma b).before (feeds t) (comment_tabs (way t))) ++ body t) ++ r) in
    let gap : comment_gap (behind_added w.comma b).before f (comment_tabs w) ≡ g = ap
    (λ (x : Behind). comment_gap x.before f (comment_tabs w)) (sym h.line_is) ∙ sym e in
    let whole : left src s (drop i ps) ≡ laid_bytes (comma_of w.comma) ++ ((gap_bytes g ++ o) ++ r) =
    read ∙ step ∙ moved ∙ ap (λ x. laid_bytes (comma_of w.comma) ++ ((gap_bytes x ++ o) ++ r)) gap in
    let front : new ≡ (old ++ laid_bytes (comma_of w.comma)) ++ (gap_bytes g ++ o) = h.text ∙ ap (λ l. l ++ (gap_bytes g ++ o)) h.comma in
    ap (λ l. l ++ left src next (drop (i + 1) ps)) front
    ∙ ap (λ l. ((old ++ laid_bytes (comma_of w.comma)) ++ (gap_bytes g ++ o)) ++ l) after
    ∙ joined_texts old (laid_bytes (comma_of w.comma)) (gap_bytes g ++ o) r
    ∙ ap (λ l. old ++ l) (sym whole)

pub record BehindToken (src : List ℕ) (ps : List Piece) (i : ℕ) (s next : State) (p : Piece) (line : Line) (w : Way) (o : List ℕ)
    (g : Gap) : Type 0 where
  pub at : next.at ≡ p.to
  pub ways : ways_left next.added next.ways.now ≡ (if s.joined then ways_left s.added s.ways.now else drop 1 (ways_left s.added s.ways.now))
  pub joined : next.joined ≡ (is_quoted o && next_is_string (seen_from src p.to (drop (i + 1) ps)))
  pub depth : next.depth ≡ w.depth
  pub line_is : behind_of next.line ≡ behind_token g (behind_of line) w o

pub token_written : (src : List ℕ) (ps : List Piece) (i : ℕ) (p : Piece) (s next : State) (line : Line) (w : Way) (f : Feeds) (o : List ℕ)
    (g : Gap) (old new : List ℕ)
    → Put src ps i p s line w f o g old new → p.comment ≡ false → g ≡ token_gap (behind_of line) w f o
    → BehindToken src ps i s next p line w o g
    → new ++ left src next (drop (i + 1) ps) ≡ old ++ left src s (drop i ps)
unfolding seen_here
token_written src ps i p s next line w f o g old new h k e n =
    let ws = ways_left s.added s.ways.now in
    let b = behind_of s.line in
    let xs = seen_from src p.to (drop (suc i) ps) in
    let others = if s.joined then ws else drop 1 ws in
    let r = laid_bytes (laid (behind_token g (behind_of line) w o) (placed (is_quoted o && next_is_string xs) w.depth others xs)) in
    let joined : next.joined ≡ (is_quoted o && next_is_string xs) = n.joined
    ∙ ap (λ j. is_quoted o && next_is_string (seen_from src p.to (drop j ps))) (add-one i) in
    let after : left src next (drop (i + 1) ps) ≡ r = λ t. rest src ps (n.line_is t) (joined t) (n.depth t) (n.ways t) (n.at t)
    (add-one i t) in
    let read : left src s (drop i ps) ≡ laid_bytes (laid b (placed s.joined s.depth ws (seen_here src s.at p false ∷ xs))) =
    ap (left src s) h.here ∙ ap (λ c. laid_bytes (laid b (placed s.joined s.depth ws (seen_here src s.at p c ∷ xs)))) k in
    let step = token_step b s.joined s.depth ws (feeds_in (slice_range src s.at p.from)) (body_of src p) xs in
    let way = sym h.way in
    let feeds = sym h.feeds in
    let body = sym h.body in
    let part : Way → Behind → Feeds → List ℕ → Gap → List ℕ =
    λ v x y z q. laid_bytes (comma_of v.comma) ++
    ((gap_bytes q ++ z) ++ laid_bytes (laid (behind_token q x v z) (placed (is_quoted z && next_is_string xs) v.depth others xs))) in
    let moved : part (way_here s) (behind_added (way_here s).comma b) (feeds_in (slice_range src s.at p.from)) (body_of src p)
    (token_gap (behind_added (way_here s).comma b) (way_here s) (feeds_in (slice_range src s.at p.from)) (body_of src p))
    ≡ part w (behind_added w.comma b) f o (token_gap (behind_added w.comma b) w f o) =
    λ t. part (way t) (behind_added (way t).comma b) (feeds t) (body t)
    (token_gap (behind_added (way t).comma b) (way t) (feeds t) (body t)) in
    let lined : part w (behind_added w.comma b) f o (token_gap (behind_added w.comma b) w f o) ≡ part w (behind_of line) f o
    (token_gap (behind_of line) w f o) =
    ap (λ x. part w x f o (token_gap x w f o)) (sym h.line_is) in
    let whole : left src s (drop i ps) ≡ laid_bytes (comma_of w.comma) ++ ((gap_bytes g ++ o) ++ r) =
    read ∙ step ∙ moved ∙ lined ∙ ap (λ q. part w (behind_of line) f o q) (sym e) in
    let front : new ≡ (old ++ laid_bytes (comma_of w.comma)) ++ (gap_bytes g ++ o) = h.text ∙ ap (λ l. l ++ (gap_bytes g ++ o)) h.comma in
    ap (λ l. l ++ left src next (drop (i + 1) ps)) front
    ∙ ap (λ l. ((old ++ laid_bytes (comma_of w.comma)) ++ (gap_bytes g ++ o)) ++ l) after
    ∙ joined_texts old (laid_bytes (comma_of w.comma)) (gap_bytes g ++ o) r
    ∙ ap (λ l. old ++ l) (sym whole)
