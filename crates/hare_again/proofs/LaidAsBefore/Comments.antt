-- The comments that are read of a layout.
use Rattle.std.proofs.Common.{◌≡◌, ℕ, List, [], ◌∷◌, ◌++◌, Bool, true, false, ◌&&◌, drop, refl, ap, ◌∙◌, if◌then◌else◌}
use Rattle.hare_ways.specs.declared.way.Way.{Way}
use Rattle.hare_lines.specs.Read.{Seen, is_string}
use Rattle.hare_lines.specs.Gaps.{Behind, Placed, placed, next_is_string, without_comma, behind_piece, behind_added, at_start}
use Rattle.hare_lines.specs.Layout.{read_again}
use Rattle.hare_again.specs.Again.{comma_seen, laid_seen, comment_of, comments_of, CommentsStay}
use Rattle.hare_again.proofs.LaidAsBefore.PiecesAgain.{way_here}

-- a comma is no comment
behind-comma : (y : Bool) (x : Seen) (rest : List Seen)
    → comments_of (comma_seen y ++ x ∷ rest) ≡ comment_of x.comment x.body ++ comments_of rest
behind-comma true x rest = refl
behind-comma false x rest = refl

either-way : (c : Bool) (b : Behind) (ps qs : List Placed) (xs : List Seen) → comments_of (laid_seen b ps) ≡ comments_of xs
    → comments_of (laid_seen b qs) ≡ comments_of xs → comments_of (laid_seen b (if c then ps else qs)) ≡ comments_of xs
either-way true b ps qs xs p q = p
either-way false b ps qs xs p q = q

comments-stay-behind : (b : Behind) (joined : Bool) (d : ℕ) (ws : List Way) (xs : List Seen)
    → comments_of (laid_seen b (placed joined d ws xs)) ≡ comments_of xs
comments-stay-behind b joined d ws [] = refl
comments-stay-behind b joined d ws (x ∷ xs) =
    let w = way_here joined d ws in
    let comment = placed joined d (if joined then ws else without_comma ws) xs in
    let token = placed (is_string x && next_is_string xs) w.depth (if joined then ws else drop 1 ws) xs in
    let here = behind_added w.comma b in
    let p : Placed = record { piece = x; way = w } in
    let behind = behind_piece here p in
    behind-comma w.comma (read_again here p).piece (laid_seen behind (if x.comment then comment else token))
    ∙ ap (λ l. comment_of x.comment x.body ++ l)
    (either-way x.comment behind comment token xs (comments-stay-behind behind joined d (if joined then ws else without_comma ws) xs)
    (comments-stay-behind behind (is_string x && next_is_string xs) w.depth (if joined then ws else drop 1 ws) xs))

pub comments-stay : CommentsStay
comments-stay ws xs = comments-stay-behind at_start false 0 ws xs
