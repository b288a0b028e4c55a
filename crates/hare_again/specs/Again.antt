-- What is read of a laid out text, and that it is laid out as before.
use Rattle.std.specs.Prelude.{◌≡◌, ℕ, List, [], ◌∷◌, ◌++◌, Bool, true, false, codes, length}
use Rattle.hare_tree.specs.declared.tree.FileTree.{FileTree}
use Rattle.hare_tree.specs.Shape.{is_shaped_file}
use Rattle.hare_tree.specs.Spell.{spell_file}
use Rattle.hare_tree.specs.Depth.{fits_file}
use Rattle.hare_ways.specs.declared.way.Way.{Way}
use Rattle.hare_ways.specs.Ways.{file_ways}
use Rattle.hare_commas.specs.Commas.{with_commas, tokens_with, file_without}
use Rattle.hare_pieces.specs.Pieces.{are_blank}
use Rattle.hare_lines.specs.declared.way.Feeds.TheVariants.{Same}
use Rattle.hare_lines.specs.declared.way.Gap.{Gap}
use Rattle.hare_lines.specs.Read.{Seen, seen, feeds_in, trimmed, comments_before}
use Rattle.hare_lines.specs.Gaps.{Behind, Placed, at_start, placed, next_way, laid, behind_added, behind_piece}
use Rattle.hare_lines.specs.Layout.{IsLaidOut, layout, gap_bytes, read_back, read_again}

-- ---- pieces

-- a comma that was added, as it is read: on the line of the piece before it
abbrev pub comma_seen : Bool → List Seen
comma_seen true = record { feeds = Same; body = codes ","; comment = false } ∷ []
comma_seen false = []

-- the pieces of a layout as they are read of its text: each with the line ends that stand in front of it there
abbrev pub laid_seen : Behind → List Placed → List Seen
laid_seen b [] = []
laid_seen b (p ∷ ps) =
    let here = behind_added p.way.comma b in
    comma_seen p.way.comma ++ (read_again here p).piece ∷ laid_seen (behind_piece here p) ps

-- the same of the pieces of a source, where the tokens of its tree have these ways
abbrev pub written_seen : List Way → List Seen → List Seen
written_seen ws xs = laid_seen at_start (placed false 0 ws xs)

-- Pieces that are read of a layout have the same gaps again, where the commas that were added stand among the tokens: they are laid out
-- as before. No comma is added in front of the first piece of a file.
abbrev pub PiecesStay : Type 0
PiecesStay =
    (ws : List Way) (xs : List Seen) → (next_way ws).comma ≡ false
    → laid at_start (placed false 0 (with_commas ws) (written_seen ws xs)) ≡ laid at_start (placed false 0 ws xs)

-- ---- files

-- the pieces that are read of the layout of a file
abbrev pub layout_seen : FileTree → List Seen → List Seen
layout_seen tree xs = written_seen (file_ways (comments_before 0 false xs) tree) xs

-- A file that is read of the layout of a file: its tree is the same but for commas behind last items, in the language where that is; it has
-- the same tokens, with the commas that were added among them, and is laid out as before.
pub record Stays (tree : FileTree) (xs : List Seen) : Type 0 where
  pub again : FileTree
  pub same : file_without again ≡ file_without tree
  pub spelled : spell_file again ≡ tokens_with (file_ways (comments_before 0 false xs) tree) (spell_file tree)
  pub fits : fits_file tree ≡ true → fits_file again ≡ true
  pub stays : layout again (layout_seen tree xs) ≡ layout tree xs

-- Laying out again changes nothing: of pieces that are as many tokens as a tree has, strings side by side counted once.
abbrev pub LayoutsStay : Type 0
LayoutsStay =
    (tree : FileTree) (xs : List Seen) → tree.file ≡ 0 → is_shaped_file tree ≡ true
    → length (comments_before 0 false xs) ≡ length (spell_file tree) → Stays tree xs

-- Laying out again what is read of the layout of a source changes nothing.
pub record StaysLaidOut (src text : List ℕ) (l : IsLaidOut src text) : Type 0 where
  pub again : FileTree
  pub same : file_without again ≡ file_without l.tree
  pub spelled : spell_file again ≡ tokens_with (file_ways (comments_before 0 false (seen src l.pieces)) l.tree) (spell_file l.tree)
  pub fits : fits_file again ≡ true
  pub stays : layout again (layout_seen l.tree (seen src l.pieces)) ≡ text

abbrev pub SourcesStay : Type 0
SourcesStay = (src text : List ℕ) (l : IsLaidOut src text) → StaysLaidOut src text l

-- ---- comments

abbrev pub comment_of : Bool → List ℕ → List (List ℕ)
comment_of true body = body ∷ []
comment_of false body = []

-- the comments among pieces, in order
abbrev pub comments_of : List Seen → List (List ℕ)
comments_of [] = []
comments_of (x ∷ xs) = comment_of x.comment x.body ++ comments_of xs

-- the comments that are read of a layout are those of the source, in order
abbrev pub CommentsStay : Type 0
CommentsStay = (ws : List Way) (xs : List Seen) → comments_of (written_seen ws xs) ≡ comments_of xs

-- ---- the bytes of gaps

-- What a layout has between pieces are blanks, with the line ends that are read there; and a comment, which lost the blanks at its end, is
-- read as it stands.
pub record GapsAreRead : Type 0 where
  pub feeds : (g : Gap) → feeds_in (gap_bytes g) ≡ read_back g
  pub blanks : (g : Gap) → are_blank (gap_bytes g) ≡ true
  pub trims : (body : List ℕ) → trimmed (trimmed body) ≡ trimmed body
