-- The layout of a file: a relation between two texts.
--
-- A text is the layout of a source where it is what the source's tree and pieces are laid out as:
--   * what is read of the source (Read.antt): for each piece its bytes, and whether none, one or more line ends stand before it;
--   * the way of each token (Ways.antt, with Joins.antt and Breaks.antt): whether it begins a line, whether a blank may stand before it,
-- how many broken
--     braces and lists are open, and whether a comma is added;
--   * the gap before each piece (Gaps.antt);
--   * the bytes (here).
use Rattle.std.specs.Prelude.{◌≡◌, ℕ, ◌<◌, ◌≤◌, List, [], ◌∷◌, ◌++◌, ◌⊎◌, Bool, true, false, codes, map, length, replicate, if◌then◌else◌}
use Rattle.std.specs.List.{flat_map}
use Rattle.hare_tree.specs.declared.token.Token.{Token}
use Rattle.hare_tree.specs.declared.tree.FileTree.{FileTree}
use Rattle.hare_tree.specs.Tokens.{IsTokens, Stands}
use Rattle.hare_tree.specs.Grammar.{IsFileTree}
use Rattle.hare_pieces.specs.declared.piece.Piece.{Piece}
use Rattle.hare_pieces.specs.Pieces.{ArePieces}
use Rattle.hare_lines.specs.declared.way.Feeds.{Feeds}
use Rattle.hare_lines.specs.declared.way.Feeds.TheVariants.{Same, Next, Empty}
use Rattle.hare_lines.specs.declared.way.Gap.{Gap}
use Rattle.hare_ways.specs.declared.way.Way.{Way}
use Rattle.hare_lines.specs.declared.way.Gap.TheVariants.{First, Join, Blank, Line}
use Rattle.hare_lines.specs.Read.{Seen, seen, comments_before}
use Rattle.hare_ways.specs.Ways.{file_ways}
use Rattle.hare_lines.specs.Gaps.{Placed, Behind, placed, laid, gap_of, grows, at_start}

-- ---- bytes

abbrev pub feeds : Bool → List ℕ
feeds true = 10 ∷ 10 ∷ []
feeds false = 10 ∷ []

abbrev pub gap_bytes : Gap → List ℕ
gap_bytes First = []
gap_bytes Join = []
gap_bytes Blank = 32 ∷ []
gap_bytes (Line empty tabs) = feeds empty ++ replicate tabs 9

-- a text that is not empty ends its last line
abbrev pub with_end : List ℕ → List ℕ
with_end [] = []
with_end (c ∷ s) = (c ∷ s) ++ 10 ∷ []

-- the bytes of pieces with their gaps
abbrev pub laid_bytes : List (Gap × List ℕ) → List ℕ
laid_bytes l = flat_map (λ p. gap_bytes p.0 ++ p.1) l

-- ---- texts

-- what pieces with the ways of the tree's tokens are laid out as
abbrev pub written : List Way → List Seen → List ℕ
written ws xs = with_end (laid_bytes (laid at_start (placed false 0 ws xs)))

-- what the tree and the pieces of a file are laid out as
abbrev pub layout : FileTree → List Seen → List ℕ
layout tree xs = written (file_ways (comments_before 0 false xs) tree) xs

-- what a text with this tree and these pieces is laid out as
abbrev pub layout_of : List ℕ → FileTree → List Piece → List ℕ
layout_of text tree ps = layout tree (seen text ps)

-- The text is the layout of the source, which has tokens without a fault and a tree.
pub record IsLaidOut (src text : List ℕ) : Type 0 where
  pub tokens : List Token
  pub are : IsTokens 0 src tokens
  pub tree : FileTree
  pub file_is : IsFileTree 0 tokens tree
  pub pieces : List Piece
  pub cut : ArePieces src pieces
  pub text_is : text ≡ layout_of src tree pieces

-- a source has one layout
abbrev pub SourcesHaveOneLayout : Type 0
SourcesHaveOneLayout = (src text other : List ℕ) → IsLaidOut src text → IsLaidOut src other → text ≡ other

-- ---- what a layout keeps

-- the pieces stand in their order behind `at` bytes of a text with n bytes, and none is empty
abbrev pub InOrder : ℕ → ℕ → List Piece → Type 0
InOrder at n [] = at ≤ n
InOrder at n (p ∷ ps) = (at ≤ p.from) × (p.from < p.to) × (p.to ≤ n) × InOrder p.to n ps

-- the pieces with their ways are the pieces
abbrev pub PlacedAreSeen : Type 0
PlacedAreSeen = (joined : Bool) (depth : ℕ) (ws : List Way) (xs : List Seen) → map (λ p. p.piece) (placed joined depth ws xs) ≡ xs

-- the bytes of a piece, behind the comma that is added in front of it
abbrev pub bodies_of : Placed → List (List ℕ)
bodies_of p = if p.way.comma then codes "," ∷ p.piece.body ∷ [] else p.piece.body ∷ []

-- What is laid out are these pieces in their order, and the commas that are added.
abbrev pub LaidAreKept : Type 0
LaidAreKept = (b : Behind) (ps : List Placed) → map (λ g. g.1) (laid b ps) ≡ flat_map bodies_of ps

-- the pieces of a text stand in their order, within the text, and none is empty
abbrev pub PiecesAreInOrder : Type 0
PiecesAreInOrder = (text : List ℕ) (ps : List Piece) → ArePieces text ps → InOrder 0 (length text) ps

-- ---- reading a laid out text

-- the line ends that are read where this gap stands
abbrev pub read_back : Gap → Feeds
read_back First = Same
read_back Join = Same
read_back Blank = Same
read_back (Line false tabs) = Next
read_back (Line true tabs) = Empty

-- the piece as it is read from the laid out text
abbrev pub read_again : Behind → Placed → Placed
read_again b p = record { piece = record { feeds = read_back (gap_of b p); body = p.piece.body; comment = p.piece.comment }; way = p.way }

-- a piece that is read from a laid out text has the gap again that it has there
abbrev pub GapsStay : Type 0
GapsStay = (b : Behind) (p : Placed) → gap_of b (read_again b p) ≡ gap_of b p

-- ---- the blank that is kept for the tokens' sake

-- no token is spelled so in front of this text
abbrev pub NoTokenStands : List ℕ → List ℕ → Type 0
NoTokenStands s rest = (b : Bool) (t : Token) → Stands b t s rest → ⊥

-- Where a piece would not leave the tokens that it is joined to, it would not indeed: the piece before it would be no token there, or the
-- piece before that.
abbrev pub GrowingPiecesAreOthers : Type 0
GrowingPiecesAreOthers =
    (last previous body rest : List ℕ) → grows last previous body ≡ true
    → NoTokenStands last (body ++ rest) ⊎ NoTokenStands previous (last ++ (body ++ rest))
