-- The gap before each piece: nothing, a blank, a line with its tabs, or an empty line and a line.
use Rattle.std.specs.Prelude.{ℕ, ◌+◌, ◌-◌, List, [], ◌∷◌, ◌++◌, Bool, true, false, ◌&&◌, ◌||◌, not, ◌==◌, length, bytes_eq, codes, drop, slice_index, if◌then◌else◌}
use Rattle.std.specs.List.{list_all}
use Rattle.std.specs.Char.{is_ascii_digit}
use Rattle.hare_tree.specs.Words.{is_listed}
use Rattle.hare_lines.specs.declared.way.Feeds.{Feeds}
use Rattle.hare_lines.specs.declared.way.Feeds.TheVariants.{Same, Next, Empty}
use Rattle.hare_ways.specs.declared.way.Start.{Start}
use Rattle.hare_ways.specs.declared.way.Start.TheVariants.{Within, Begins, Outdented}
use Rattle.hare_ways.specs.declared.way.Way.{Way}
use Rattle.hare_lines.specs.declared.way.Before.{Before}
use Rattle.hare_lines.specs.declared.way.Before.TheVariants.{Nothing, Opening, Remark, Other}
use Rattle.hare_lines.specs.declared.way.Gap.{Gap}
use Rattle.hare_lines.specs.declared.way.Gap.TheVariants.{First, Join, Blank, Line}
use Rattle.hare_lines.specs.Read.{Seen, is_string}
use Rattle.hare_ways.specs.Ways.{end_way}

-- ---- ways for pieces

-- a piece with the way of its token; a comment has the way of the token behind it
pub record Placed : Type 0 where
  pub piece : Seen
  pub way : Way

-- the next token is a string
abbrev pub next_is_string : List Seen → Bool
next_is_string [] = false
next_is_string (x ∷ xs) = if x.comment then next_is_string xs else is_string x

-- A string behind a string is of the same token of the tree: it begins no line, and stands behind a blank. This is its way, where that of
-- the first has this depth.
abbrev pub string_way : ℕ → Way
string_way depth = record { start = Within; depth = depth; joins_before = false; joins_behind = false; comma = false }

-- the way of the next of the tree's tokens
abbrev pub next_way : List Way → Way
next_way [] = end_way
next_way (w ∷ ws) = w

-- a comma is added but once, in front of the first of the pieces that stand before a token
abbrev pub without_comma : List Way → List Way
without_comma [] = []
without_comma (w ∷ ws) =
    record { start = w.start; depth = w.depth; joins_before = w.joins_before; joins_behind = w.joins_behind; comma = false } ∷ ws

-- The pieces of a text with their ways. The next token is a string behind a string, of which the first has this depth, or it is the first
-- of a token of the tree.
abbrev pub placed : (joined : Bool) (depth : ℕ) → List Way → List Seen → List Placed
placed joined depth ws [] = []
placed joined depth ws (x ∷ xs) =
    let w = if joined then string_way depth else next_way ws in
    record { piece = x; way = w }
    ∷ (if x.comment then placed joined depth (if joined then ws else without_comma ws) xs
    else placed (is_string x && next_is_string xs) w.depth (if joined then ws else drop 1 ws) xs)

-- ---- what stands before a piece

-- The piece before, whether no blank is to stand behind it, and the last two pieces back to the last blank or line end, or nothing where
-- there are none.
pub record Behind : Type 0 where
  pub before : Before
  pub joins : Bool
  pub last : List ℕ
  pub previous : List ℕ

abbrev pub at_start : Behind
at_start = record { before = Nothing; joins = false; last = []; previous = [] }

-- ---- tabs

-- A line has as many tabs as broken braces and lists are open in front of its first piece; a closing bracket and a `case` have one tab
-- less.
abbrev pub start_tabs : Start → ℕ → ℕ
start_tabs Within depth = depth
start_tabs Begins depth = depth
start_tabs Outdented depth = depth - 1

abbrev pub tabs_of : Way → ℕ
tabs_of w = start_tabs w.start w.depth

-- one more, where the token begins its line only since a comment stands before it
abbrev pub extra_tab : Start → ℕ
extra_tab Within = 1
extra_tab Begins = 0
extra_tab Outdented = 0

-- ---- empty lines

abbrev pub is_empty : Feeds → Bool
is_empty Same = false
is_empty Next = false
is_empty Empty = true

-- A new line. An empty line stands before it exactly where the source has one there, but not in front of the first line and not behind a
-- line that ends in an opening bracket.
abbrev pub line : Before → Feeds → ℕ → Gap
line Nothing feeds tabs = First
line Opening feeds tabs = Line false tabs
line Remark feeds tabs = Line (is_empty feeds) tabs
line Other feeds tabs = Line (is_empty feeds) tabs

-- ---- comments

-- A comment that is the first piece on its line begins one. Any other stands behind the piece before it, after one blank.
abbrev pub comment_gap : Before → Feeds → ℕ → Gap
comment_gap Nothing feeds tabs = First
comment_gap Remark feeds tabs = line Remark feeds tabs
comment_gap Opening Same tabs = Blank
comment_gap Opening Next tabs = line Opening Next tabs
comment_gap Opening Empty tabs = line Opening Empty tabs
comment_gap Other Same tabs = Blank
comment_gap Other Next tabs = line Other Next tabs
comment_gap Other Empty tabs = line Other Empty tabs

-- ---- where no blank stands

-- plain decimal digits
abbrev pub are_digits : List ℕ → Bool
are_digits s = not (length s == 0) && list_all is_ascii_digit s

-- the marks that this byte, directly behind them, makes longer
abbrev pub lengthened : ℕ → List (List ℕ)
lengthened c =
    if c == 61 then codes "!" ∷ codes "%" ∷ codes "&" ∷ codes "*" ∷ codes "+" ∷ codes "-" ∷ codes "/" ∷ codes "<" ∷ codes "<<" ∷ codes "="
    ∷ codes ">" ∷ codes ">>" ∷ codes "^" ∷ codes "|" ∷ []  -- by `=`
    else if c == 46 then codes "." ∷ codes ".." ∷ []  -- by `.`
    else if c == 62 then codes "=" ∷ codes ">" ∷ []  -- by `>`
    else if c == 38 then codes "&" ∷ []  -- by `&`
    else if c == 58 then codes ":" ∷ []  -- by `:`
    else if c == 60 then codes "<" ∷ []  -- by `<`
    else if c == 94 then codes "^" ∷ []  -- by `^`
    else if c == 124 then codes "|" ∷ []  -- by `|`
    else []

-- Joined to these pieces of its line, the piece would not leave the tokens that they are: the last of them would be a longer mark with it,
-- as `&` in front of `&`; or it begins with a digit and stands behind a `.` that stands behind plain decimal digits, which would be a
-- fraction.
abbrev pub grows : (last previous : List ℕ) → List ℕ → Bool
grows last previous body =
    is_listed (lengthened (slice_index body 0)) last
    || (are_digits previous && bytes_eq last (codes ".") && is_ascii_digit (slice_index body 0))

abbrev pub within_line : Bool → Gap
within_line true = Join
within_line false = Blank

-- A token begins a line where its way says so, and behind a comment. Else it is joined to the piece before it where one of the two wants
-- it, unless it would not leave the same tokens so.
abbrev pub joins : Behind → Way → List ℕ → Bool
joins b w body = (b.joins || w.joins_before) && not (grows b.last b.previous body)

abbrev pub start_gap : Behind → Way → Feeds → List ℕ → Start → Gap
start_gap b w feeds body Within = within_line (joins b w body)
start_gap b w feeds body Begins = line b.before feeds (tabs_of w)
start_gap b w feeds body Outdented = line b.before feeds (tabs_of w)

abbrev pub before_gap : Behind → Way → Feeds → List ℕ → Before → Gap
before_gap b w feeds body Nothing = First
before_gap b w feeds body Remark = line Remark feeds (tabs_of w + extra_tab w.start)
before_gap b w feeds body Opening = start_gap b w feeds body w.start
before_gap b w feeds body Other = start_gap b w feeds body w.start

abbrev pub token_gap : Behind → Way → Feeds → List ℕ → Gap
token_gap b w feeds body = before_gap b w feeds body b.before

-- A comment's line has the tabs of a token there, one more than a closing bracket or `case` behind it has, and one more still where the
-- token behind it begins no line by itself.
abbrev pub comment_tabs : Way → ℕ
comment_tabs w = w.depth + extra_tab w.start

abbrev pub gap_of : Behind → Placed → Gap
gap_of b p =
    if p.piece.comment then comment_gap b.before p.piece.feeds (comment_tabs p.way) else token_gap b p.way p.piece.feeds p.piece.body

-- ---- behind a piece

abbrev pub is_opening : List ℕ → Bool
is_opening body = bytes_eq body (codes "{") || bytes_eq body (codes "(") || bytes_eq body (codes "[")

abbrev pub previous_of : Gap → List ℕ → List ℕ
previous_of Join last = last
previous_of _ last = []

abbrev pub behind_token : Gap → Behind → Way → List ℕ → Behind
behind_token g b w body = record {
  before = if is_opening body then Opening else Other;
  joins = w.joins_behind;
  last = body;
  previous = previous_of g b.last;
}

abbrev pub behind_comment : Behind
behind_comment = record { before = Remark; joins = false; last = []; previous = [] }

abbrev pub behind_piece : Behind → Placed → Behind
behind_piece b p = if p.piece.comment then behind_comment else behind_token (gap_of b p) b p.way p.piece.body

-- behind a comma that was added
abbrev pub behind_comma : Behind
behind_comma = record { before = Other; joins = false; last = []; previous = [] }

-- ---- the pieces with their gaps

-- a comma that is added stands directly behind the piece before
abbrev pub comma_of : Bool → List (Gap × List ℕ)
comma_of true = (Join, codes ",") ∷ []
comma_of false = []

abbrev pub behind_added : Bool → Behind → Behind
behind_added true b = behind_comma
behind_added false b = b

-- The pieces that are laid out, with their gaps; in front of those that ask for it a comma is added.
abbrev pub laid : Behind → List Placed → List (Gap × List ℕ)
laid b [] = []
laid b (p ∷ ps) =
    let here = behind_added p.way.comma b in
    comma_of p.way.comma ++ (gap_of here p, p.piece.body) ∷ laid (behind_piece here p) ps
