-- What the private functions of the writer speak of.
use Rattle.std.specs.Prelude.{ℕ, List, Bool, true, false, if◌then◌else◌}
use Rattle.hare_pieces.specs.declared.piece.Piece.{Piece}
use Rattle.hare_ways.specs.declared.way.Way.{Way}
use Rattle.hare_lines.specs.declared.write.State.{State}
use Rattle.hare_lines.specs.Read.{seen_from}
use Rattle.hare_lines.specs.Gaps.{placed, laid, next_way, string_way, without_comma}
use Rattle.hare_lines.specs.Behind.{behind_of}
use Rattle.hare_lines.specs.Layout.{laid_bytes}

-- the ways that are left, the comma of the first added or not
abbrev pub ways_left : Bool → List Way → List Way
ways_left true ws = without_comma ws
ways_left false ws = ws

-- the way of the next token
abbrev pub way_here : State → Way
way_here s = if s.joined then string_way s.depth else next_way (ways_left s.added s.ways.now)

-- the bytes that are left to write
abbrev pub left : List ℕ → State → List Piece → List ℕ
left text s ps = laid_bytes (laid (behind_of s.line) (placed s.joined s.depth (ways_left s.added s.ways.now) (seen_from text s.at ps)))
