-- The line so far as the writer has it.
use Rattle.hare_lines.specs.declared.line.Line.{Line}
use Rattle.hare_lines.specs.Gaps.{Behind}

abbrev pub behind_of : Line → Behind
behind_of l = record { before = l.before; joins = l.joins; last = l.last.now; previous = l.previous.now }
