use Rattle.hare_lines.proofs.Steps.Ahead.{Ahead}
use Rattle.hare_lines.proofs.read.next_is_string.Given as goal

-- all pieces so far are comments
abbrev pub invariant-loop-piece : goal.invariant-loop-piece
invariant-loop-piece l = Ahead l.src l.at l.pieces l.piece-index
