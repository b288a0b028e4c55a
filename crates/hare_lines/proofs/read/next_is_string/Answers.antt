use Rattle.hare_lines.proofs.Steps.Ahead.{ahead_end}
use Rattle.hare_lines.proofs.read.next_is_string.Goals as goal

pub returns : goal.returns
returns c = ahead_end c.args.src.now c.args.at c.args.pieces.now c.loop-piece.piece-index c.loop-piece-test.false c.loop-piece.invariant
