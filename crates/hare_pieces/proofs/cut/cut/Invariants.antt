use Rattle.std.proofs.Common.{length}
use Rattle.hare_pieces.proofs.Walk.Walked.{Walked}
use Rattle.hare_pieces.proofs.cut.cut.Given as goal

-- the tokens before the rest are cut
abbrev pub invariant-tokens : goal.invariant-tokens
invariant-tokens l = Walked l.fn.src l.behind_path l.at l.pieces l.rest

abbrev pub decreases-tokens : goal.decreases-tokens
decreases-tokens l = length l.rest
