use Rattle.std.proofs.Common.{◌+◌, ◌*◌, length}
use Rattle.hare_blocks.proofs.ReadStatements.Sequences.{StatementsSoFar}
use Rattle.hare_blocks.proofs.read_statement.+statement.Given as goal

-- each block that opens takes 4
abbrev pub decreases-statements : goal.decreases-statements
decreases-statements l = 4 * l.left + 3

abbrev pub decreases-statement : goal.decreases-statement
decreases-statement l = 4 * l.left + 2

abbrev pub decreases-choice : goal.decreases-choice
decreases-choice l = 4 * l.left + 1

abbrev pub decreases-repetition : goal.decreases-repetition
decreases-repetition l = 4 * l.left + 1

abbrev pub decreases-block : goal.decreases-block
decreases-block l = 4 * l.left

abbrev pub invariant-statements-statements : goal.invariant-statements-statements
invariant-statements-statements l = StatementsSoFar l.left l.found l.fn.tokens l.tokens

abbrev pub decreases-statements-statements : goal.decreases-statements-statements
decreases-statements-statements l = length l.tokens
