use Rattle.std.proofs.Common.{◌≡◌}
use Rattle.harec_core.proofs.tests.held.Given as goal

-- no read was made yet
abbrev pub invariant-loop-file : goal.invariant-loop-file
invariant-loop-file l = l.held.tally.failed ≡ 0
