use Rattle.std.proofs.Common.{◌≤◌}
use Rattle.type_bench.proofs.aliases.told.Given as goal

abbrev pub invariant-loop-n : goal.invariant-loop-n
invariant-loop-n l = l.told ≤ l.n
