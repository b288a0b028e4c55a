use Rattle.std.proofs.Common.{◌≤◌}
use Rattle.type_bench.proofs.fields.found.Given as goal

abbrev pub invariant-loop-name : goal.invariant-loop-name
invariant-loop-name l = l.found ≤ l.name
