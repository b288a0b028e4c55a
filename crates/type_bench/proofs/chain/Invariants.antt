use Rattle.std.proofs.Common.{◌<◌, length}
use Rattle.type_bench.proofs.chain.Given as goal

abbrev pub invariant-loop-n : goal.invariant-loop-n
invariant-loop-n l = l.last < length l.store.rows
