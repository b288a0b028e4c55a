-- What was put out and what is left are all items.
use Rattle.std.proofs.Common.{◌≡◌, ◌++◌, length, map}
use Rattle.il_emit.specs.Emitted.{data_item}
use Rattle.il_emit.proofs.module.put_globals.Given as goal

abbrev pub invariant-each : goal.invariant-each
invariant-each l = l.out ++ map data_item l.left ≡ l.initial.out ++ map data_item l.initial.left

abbrev pub decreases-each : goal.decreases-each
decreases-each l = length l.left
