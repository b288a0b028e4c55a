-- What was put out and what is left are all parts.
use Rattle.std.proofs.Common.{◌≡◌, ◌++◌, length}
use Rattle.il_emit.specs.Emitted.{parts_of}
use Rattle.il_emit.proofs.data.put_items.Given as goal

abbrev pub invariant-each : goal.invariant-each
invariant-each l = l.out ++ parts_of l.left ≡ l.initial.out ++ parts_of l.initial.left

abbrev pub decreases-each : goal.decreases-each
decreases-each l = length l.left
