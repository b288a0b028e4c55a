-- The blocks that are left end as all do.
use Rattle.std.proofs.Common.{◌≡◌, length}
use Rattle.il_code.specs.Shaped.{ends}
use Rattle.il_code.proofs.validity.shape.ends.Given as goal

abbrev pub invariant-each : goal.invariant-each
invariant-each l = ends l.left ≡ ends l.initial.left

abbrev pub decreases-each : goal.decreases-each
decreases-each l = length l.left
