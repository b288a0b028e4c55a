-- The blocks that are left have such an edge exactly where all have.
use Rattle.std.proofs.Common.{◌≡◌, length}
use Rattle.il_code.specs.Rules.{is_edge}
use Rattle.il_code.proofs.validity.flow.is_edge.Given as goal

abbrev pub invariant-each : goal.invariant-each
invariant-each l = is_edge l.from l.to l.left ≡ is_edge l.initial.from l.initial.to l.initial.left

abbrev pub decreases-each : goal.decreases-each
decreases-each l = length l.left
