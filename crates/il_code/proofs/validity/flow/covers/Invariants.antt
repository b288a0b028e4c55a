-- The blocks that are left are covered exactly where all are.
use Rattle.std.proofs.Common.{◌≡◌, length}
use Rattle.il_code.specs.Rules.{covers}
use Rattle.il_code.proofs.validity.flow.covers.Given as goal

abbrev pub invariant-each : goal.invariant-each
invariant-each l = covers l.args l.to l.left ≡ covers l.initial.args l.initial.to l.initial.left

abbrev pub decreases-each : goal.decreases-each
decreases-each l = length l.left
