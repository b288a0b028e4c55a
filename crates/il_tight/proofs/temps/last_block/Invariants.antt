-- The first block that is dropped is left.
use Rattle.std.proofs.Common.{◌≡◌, length}
use Rattle.il_tight.specs.Tight.{dropped, is_known}
use Rattle.il_tight.proofs.temps.last_block.Given as goal

abbrev pub invariant-each : goal.invariant-each
invariant-each l = dropped (is_known l.labels) l.into l.left ≡ dropped (is_known l.labels) l.initial.into l.initial.left

abbrev pub decreases-each : goal.decreases-each
decreases-each l = length l.left
