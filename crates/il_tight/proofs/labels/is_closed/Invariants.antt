-- What is left is closed exactly where all is.
use Rattle.std.proofs.Common.{◌≡◌, length}
use Rattle.il_tight.specs.Tight.{is_known, is_closed}
use Rattle.il_tight.proofs.labels.is_closed.Given as goal

abbrev pub invariant-each : goal.invariant-each
invariant-each l = is_closed (is_known l.known) l.into l.left ≡ is_closed (is_known l.known) l.initial.into l.initial.left

abbrev pub decreases-each : goal.decreases-each
decreases-each l = length l.left
