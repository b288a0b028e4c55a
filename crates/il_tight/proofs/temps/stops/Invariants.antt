-- What is left stops exactly where all does.
use Rattle.std.proofs.Common.{◌≡◌, length}
use Rattle.il_tight.specs.Tight.{stops}
use Rattle.il_tight.proofs.temps.stops.Given as goal

abbrev pub invariant-each : goal.invariant-each
invariant-each l = stops l.stopped l.left ≡ stops l.initial.stopped l.initial.left

abbrev pub decreases-each : goal.decreases-each
decreases-each l = length l.left
