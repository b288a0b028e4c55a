-- What is left sets a temporary exactly where all do.
use Rattle.std.proofs.Common.{◌≡◌, length}
use Rattle.std.specs.List.{list_any}
use Rattle.il_tight.specs.Tight.{assigns}
use Rattle.il_tight.proofs.temps.sets.Given as goal

abbrev pub invariant-each : goal.invariant-each
invariant-each l = list_any assigns l.left ≡ list_any assigns l.initial.left

abbrev pub decreases-each : goal.decreases-each
decreases-each l = length l.left
