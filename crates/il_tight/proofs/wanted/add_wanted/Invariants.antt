-- What is added and what is left to be added is all.
use Rattle.std.proofs.Common.{◌≡◌, length}
use Rattle.il_tight.specs.Tight.{wanted_from}
use Rattle.il_tight.proofs.wanted.add_wanted.Given as goal

abbrev pub invariant-each : goal.invariant-each
invariant-each l = wanted_from l.known l.into l.left ≡ wanted_from l.initial.known l.initial.into l.initial.left

abbrev pub decreases-each : goal.decreases-each
decreases-each l = length l.left
