-- What is added and what is left to be added is all.
use Rattle.std.proofs.Common.{◌≡◌, length}
use Rattle.il_tight.specs.Tight.{with_args}
use Rattle.il_tight.proofs.temps.add_args.Given as goal

abbrev pub invariant-each : goal.invariant-each
invariant-each l = with_args l.known l.left ≡ with_args l.initial.known l.initial.left

abbrev pub decreases-each : goal.decreases-each
decreases-each l = length l.left
