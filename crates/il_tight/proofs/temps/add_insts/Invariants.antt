-- What is added and what is left to be added is all.
use Rattle.std.proofs.Common.{◌≡◌, length}
use Rattle.il_tight.specs.Tight.{with_insts}
use Rattle.il_tight.proofs.temps.add_insts.Given as goal

abbrev pub invariant-each : goal.invariant-each
invariant-each l = with_insts l.known l.left ≡ with_insts l.initial.known l.initial.left

abbrev pub decreases-each : goal.decreases-each
decreases-each l = length l.left
