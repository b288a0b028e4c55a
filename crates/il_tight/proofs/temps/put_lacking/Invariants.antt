-- What is put and what is left to be put is all, and so is what is set.
use Rattle.std.proofs.Common.{◌≡◌, ◌++◌, length}
use Rattle.il_tight.specs.Tight.{lacking, with_settings}
use Rattle.il_tight.proofs.temps.put_lacking.Given as goal

abbrev pub invariant-each : goal.invariant-each
invariant-each l = (l.out ++ lacking l.read l.set l.left ≡ l.initial.out ++ lacking l.read l.initial.set l.initial.left) ×
    (with_settings l.set l.left ≡ with_settings l.initial.set l.initial.left)

abbrev pub decreases-each : goal.decreases-each
decreases-each l = length l.left
