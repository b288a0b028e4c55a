-- What is told and what is left is told of all.
use Rattle.std.proofs.Common.{◌≡◌, ◌++◌, length}
use Rattle.il_tight.specs.Tight.{is_known, begins}
use Rattle.il_tight.proofs.wanted.begins.Given as goal

abbrev pub invariant-each : goal.invariant-each
invariant-each l = l.flags.items ++ begins (is_known l.known) l.left ≡ l.initial.flags.items ++ begins (is_known l.known) l.initial.left

abbrev pub decreases-each : goal.decreases-each
decreases-each l = length l.left
