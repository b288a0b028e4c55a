-- The parameters so far and what is left are all parameters.
use Rattle.std.proofs.Common.{◌≡◌, ◌++◌, length}
use Rattle.il_emit.specs.Emitted.{params_of}
use Rattle.il_emit.proofs.module.params_of.Given as goal

abbrev pub invariant-each : goal.invariant-each
invariant-each l = l.params ++ params_of l.t l.left ≡ params_of 0 l.initial.left

abbrev pub decreases-each : goal.decreases-each
decreases-each l = length l.left
