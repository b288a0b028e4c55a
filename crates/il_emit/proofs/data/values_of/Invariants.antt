-- The values so far and what is left are all values.
use Rattle.std.proofs.Common.{◌≡◌, ◌++◌, length, []}
use Rattle.il_emit.specs.Emitted.{byte_values}
use Rattle.il_emit.proofs.data.values_of.Given as goal

abbrev pub invariant-each : goal.invariant-each
invariant-each l = l.values ++ byte_values l.string l.left ≡ byte_values [] l.initial.left

abbrev pub decreases-each : goal.decreases-each
decreases-each l = length l.left
