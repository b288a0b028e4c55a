-- What is left is no higher than the code was, and falls.
use Rattle.std.proofs.Common.{◌≤◌}
use Rattle.flat_code.specs.Code.{height}
use Rattle.flat_code.specs.Shape.{code_of}
use Rattle.flat_code.proofs.flat.Flat.parted.Given as goal

abbrev pub invariant-down : goal.invariant-down
invariant-down l = height (code_of l.self) ≤ height (code_of l.initial.self)

abbrev pub decreases-down : goal.decreases-down
decreases-down l = height (code_of l.self)
