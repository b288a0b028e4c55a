-- The statement and what is left are together no higher than they were, and the statement falls.
use Rattle.std.proofs.Common.{◌+◌, ◌≤◌}
use Rattle.flat_code.specs.Code.{height}
use Rattle.flat_code.specs.Shape.{code_of}
use Rattle.flat_code.proofs.flat.Flat.turned.Given as goal

abbrev pub invariant-down : goal.invariant-down
invariant-down l = height (code_of l.self) + height (code_of l.rest) ≤ height (code_of l.initial.self) + height (code_of l.initial.rest)

abbrev pub decreases-down : goal.decreases-down
decreases-down l = height (code_of l.self)
