-- The code so far and that of the statements that are left are all code.
use Rattle.std.proofs.Common.{drop}
use Rattle.hare_blocks.specs.Sizes.{list_of_statements}
use Rattle.low_blocks.proofs.LoweredParts.Lowered.{IsRest}
use Rattle.low_blocks.proofs.statement.+statement.Given as goal

abbrev pub invariant-lower_statements-loop-i : goal.invariant-lower_statements-loop-i
invariant-lower_statements-loop-i l = IsRest l.initial.draft l.draft l.initial.scope l.initial.globals l.globals l.scope
    (list_of_statements l.body) (list_of_statements (drop l.i l.body))
