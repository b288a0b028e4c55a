-- The code so far and that of the terms, or factors, that are left are all code.
use Rattle.std.proofs.Common.{◌≡◌, drop}
use Rattle.hare_blocks.specs.Shape.{terms_of, factors_of}
use Rattle.low_blocks.specs.Expressions.{terms_steps, factors_steps}
use Rattle.low_blocks.specs.Drafts.{steps_of}
use Rattle.low_blocks.proofs.expr.+expr.Given as goal

abbrev pub invariant-lower_expr-loop-t : goal.invariant-lower_expr-loop-t
invariant-lower_expr-loop-t l = terms_steps l.scope (steps_of l.draft l.left) (terms_of (drop l.t-index l.t-items)) ≡ terms_steps l.scope
    (steps_of l.initial.draft l.initial.left) (terms_of l.t-items)

abbrev pub invariant-lower_term-loop-f : goal.invariant-lower_term-loop-f
invariant-lower_term-loop-f l = factors_steps l.scope (steps_of l.draft l.left) (factors_of (drop l.f-index l.f-items)) ≡ factors_steps
    l.scope (steps_of l.initial.draft l.initial.left) (factors_of l.f-items)
