-- The parts of an expression add its code.
use Rattle.std.proofs.Common.{ap, ◌∙◌}
use Rattle.hare_blocks.specs.Shape.{terms_of, factor_of, factors_of}
use Rattle.low_blocks.specs.Expressions.{terms_steps, factors_steps, term_steps, factor_steps}
use Rattle.low_blocks.specs.Drafts.{steps_of, steps_behind}
use Rattle.low_blocks.proofs.LoweredParts.Drafts.{terms_done, factors_done}
use Rattle.low_blocks.proofs.expr.+expr.Goals as goal

pub lower_expr-returns : goal.lower_expr-returns
lower_expr-returns t c =
    let scope = c.args.scope.now in
    let first = term_steps scope c.args.draft.now.next c.e.inside.head in
    let done = terms_done scope c.deref-t-items.result.now c.loop-t.t-index (steps_of c.loop-t.draft c.loop-t.left)
    (steps_of c.lower_term.new.draft c.in_ok-left.left) first c.args.draft.now.code c.loop-t-test.false c.loop-t.invariant
    c.in_ok-left.ensures in
    rw (← c.e.view_is) (done ∙ ap (λ ts. steps_behind c.args.draft.now.code (terms_steps scope first (terms_of ts)))
    c.deref-t-items.ensures.value)

pub lower_term-returns : goal.lower_term-returns
lower_term-returns t c =
    let scope = c.args.scope.now in
    let first = factor_steps scope c.args.draft.now.next (factor_of c.t.inside.head) in
    let done = factors_done scope c.deref-f-items.result.now c.loop-f.f-index (steps_of c.loop-f.draft c.loop-f.left)
    (steps_of c.lower_factor.new.draft c.in_ok-left.left) first c.args.draft.now.code c.loop-f-test.false c.loop-f.invariant
    c.in_ok-left.ensures in
    rw (← c.t.view_is) (done ∙ ap (λ fs. steps_behind c.args.draft.now.code (factors_steps scope first (factors_of fs)))
    c.deref-f-items.ensures.value)
