use Rattle.std.proofs.Common.{ap, ◌∙◌, arith}
use Rattle.hare_typed.specs.Typed.{TypedNode}
use Rattle.hare_typed.specs.Erased.{erase}
use Rattle.hare_modules.specs.Order.{fault}
use Rattle.hare_modules.specs.Uses.{place_of}
use Rattle.hare_limits.proofs.LimitsPassed.Sums.{summed-more, weight-passes, size-passes, bytes-there}
use Rattle.hare_limits.proofs.sums.first_large_sum.Goals as goal

pub overflow_add-size : goal.overflow_add-size
overflow_add-size c =
    let e = bytes-there c.args.s.now c.args.decls.now c.args.bytes.now c.loop-i.i c.bytes_at.result c.in-Some.decl.now c.requires
    c.in-Some.ensures.found c.bytes_at.ensures in
    omega (arith, e)

pub returns-then-weight-gt-MOST_OF_WEIGHT : goal.returns-then-weight-gt-MOST_OF_WEIGHT
returns-then-weight-gt-MOST_OF_WEIGHT c =
    weight-passes c.args.s.now c.args.decls.now c.loop-i.i c.loop-i.weight c.loop-i.size c.in_ok-weight.field-0 c.in-Some.decl.now _
    c.in-Some.ensures.found c.loop-i.invariant
    c.in_ok-weight.ensures c.if-weight-gt-MOST_OF_WEIGHT.true
    (c.sum_fault.ensures ∙ ap (λ (u : TypedNode). fault 48 (place_of (erase u))) c.behind-decl.view_is
    ∙ ap (λ u. fault 48 (place_of u)) c.name_in.ensures)

pub returns-then-size-gt-MOST_OF_GLOBALS : goal.returns-then-size-gt-MOST_OF_GLOBALS
returns-then-size-gt-MOST_OF_GLOBALS c =
    let e = bytes-there c.args.s.now c.args.decls.now c.args.bytes.now c.loop-i.i c.bytes_at.result c.in-Some.decl.now c.requires
    c.in-Some.ensures.found c.bytes_at.ensures in
    size-passes c.args.s.now c.args.decls.now c.loop-i.i c.loop-i.weight c.loop-i.size c.bytes_at.result c.in-Some.decl.now _
    c.in-Some.ensures.found c.loop-i.invariant
    e c.if-size-gt-MOST_OF_GLOBALS.true
    (c.sum_fault-then-size-gt-MOST_OF_GLOBALS.ensures
    ∙ ap (λ (u : TypedNode). fault 48 (place_of (erase u))) c.behind-decl-then-size-gt-MOST_OF_GLOBALS.view_is
    ∙ ap (λ u. fault 48 (place_of u)) c.name_in-then-size-gt-MOST_OF_GLOBALS.ensures)

pub loop-i-preserved : goal.loop-i-preserved
loop-i-preserved c =
    let e = bytes-there c.args.s.now c.args.decls.now c.args.bytes.now c.loop-i.i c.bytes_at.result c.in-Some.decl.now c.requires
    c.in-Some.ensures.found c.bytes_at.ensures in
    summed-more c.args.s.now c.args.decls.now c.loop-i.i c.loop-i.weight c.loop-i.size c.in_ok-weight.field-0 c.bytes_at.result
    c.in-Some.decl.now c.in-Some.ensures.found c.loop-i.invariant
    c.in_ok-weight.ensures e c.if-weight-gt-MOST_OF_WEIGHT.false c.if-size-gt-MOST_OF_GLOBALS.false
