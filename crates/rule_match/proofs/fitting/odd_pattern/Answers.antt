use Rattle.std.proofs.Common.{not, arith}
use Rattle.hare_typed.specs.Given.{given}
use Rattle.hare_typed.specs.Order.{tree_from_front}
use Rattle.hare_typed.specs.Typed.{TypedNode}
use Rattle.hare_rules.specs.Control.{fits_pattern, odd_case, pattern_of}
use Rattle.rule_judge.specs.Turns.{context_in}
use Rattle.rule_match.proofs.FittingLemmas.{found_here, found_later, found_nowhere, misfits}
use Rattle.rule_match.proofs.fitting.odd_pattern.Goals as goal

pub is_fitting-requires-clause-pattern : goal.is_fitting-requires-clause-pattern
is_fitting-requires-clause-pattern c = c.pattern_at.ensures.defined c.args.s.now c.requires.types

pub returns-then-not-is_fitting : goal.returns-then-not-is_fitting
returns-then-not-is_fitting c f l =
    found_here (λ (x : TypedNode). not (fits_pattern f (given (tree_from_front 0 c.args.t.now.kids.now)) (pattern_of x)))
    c.args.t.now.kids.now c.loop-i.i
    (odd_case (context_in f c.args.t.now)) (c.loop-i.invariant f l) c.pattern_place.result (omega arith)
    (misfits f _ _ _ _ _ c.seen-operand.ensures.value c.pattern_at.ensures.value (c.if-not-is_fitting.ensures f l)) c.pattern_place.ensures

pub loop-i-preserved : goal.loop-i-preserved
loop-i-preserved c f l =
    found_later (λ (x : TypedNode). not (fits_pattern f (given (tree_from_front 0 c.args.t.now.kids.now)) (pattern_of x)))
    c.args.t.now.kids.now c.loop-i.i
    (odd_case (context_in f c.args.t.now)) (c.loop-i.invariant f l) (omega arith)
    (misfits f _ _ _ _ _ c.seen-operand.ensures.value c.pattern_at.ensures.value (c.if-not-is_fitting.ensures f l))

pub returns : goal.returns
returns c f l =
    found_nowhere (λ (x : TypedNode). not (fits_pattern f (given (tree_from_front 0 c.args.t.now.kids.now)) (pattern_of x)))
    c.args.t.now.kids.now c.loop-i.i
    (odd_case (context_in f c.args.t.now)) (c.loop-i.invariant f l) (omega arith)
