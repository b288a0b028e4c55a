use Rattle.std.proofs.Common.{Some, ap, sym, ◌∙◌, arith}
use Rattle.hare_rules.specs.Context.{place_of}
use Rattle.rule_switch.proofs.OddLemmas.{odd_here, odd_next, odd_end}
use Rattle.rule_switch.proofs.odd.odd_among.Goals as goal

pub returns-then-is_odd : goal.returns-then-is_odd
returns-then-is_odd c =
    ap (λ p. Some p) (ap place_of c.value.view_is)
    ∙ odd_here c.args.values.now c.loop-i.i c.in-Some.value.now c.in-Some.ensures.found (omega arith) c.if-is_odd.ensures ∙
    c.loop-i.invariant

pub loop-i-preserved : goal.loop-i-preserved
loop-i-preserved c =
    sym (odd_next c.args.values.now c.loop-i.i c.in-Some.value.now c.in-Some.ensures.found (omega arith) c.if-is_odd.ensures) ∙
    c.loop-i.invariant

pub returns : goal.returns
returns c = odd_end c.args.values.now c.loop-i.i (omega arith) ∙ c.loop-i.invariant
