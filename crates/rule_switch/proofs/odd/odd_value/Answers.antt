use Rattle.std.proofs.Common.{sym, ◌∙◌, arith}
use Rattle.rule_switch.proofs.OddLemmas.{case_odd, case_constant, cases_end}
use Rattle.rule_switch.proofs.odd.odd_value.Goals as goal

pub loop-i-preserved : goal.loop-i-preserved
loop-i-preserved c =
    sym (case_constant c.args.t.now.kids.now c.loop-i.i c.in-Some.case.now c.in-Some.ensures.found c.in_default-odd_of.ensures) ∙
    c.loop-i.invariant

pub returns : goal.returns
returns c f = cases_end c.args.t.now.kids.now c.loop-i.i (omega arith) ∙ c.loop-i.invariant

pub returns-in-Some-odd_of : goal.returns-in-Some-odd_of
returns-in-Some-odd_of c f =
    case_odd c.args.t.now.kids.now c.loop-i.i c.in-Some.case.now c.in-Some.ensures.found c.in-Some-odd_of.place c.in-Some-odd_of.ensures
    ∙ c.loop-i.invariant
