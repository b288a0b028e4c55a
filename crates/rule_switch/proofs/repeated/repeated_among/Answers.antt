use Rattle.std.proofs.Common.{sym, ◌∙◌}
use Rattle.rule_switch.specs.Labels.{labels_met}
use Rattle.rule_switch.proofs.RepeatLemmas.{case_met}
use Rattle.rule_switch.proofs.repeated.repeated_among.Goals as goal

pub returns-in-Some-at : goal.returns-in-Some-at
returns-in-Some-at c f l =
    sym (c.loop-i.invariant f l
    ∙ case_met f c.args.to.now (labels_met c.loop-i.met.keys) (labels_met c.meet_case.new.met.keys) c.loop-i.i c.in_ok-at.at _
    c.in-Some-at.is c.args.kids.now c.in-Some.case.now c.in-Some.ensures.found (c.in_ok-at.ensures f l))

pub loop-i-preserved : goal.loop-i-preserved
loop-i-preserved c f l =
    c.loop-i.invariant f l
    ∙ case_met f c.args.to.now (labels_met c.loop-i.met.keys) (labels_met c.meet_case.new.met.keys) c.loop-i.i c.in_ok-at.at _
    c.in_default-at.is c.args.kids.now c.in-Some.case.now c.in-Some.ensures.found (c.in_ok-at.ensures f l)
