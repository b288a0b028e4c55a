use Rattle.std.proofs.Common.{◌∙◌, arith}
use Rattle.rule_switch.specs.Labels.{labels_met}
use Rattle.rule_switch.proofs.LabelLemmas.{value_told}
use Rattle.rule_switch.proofs.RepeatLemmas.{value_met, values_met}
use Rattle.rule_switch.proofs.repeated.meet_values.Goals as goal

pub returns-in-Some-at : goal.returns-in-Some-at
returns-in-Some-at c f l rest =
    c.loop-i.invariant f l rest
    ∙ value_met f c.args.to.now (labels_met c.loop-i.met.keys) (labels_met c.meet.new.met.keys) c.loop-i.i c.in_ok-at.at _
    c.in-Some-at.is c.args.values.now c.in-Some.value.now _ c.in-Some.ensures.found (omega arith)
    (value_told f c.args.to.now _ _ _ c.in-Some.value.now c.value.view_is c.in_ok-label.label (c.in_ok-label.ensures f l))
    c.in_ok-at.ensures rest

pub loop-i-preserved : goal.loop-i-preserved
loop-i-preserved c f l rest =
    c.loop-i.invariant f l rest
    ∙ value_met f c.args.to.now (labels_met c.loop-i.met.keys) (labels_met c.meet.new.met.keys) c.loop-i.i c.in_ok-at.at _
    c.in_default-at.is c.args.values.now c.in-Some.value.now _ c.in-Some.ensures.found (omega arith)
    (value_told f c.args.to.now _ _ _ c.in-Some.value.now c.value.view_is c.in_ok-label.label (c.in_ok-label.ensures f l))
    c.in_ok-at.ensures rest

pub returns : goal.returns
returns c f l rest =
    c.loop-i.invariant f l rest ∙ values_met f c.args.to.now (labels_met c.loop-i.met.keys) c.args.values.now c.loop-i.i rest (omega arith)
