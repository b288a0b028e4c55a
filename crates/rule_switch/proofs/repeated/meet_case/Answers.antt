use Rattle.rule_switch.specs.Labels.{labels_met}
use Rattle.rule_switch.proofs.LabelLemmas.{labels_some}
use Rattle.rule_switch.proofs.RepeatLemmas.{meets_along}
use Rattle.rule_switch.proofs.repeated.meet_case.Goals as goal

pub returns-in_ok-at-in-Some : goal.returns-in_ok-at-in-Some
returns-in_ok-at-in-Some c f l =
    meets_along (labels_met c.args.met.now.keys) (labels_met c.meet_values.new.met.keys) _ _ c.in_ok-at-in-Some.at
    (labels_some f c.args.to.now c.args.case.now c.in-Some.values.now c.in-Some.ensures.some c.in-Some.ensures.values)
    (c.in_ok-at-in-Some.ensures f l)
