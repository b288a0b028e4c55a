use Rattle.std.proofs.Common.{Some, ap, sym, ◌∙◌}
use Rattle.rule_switch.specs.Labels.{counted, range_told}
use Rattle.rule_switch.proofs.LabelLemmas.{labels_some, labels_default}
use Rattle.rule_switch.proofs.covered.count_case.Goals as goal

pub returns-in-Some : goal.returns-in-Some
returns-in-Some c f l =
    c.count_values.ensures f l
    ∙ sym (ap (counted (range_told c.args.limits))
    (labels_some f (Some c.args.t) c.args.case.now c.in-Some.values.now c.in-Some.ensures.some c.in-Some.ensures.values))

pub returns-in-None : goal.returns-in-None
returns-in-None c f l =
    sym (ap (counted (range_told c.args.limits)) (labels_default f (Some c.args.t) c.args.case.now c.in-None.ensures.none))
