use Rattle.std.proofs.Common.{[], drop, ap, ◌∙◌}
use Rattle.hare_rules.specs.Constants.{each_label}
use Rattle.rule_switch.specs.Labels.{repeated_place}
use Rattle.rule_switch.proofs.repeated.repeated.Goals as goal

pub returns-clause-value : goal.returns-clause-value
returns-clause-value c f l =
    c.in_ok-at.ensures f l ∙ ap (λ o. repeated_place [] (each_label f o (drop 1 c.args.t.now.kids.now))) (c.in_ok-to.ensures.value f l)
