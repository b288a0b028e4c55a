use Rattle.std.proofs.Common.{false, refl, ap, sym, ◌∙◌}
use Rattle.hare_rules.specs.Context.{is_there}
use Rattle.rule_judge.proofs.KidLemmas.{front_past}
use Rattle.rule_switch.proofs.OddLemmas.{first_kid, values_in}
use Rattle.rule_switch.proofs.labels.values_of.Goals as goal

pub returns-then-not-is_there-clause-none : goal.returns-then-not-is_there-clause-none
returns-then-not-is_there-clause-none c = ap is_there (first_kid c.args.case.now _ _ _ c.case.view_is) ∙ sym c.is_there.ensures ∙
    c.if-not-is_there.true

pub returns-in-Some-clause-some : goal.returns-in-Some-clause-some
returns-in-Some-clause-some c = ap is_there (first_kid c.args.case.now _ _ _ c.case.view_is) ∙ sym c.is_there.ensures ∙
    c.if-not-is_there.false

pub returns-in-Some-clause-values : goal.returns-in-Some-clause-values
returns-in-Some-clause-values c = values_in c.args.case.now _ _ _ c.case.view_is c.in-Some.first.now _ _ _ c.in-Some.ensures.found
    c.first.view_is

pub returns-in-None-clause-none : goal.returns-in-None-clause-none
returns-in-None-clause-none c = ap is_there (first_kid c.args.case.now _ _ _ c.case.view_is ∙ sym (front_past _ 0 c.in-None.ensures.none))
