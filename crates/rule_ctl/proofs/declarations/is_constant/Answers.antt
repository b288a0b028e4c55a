use Rattle.std.proofs.Common.{ap, ◌∙◌}
use Rattle.hare_typed.specs.Typed.{mark_of}
use Rattle.rule_ctl.proofs.DeclarationLemmas.{constant_is, constant_none}
use Rattle.rule_ctl.proofs.declarations.is_constant.Goals as goal

pub returns-in-Some : goal.returns-in-Some
returns-in-Some c f =
    c.is_known.ensures
    ∙ constant_is c.args.t.now.kids.now c.value_kid.result _ c.in-Some.value.now _ c.value_kid.ensures c.in-Some.ensures.found
    (ap (λ y. (mark_of y).value) c.value.view_is)

pub returns-in-None : goal.returns-in-None
returns-in-None c f = constant_none c.args.t.now.kids.now c.value_kid.result _ c.value_kid.ensures c.in-None.ensures.none
