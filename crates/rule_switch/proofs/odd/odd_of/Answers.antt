use Rattle.std.proofs.Common.{ap, sym, ◌∙◌}
use Rattle.rule_switch.proofs.OddLemmas.{odd_place, values_in, values_none}
use Rattle.rule_switch.proofs.odd.odd_of.Goals as goal

pub returns-in-Some : goal.returns-in-Some
returns-in-Some c =
    c.odd_among.ensures
    ∙ ap odd_place (sym (values_in c.args.case.now _ _ _ c.case.view_is c.in-Some.first.now _ _ _ c.in-Some.ensures.found c.first.view_is))

pub returns-in-None : goal.returns-in-None
returns-in-None c = ap odd_place (sym (values_none c.args.case.now _ _ _ c.case.view_is c.in-None.ensures.none))
