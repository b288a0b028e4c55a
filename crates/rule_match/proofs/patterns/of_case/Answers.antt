use Rattle.std.proofs.Common.{◌∙◌}
use Rattle.rule_judge.proofs.KidLemmas.{front_found, front_past}
use Rattle.rule_match.proofs.PatternLemmas.{pattern_front, pattern_absent}
use Rattle.rule_match.proofs.patterns.of_case.Goals as goal

pub returns-in-Some : goal.returns-in-Some
returns-in-Some c =
    c.read.ensures
    ∙ pattern_front _ _ c.case.inside.kids c.args.case.now c.in-Some.tree.now c.case.view_is
    (front_found c.case.inside.kids 0 c.in-Some.tree.now c.in-Some.ensures.found)

pub returns-in-None : goal.returns-in-None
returns-in-None c = pattern_absent _ _ c.case.inside.kids c.args.case.now c.case.view_is
    (front_past c.case.inside.kids 0 c.in-None.ensures.none)
