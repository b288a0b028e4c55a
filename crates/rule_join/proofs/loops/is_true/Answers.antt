use Rattle.std.proofs.Common.{ap, ◌∙◌}
use Rattle.hare_rules.specs.Control.{is_true, is_true_by}
use Rattle.rule_judge.proofs.KidLemmas.{front_found, front_past}
use Rattle.rule_join.proofs.loops.is_true.Goals as goal

pub returns-in-Some : goal.returns-in-Some
returns-in-Some c =
    c.is_true_by.ensures ∙ ap (is_true_by _) c.bytes.ensures ∙ ap is_true
    (c.kid.view_is ∙ front_found c.args.kids.now c.args.i c.in-Some.kid.now c.in-Some.ensures.found)

pub returns-in-None : goal.returns-in-None
returns-in-None c = ap is_true (front_past c.args.kids.now c.args.i c.in-None.ensures.none)
