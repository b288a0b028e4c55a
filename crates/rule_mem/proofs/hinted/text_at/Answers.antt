use Rattle.std.proofs.Common.{ap, ◌∙◌}
use Rattle.hare_rules.specs.Context.{text_of}
use Rattle.rule_judge.proofs.KidLemmas.{front_found, front_past}
use Rattle.rule_mem.proofs.hinted.text_at.Goals as goal

pub returns-in-Some : goal.returns-in-Some
returns-in-Some c = c.bytes.ensures ∙ ap text_of
    (c.kid.view_is ∙ front_found c.args.kids.now c.args.i c.in-Some.kid.now c.in-Some.ensures.found)

pub returns-in-None : goal.returns-in-None
returns-in-None c = ap text_of (front_past c.args.kids.now c.args.i c.in-None.ensures.none)
