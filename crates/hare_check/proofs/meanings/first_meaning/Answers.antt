use Rattle.std.proofs.Common.{ap, ◌∙◌}
use Rattle.hare_typed.specs.Typed.{mark_of}
use Rattle.rule_judge.proofs.KidLemmas.{front_found, front_past}
use Rattle.hare_check.proofs.meanings.first_meaning.Goals as goal

pub returns-in-Some : goal.returns-in-Some
returns-in-Some c =
    ap (λ x. (mark_of x).meaning) (c.kid.view_is ∙ front_found c.args.kids.now 0 c.in-Some.kid.now c.in-Some.ensures.found)

pub returns-in-None : goal.returns-in-None
returns-in-None c = ap (λ x. (mark_of x).meaning) (front_past c.args.kids.now 0 c.in-None.ensures.none)
