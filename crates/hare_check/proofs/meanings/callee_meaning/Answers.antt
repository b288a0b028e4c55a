use Rattle.std.proofs.Common.{ap, sym, ◌∙◌}
use Rattle.hare_typed.specs.Numbers.{kind_of}
use Rattle.hare_typed.specs.Order.{tree_from_front}
use Rattle.hare_typed.specs.Typed.{mark_of}
use Rattle.rule_judge.proofs.KidLemmas.{front_found}
use Rattle.rule_ctl.proofs.CallLemmas.{path_means, other_means}
use Rattle.hare_check.proofs.meanings.callee_meaning.Goals as goal

pub returns-in-Path : goal.returns-in-Path
returns-in-Path c =
    let e = c.kid.view_is ∙ front_found c.args.kids.now 0 c.in-Some.kid.now c.in-Some.ensures.found in
    ap (λ x. (mark_of x).meaning) e ∙ path_means (tree_from_front 0 c.args.kids.now) (sym (ap kind_of e) ∙ c.in-Path.is)

pub returns-in_default : goal.returns-in_default
returns-in_default c =
    let e = c.kid.view_is ∙ front_found c.args.kids.now 0 c.in-Some.kid.now c.in-Some.ensures.found in
    other_means (tree_from_front 0 c.args.kids.now) (λ k. c.in_default.not-Path (ap kind_of e ∙ k))
