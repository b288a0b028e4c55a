use Rattle.std.proofs.Common.{ap, ◌∙◌}
use Rattle.hare_rules.specs.Flow.{is_by_reference}
use Rattle.rule_judge.proofs.KidLemmas.{front_found}
use Rattle.hare_find.proofs.BindingsSeen.Loops.{reference_there}
use Rattle.hare_find.proofs.loops.is_by_reference.Goals as goal

pub returns-in-Some : goal.returns-in-Some
returns-in-Some c =
    c.is_there.ensures ∙ reference_there _ _ c.binding.inside.kids c.in-Some.binding.now c.binding.view_is
    ∙ ap is_by_reference (front_found c.args.kids.now 0 c.in-Some.binding.now c.in-Some.ensures.found)
