use Rattle.std.proofs.Common.{ap, sym, ◌∙◌}
use Rattle.hare_tree.specs.Levels.{is_type}
use Rattle.hare_typed.specs.Numbers.{kind_of}
use Rattle.rule_judge.proofs.KidLemmas.{front_found}
use Rattle.hare_written.proofs.PartOfType.Known.{first-known}
use Rattle.hare_written.proofs.around.holds_type.Goals as goal

pub returns-in-Some : goal.returns-in-Some
returns-in-Some c e s k =
    let there = c.kid.view_is ∙ front_found c.args.kids.now 0 c.in-Some.kid.now c.in-Some.ensures.found in
    first-known s c.args.kids.now (ap (λ x. is_type (kind_of x)) (sym there) ∙ sym c.is_type.ensures ∙ e) k
