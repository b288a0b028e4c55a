use Rattle.std.proofs.Common.{sym, ap, ◌∙◌}
use Rattle.hare_typed.specs.Typed.{typed_nodes}
use Rattle.hare_typed.specs.Given.{given}
use Rattle.hare_rules.specs.Places.{first_points, is_pointer}
use Rattle.rule_judge.proofs.KidLemmas.{kid_defined, first_is, seen_given}
use Rattle.rule_judge.proofs.places.first_points.Goals as goal

pub is_pointer-requires : goal.is_pointer-requires
is_pointer-requires c = seen_given c.args.s.now c.in-Some.tree.now _ c.tree.view_is
    (kid_defined c.args.s.now c.args.trees.now 0 c.in-Some.tree.now c.requires c.in-Some.ensures.found)

pub returns-in-Some : goal.returns-in-Some
returns-in-Some c f l =
    let first = first_is c.args.trees.now c.in-Some.tree.now c.in-Some.ensures.found in
    c.is_pointer.ensures f l ∙ ap (λ x. is_pointer f (given x)) c.tree.view_is ∙ sym (ap (λ xs. first_points f (typed_nodes xs)) first.1)
