use Rattle.std.proofs.Common.{◌<◌, sym, ap, ◌∙◌, arith}
use Rattle.hare_typed.specs.Typed.{typed_nodes, size_of, sizes_of}
use Rattle.hare_typed.proofs.KidLemmas.{kid_size}
use Rattle.hare_rules.specs.Places.{is_first_place}
use Rattle.rule_judge.specs.Settings.{setting_of}
use Rattle.rule_judge.proofs.KidLemmas.{kid_defined, first_is}
use Rattle.rule_judge.proofs.places.+place.Goals as goal

pub is_first_place-is_place-requires : goal.is_first_place-is_place-requires
is_first_place-is_place-requires t c =
    let h : size_of c.in-Some.tree.now < sizes_of (typed_nodes c.args.trees.now) =
    kid_size c.args.trees.now 0 c.in-Some.tree.now c.in-Some.ensures.found in
    (omega arith, kid_defined c.args.s.now c.args.trees.now 0 c.in-Some.tree.now c.requires c.in-Some.ensures.found)

pub is_first_place-returns-in-Some : goal.is_first_place-returns-in-Some
is_first_place-returns-in-Some t c f l =
    c.is_place.ensures f l ∙ sym (ap (λ xs. is_first_place (setting_of f c.args.decls.now) (typed_nodes xs))
    (first_is c.args.trees.now c.in-Some.tree.now c.in-Some.ensures.found).1)
