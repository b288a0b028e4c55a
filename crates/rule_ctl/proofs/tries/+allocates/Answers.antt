use Rattle.std.proofs.Common.{◌<◌, sym, ap, ◌∙◌, arith}
use Rattle.hare_typed.specs.Erased.{erase_each}
use Rattle.hare_typed.specs.Typed.{typed_nodes, size_of, sizes_of}
use Rattle.hare_typed.proofs.KidLemmas.{kid_size}
use Rattle.hare_rules.specs.Above.{first_allocates}
use Rattle.rule_judge.proofs.KidLemmas.{first_is}
use Rattle.rule_ctl.proofs.tries.+allocates.Goals as goal

pub first_allocates-allocates-requires : goal.first_allocates-allocates-requires
first_allocates-allocates-requires t c =
    let h : size_of c.in-Some.tree.now < sizes_of (typed_nodes c.args.trees.now) =
    kid_size c.args.trees.now 0 c.in-Some.tree.now c.in-Some.ensures.found in
    omega arith

pub first_allocates-returns-in-Some : goal.first_allocates-returns-in-Some
first_allocates-returns-in-Some t c =
    c.allocates.ensures ∙ sym (ap (λ xs. first_allocates (erase_each (typed_nodes xs)))
    (first_is c.args.trees.now c.in-Some.tree.now c.in-Some.ensures.found).1)
