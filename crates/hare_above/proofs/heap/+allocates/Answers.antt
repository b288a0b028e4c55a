use Rattle.std.proofs.Common.{◌∙◌}
use Rattle.hare_above.proofs.BareLemmas.{head-node}
use Rattle.hare_above.proofs.heap.+allocates.Goals as goal

pub first_allocates-returns-in-Some : goal.first_allocates-returns-in-Some
first_allocates-returns-in-Some t c = c.allocates.ensures ∙ head-node c.args.trees.now c.in-Some.tree.now c.in-Some.ensures.found
