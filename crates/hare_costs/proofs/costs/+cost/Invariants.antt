use Rattle.std.proofs.Common.{◌≡◌, ◌+◌, ◌*◌, drop}
use Rattle.hare_typed.specs.Typed.{typed_nodes, size_of, sizes_of}
use Rattle.hare_typed.specs.Copies.{copied_each, exits_each}
use Rattle.hare_costs.specs.Costs.{cost_of}
use Rattle.hare_costs.specs.Leaving.{Meets}
use Rattle.hare_costs.proofs.costs.+cost.Given as goal

abbrev pub decreases-cost_of_tree : goal.decreases-cost_of_tree
decreases-cost_of_tree l = 2 * size_of l.t.now

abbrev pub decreases-cost_of_kids : goal.decreases-cost_of_kids
decreases-cost_of_kids l = 2 * sizes_of (typed_nodes l.kids.now)

abbrev pub decreases-cost_of_kid : goal.decreases-cost_of_kid
decreases-cost_of_kid l = 2 * size_of l.t.now + 1

-- what the kids from one on cost, and what leaves them
abbrev pub invariant-cost_of_kids-loop-i : goal.invariant-cost_of_kids-loop-i
invariant-cost_of_kids-loop-i l = record {
  cost : l.all ≡ cost_of l.s (copied_each l.is_block 1 (typed_nodes (drop l.i l.kids)));
  met : Meets l.initial.exits.items l.exits.items (exits_each (typed_nodes (drop l.i l.kids)));
}
