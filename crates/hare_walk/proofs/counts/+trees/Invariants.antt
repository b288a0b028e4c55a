use Rattle.std.proofs.Common.{◌≡◌, ◌+◌, drop}
use Rattle.hare_tree.specs.Node.{nodes_of}
use Rattle.hare_rules.specs.Above.{trees_in_each}
use Rattle.hare_walk.proofs.counts.+trees.Given as goal

abbrev pub invariant-count_trees-loop-i : goal.invariant-count_trees-loop-i
invariant-count_trees-loop-i l = l.counted + trees_in_each (nodes_of (drop l.i l.kids)) ≡ l.n + trees_in_each (nodes_of l.kids)
