use Rattle.std.proofs.Common.{◌≡◌, ◌+◌, drop}
use Rattle.hare_typed.specs.Erased.{erase_each}
use Rattle.hare_typed.specs.Typed.{typed_nodes}
use Rattle.hare_rules.specs.Above.{trees_in_each}
use Rattle.hare_finish.proofs.counts.+counts.Given as goal

abbrev pub decreases-count_each : goal.decreases-count_each
decreases-count_each l = goal.size-count_each l

abbrev pub decreases-count_tree : goal.decreases-count_tree
decreases-count_tree l = goal.size-count_tree l

abbrev pub invariant-count_each-loop-i : goal.invariant-count_each-loop-i
invariant-count_each-loop-i l =
    l.counted + trees_in_each (erase_each (typed_nodes (drop l.i l.kids))) ≡ l.n + trees_in_each (erase_each (typed_nodes l.kids))
