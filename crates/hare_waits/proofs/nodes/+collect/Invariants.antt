use Rattle.std.proofs.Common.{◌≡◌, ◌+◌, ◌++◌, length, take}
use Rattle.hare_seen.specs.Sizes.{nodes_of_types}
use Rattle.hare_waits.specs.Nodes.{unmeasured}
use Rattle.hare_waits.proofs.nodes.+collect.Given as goal

abbrev pub decreases-collect_tree : goal.decreases-collect_tree
decreases-collect_tree l = goal.size-collect_tree l

abbrev pub decreases-collect : goal.decreases-collect
decreases-collect l = goal.size-collect l

-- the nodes of the trees that were gone over
abbrev pub invariant-collect-loop-i : goal.invariant-collect-loop-i
invariant-collect-loop-i l = record {
  order : l.next ≡ l.order + length (nodes_of_types (take l.i l.ts));
  found : l.found.items ≡ l.initial.found.items ++ unmeasured l.s l.decl l.order (nodes_of_types (take l.i l.ts));
}
