use Rattle.std.proofs.Common.{◌≡◌, ◌+◌, drop}
use Rattle.hare_tree.specs.Node.{nodes_of}
use Rattle.hare_check.proofs.Walks.Bindings.{bindings_of_each}
use Rattle.hare_check.proofs.beginnings.+bindings.Given as goal

abbrev pub invariant-count_in_each-loop-i : goal.invariant-count_in_each-loop-i
invariant-count_in_each-loop-i l = l.counted + bindings_of_each (nodes_of (drop l.i l.kids)) ≡ l.n + bindings_of_each (nodes_of l.kids)
