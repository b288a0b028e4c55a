use Rattle.std.proofs.Common.{◌+◌, length}
use Rattle.hare_graph.specs.Graphs.{count_free}
use Rattle.hare_graph.proofs.FloodLemmas.{Flooding}
use Rattle.hare_graph.proofs.labels.flood.Given as goal

abbrev pub invariant-loop-node : goal.invariant-loop-node
invariant-loop-node l = Flooding l.graph l.start l.label l.fn.labels.items l.labels.items l.left.items

-- a node that is left is one that had no label
abbrev pub decreases-loop-node : goal.decreases-loop-node
decreases-loop-node l = count_free l.labels.items + length l.left.items
