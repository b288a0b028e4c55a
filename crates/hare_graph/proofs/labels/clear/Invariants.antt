use Rattle.std.proofs.Common.{◌≡◌, fold, drop}
use Rattle.hare_graph.specs.Graphs.{cleared}
use Rattle.hare_graph.proofs.labels.clear.Given as goal

abbrev pub invariant-loop-node : goal.invariant-loop-node
invariant-loop-node l = fold cleared l.labels.items (drop l.node-index l.nodes) ≡ fold cleared l.fn.labels.items l.nodes
