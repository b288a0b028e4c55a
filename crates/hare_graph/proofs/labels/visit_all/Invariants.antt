use Rattle.std.proofs.Common.{◌≡◌, fold, drop}
use Rattle.hare_graph.specs.Graphs.{visited, marks}
use Rattle.hare_graph.proofs.labels.visit_all.Given as goal

abbrev pub invariant-loop-node : goal.invariant-loop-node
invariant-loop-node l =
    fold (visited l.label) (marks l.labels.items l.left.items) (drop l.node-index l.nodes)
    ≡ fold (visited l.label) (marks l.fn.labels.items l.fn.left.items) l.nodes
