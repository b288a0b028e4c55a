use Rattle.std.proofs.Common.{◌≡◌, fold, drop}
use Rattle.hare_depends.specs.Edges.{with_forward, forward_of}
use Rattle.hare_depends.proofs.edges.forward_of.Given as goal

-- what is left is put into the graph so far
abbrev pub invariant-loop-edge : goal.invariant-loop-edge
invariant-loop-edge l = fold with_forward l.graph (drop l.edge-index l.edges) ≡ forward_of l.count l.edges
