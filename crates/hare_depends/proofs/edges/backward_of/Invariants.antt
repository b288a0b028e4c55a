use Rattle.std.proofs.Common.{◌≡◌, fold, drop}
use Rattle.hare_depends.specs.Edges.{with_backward, backward_of}
use Rattle.hare_depends.proofs.edges.backward_of.Given as goal

-- what is left is put into the graph so far
abbrev pub invariant-loop-edge : goal.invariant-loop-edge
invariant-loop-edge l = fold with_backward l.graph (drop l.edge-index l.edges) ≡ backward_of l.count l.edges
