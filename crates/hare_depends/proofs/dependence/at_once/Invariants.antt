use Rattle.std.proofs.Common.{◌≡◌, fold, drop}
use Rattle.hare_depends.specs.Search.{with_start, at_once}
use Rattle.hare_depends.proofs.dependence.at_once.Given as goal

-- what is left is put into the graph so far
abbrev pub invariant-loop-edge : goal.invariant-loop-edge
invariant-loop-edge l = fold (with_start l.count) l.graph (drop l.edge-index l.edges) ≡ at_once l.count l.edges
