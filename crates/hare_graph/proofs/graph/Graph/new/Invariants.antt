use Rattle.std.proofs.Common.{◌≡◌}
use Rattle.hare_graph.specs.Graphs.{edgeless}
use Rattle.hare_graph.proofs.graph.Graph.new.Given as goal

abbrev pub invariant-loop : goal.invariant-loop
invariant-loop l = l.nodes.items ≡ edgeless l.counter
