use Rattle.std.proofs.Common.{◌≡◌}
use Rattle.hare_depends.specs.Edges.{edges_below}
use Rattle.hare_depends.proofs.edges.edges_of.Given as goal

abbrev pub invariant-loop-decl : goal.invariant-loop-decl
invariant-loop-decl l = l.edges.items ≡ edges_below l.saids l.decl
