use Rattle.hare_declare.specs.Lacking.{IsGraphBelow}
use Rattle.hare_declare.proofs.lacking.names_of.Given as goal

abbrev pub invariant-loop-decl : goal.invariant-loop-decl
invariant-loop-decl l = IsGraphBelow l.outlines l.decl l.graph
