use Rattle.hare_depends.specs.Search.{IsAt}
use Rattle.hare_depends.proofs.search.finish_all.Given as goal

abbrev pub invariant-loop-decl : goal.invariant-loop-decl
invariant-loop-decl l = IsAt l.saids l.graph l.decl l.search
