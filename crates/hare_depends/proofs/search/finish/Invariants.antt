use Rattle.hare_depends.specs.Search.{work}
use Rattle.hare_depends.proofs.SearchLemmas.{Finishing}
use Rattle.hare_depends.proofs.search.finish.Given as goal

abbrev pub invariant-loop-frame : goal.invariant-loop-frame
invariant-loop-frame l = Finishing l.saids l.graph l.decl l.search

-- each step leaves less to do
abbrev pub decreases-loop-frame : goal.decreases-loop-frame
decreases-loop-frame l = work l.search
