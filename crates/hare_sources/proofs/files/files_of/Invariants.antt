use Rattle.hare_sources.proofs.ReadLemmas.{Reading}
use Rattle.hare_sources.proofs.files.files_of.Given as goal

abbrev pub invariant-loop-i : goal.invariant-loop-i
invariant-loop-i l = Reading l.srcs l.i l.before l.trees
