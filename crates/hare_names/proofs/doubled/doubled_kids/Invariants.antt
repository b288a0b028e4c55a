use Rattle.hare_names.proofs.DoubledLemmas.{Doubling}
use Rattle.hare_names.proofs.doubled.doubled_kids.Given as goal

abbrev pub invariant-loop-i : goal.invariant-loop-i
invariant-loop-i l = Doubling l.kids l.initial.first l.i l.names l.first
