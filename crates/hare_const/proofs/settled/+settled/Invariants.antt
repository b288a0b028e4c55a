use Rattle.hare_const.proofs.RefusedLemmas.{Finds}
use Rattle.hare_const.proofs.settled.+settled.Given as goal

abbrev pub decreases-refused_in : goal.decreases-refused_in
decreases-refused_in l = goal.size-refused_in l

abbrev pub decreases-refused_among : goal.decreases-refused_among
decreases-refused_among l = goal.size-refused_among l

-- what is found of those so far, and of those that are left
abbrev pub invariant-refused_among-loop-i : goal.invariant-refused_among-loop-i
invariant-refused_among-loop-i l = Finds l.s l.kids l.i l.refused
