use Rattle.il_load.proofs.PutLemmas.{IsPut, zeros}
use Rattle.il_load.proofs.pieces.put_page_by_page.Given as goal

-- the zeros behind have been put
abbrev pub invariant-loop-left : goal.invariant-loop-left
invariant-loop-left l = IsPut l.initial.memory l.memory l.begin (zeros l.count) l.left

abbrev pub decreases-loop-left : goal.decreases-loop-left
decreases-loop-left l = l.left
