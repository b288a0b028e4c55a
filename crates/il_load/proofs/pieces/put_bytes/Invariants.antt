use Rattle.il_load.proofs.PutLemmas.{IsPut}
use Rattle.il_load.proofs.pieces.put_bytes.Given as goal

-- the bytes behind have been put
abbrev pub invariant-loop-left : goal.invariant-loop-left
invariant-loop-left l = IsPut l.initial.memory l.memory l.begin l.bytes l.left

abbrev pub decreases-loop-left : goal.decreases-loop-left
decreases-loop-left l = l.left
