use Rattle.std.proofs.Common.{◌≡◌, map, take}
use Rattle.hare_typed.specs.Erased.{erase as erased}
use Rattle.hare_typed.proofs.erased.+erase.Given as goal

abbrev pub decreases-erase : goal.decreases-erase
decreases-erase l = goal.size-erase l

abbrev pub decreases-erase_kids : goal.decreases-erase_kids
decreases-erase_kids l = goal.size-erase_kids l

abbrev pub invariant-erase_kids-loop-i : goal.invariant-erase_kids-loop-i
invariant-erase_kids-loop-i l = l.kids ≡ map erased (take l.i l.ts)
