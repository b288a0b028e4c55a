use Rattle.std.proofs.Common.{◌≡◌, map, take}
use Rattle.hare_typed.specs.Erased.{erase}
use Rattle.judge_table.proofs.marks.+marks.Given as goal

abbrev pub invariant-typed_kids-loop-i : goal.invariant-typed_kids-loop-i
invariant-typed_kids-loop-i l = map erase l.done ≡ take l.i l.kids
