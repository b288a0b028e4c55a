use Rattle.std.proofs.Common.{◌≡◌, map, take}
use Rattle.hare_above.specs.Frames.{unmarked}
use Rattle.hare_above.proofs.marks.all_outside.Given as goal

abbrev pub invariant-loop-l : goal.invariant-loop-l
invariant-loop-l l = l.copies ≡ map unmarked (take l.l-index l.l-items)
