use Rattle.std.proofs.Common.{◌≡◌, map, take}
use Rattle.hare_typed.specs.Repeats.{moved}
use Rattle.hare_typed.proofs.cells.moved_on.Given as goal

abbrev pub invariant-loop-r : goal.invariant-loop-r
invariant-loop-r l = l.out.items ≡ map (moved l.by) (take l.r-index l.repeats)
