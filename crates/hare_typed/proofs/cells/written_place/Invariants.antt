use Rattle.std.proofs.Common.{◌≡◌, ◌≤◌, List, length, take}
use Rattle.std.specs.Prelude.{slice_get}
use Rattle.hare_typed.specs.declared.cell.Cell.{Cell}
use Rattle.hare_typed.specs.Repeats.{repeated, FitIn}
use Rattle.hare_typed.proofs.cells.written_place.Given as goal

-- the place is that behind the first so many repetitions
abbrev pub invariant-loop-left : goal.invariant-loop-left
invariant-loop-left l = record {
  within : l.left ≤ length l.repeats;
  same : (cs : List Cell) → FitIn l.repeats cs →
      slice_get (repeated l.repeats cs) l.fn.place ≡ slice_get (repeated (take l.left l.repeats) cs) l.at;
}

abbrev pub decreases-loop-left : goal.decreases-loop-left
decreases-loop-left l = l.left
