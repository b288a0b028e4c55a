use Rattle.std.proofs.Common.{◌<◌, ◌≤◌, List, length, take}
use Rattle.hare_typed.specs.declared.cell.Cell.{Cell}
use Rattle.hare_typed.specs.Repeats.{repeated, FitIn, AgreeTo}
use Rattle.hare_typed.proofs.cells.same.stretch_at.Given as goal

-- before the end the cells are those behind the first so many repetitions
abbrev pub invariant-loop-left : goal.invariant-loop-left
invariant-loop-left l = record {
  within : l.left ≤ length l.repeats;
  before : l.place < l.end;
  same : (cs : List Cell) → FitIn l.repeats cs → AgreeTo l.end (repeated l.repeats cs) (repeated (take l.left l.repeats) cs);
}

abbrev pub decreases-loop-left : goal.decreases-loop-left
decreases-loop-left l = l.left
