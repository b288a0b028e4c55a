use Rattle.std.proofs.Common.{◌-◌}
use Rattle.hare_typed.specs.Repeats.{AgreeTo}
use Rattle.hare_typed.proofs.cells.Cells.agrees.Given as goal

-- before the place the cells are the same
abbrev pub invariant-loop-place : goal.invariant-loop-place
invariant-loop-place l = AgreeTo l.place l.self l.other

abbrev pub decreases-loop-place : goal.decreases-loop-place
decreases-loop-place l = l.self-inside.count - l.place
