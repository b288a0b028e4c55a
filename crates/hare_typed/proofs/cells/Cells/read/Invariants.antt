use Rattle.std.proofs.Common.{◌≡◌, take, drop}
use Rattle.hare_typed.proofs.cells.Cells.read.Given as goal

-- the first so many are copied
abbrev pub invariant-loop-i : goal.invariant-loop-i
invariant-loop-i l = take l.i l.out ≡ take l.i (drop l.at l.self)
