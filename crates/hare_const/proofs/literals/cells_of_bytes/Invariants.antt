use Rattle.std.proofs.Common.{◌≡◌, take}
use Rattle.hare_typed.specs.Cells.{byte_cells}
use Rattle.hare_const.proofs.literals.cells_of_bytes.Given as goal

-- the bytes so far are written
abbrev pub invariant-loop-b : goal.invariant-loop-b
invariant-loop-b l = l.cells ≡ byte_cells (take l.b-index l.bytes)
