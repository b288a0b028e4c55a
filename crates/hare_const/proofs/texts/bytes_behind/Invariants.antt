use Rattle.std.proofs.Common.{◌≡◌, ◌+◌, ◌-◌, ◌++◌, take, drop}
use Rattle.std.specs.Prelude.{option_map}
use Rattle.hare_typed.specs.Cells.{bytes_of, cells_within}
use Rattle.hare_const.proofs.texts.bytes_behind.Given as goal

-- the bytes so far, and those that are left
abbrev pub invariant-loop-i : goal.invariant-loop-i
invariant-loop-i l =
    option_map (λ bs. l.out.items ++ bs) (bytes_of (take (l.count - l.i) (drop (l.from + l.i) l.cells))) ≡
    bytes_of (cells_within l.from l.count l.cells)
