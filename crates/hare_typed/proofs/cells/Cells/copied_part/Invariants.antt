use Rattle.std.proofs.Common.{◌≡◌, ◌-◌}
use Rattle.hare_typed.specs.Cells.{cells_within}
use Rattle.hare_typed.proofs.cells.Cells.copied_part.Given as goal

-- the cells so far are copied
abbrev pub invariant-loop-place : goal.invariant-loop-place
invariant-loop-place l = l.part ≡ cells_within l.from (l.place - l.from) l.self
