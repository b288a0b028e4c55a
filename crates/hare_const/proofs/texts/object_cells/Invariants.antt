use Rattle.std.proofs.Common.{◌≡◌, drop}
use Rattle.hare_typed.specs.Texts.{cells_found}
use Rattle.hare_const.proofs.texts.object_cells.Given as goal

-- it is none of those so far
abbrev pub invariant-loop-i : goal.invariant-loop-i
invariant-loop-i l = cells_found l.objects l.number ≡ cells_found (drop l.i l.objects) l.number
