use Rattle.std.proofs.Common.{◌≡◌, drop}
use Rattle.hx_base.specs.Memory.{le_number}
use Rattle.hx_base.proofs.numbers.le_get.Given as goal

abbrev pub invariant-loop-i : goal.invariant-loop-i
invariant-loop-i l = l.number ≡ le_number (drop l.i l.b)
