-- The sizes so far, or the greatest number where they are more.
use Rattle.std.proofs.Common.{◌≡◌, ◌-◌, ◌^◌, min, take, sum_by}
use Rattle.flat_code.specs.WellFormed.{global_size}
use Rattle.flat_code.proofs.rules.data.globals_size.Given as goal

abbrev pub invariant-loop-d : goal.invariant-loop-d
invariant-loop-d l = l.total ≡ min (sum_by global_size (take l.d-index l.globals)) (2 ^ 64 - 1)
