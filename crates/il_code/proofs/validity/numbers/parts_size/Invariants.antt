-- The sizes so far, or the greatest number where they are more.
use Rattle.std.proofs.Common.{◌≡◌, ◌-◌, ◌^◌, min, take, sum_by}
use Rattle.il_code.specs.Rules.{part_size}
use Rattle.il_code.proofs.validity.numbers.parts_size.Given as goal

abbrev pub invariant-loop-p : goal.invariant-loop-p
invariant-loop-p l = l.total ≡ min (sum_by part_size (take l.p-index l.parts)) (2 ^ 64 - 1)
