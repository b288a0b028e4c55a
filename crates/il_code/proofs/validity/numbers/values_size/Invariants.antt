-- The sizes so far, or the greatest number where they are more.
use Rattle.std.proofs.Common.{◌≡◌, ◌-◌, ◌^◌, min, take, sum_by}
use Rattle.il_code.specs.Rules.{value_size}
use Rattle.il_code.proofs.validity.numbers.values_size.Given as goal

abbrev pub invariant-loop-v : goal.invariant-loop-v
invariant-loop-v l = l.total ≡ min (sum_by (value_size l.width) (take l.v-index l.values)) (2 ^ 64 - 1)
