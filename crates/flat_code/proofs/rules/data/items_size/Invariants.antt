-- The sizes so far, or the greatest number where they are more.
use Rattle.std.proofs.Common.{◌≡◌, ◌-◌, ◌^◌, min, take, sum_by}
use Rattle.flat_code.specs.Addresses.{item_size}
use Rattle.flat_code.proofs.rules.data.items_size.Given as goal

abbrev pub invariant-loop-i : goal.invariant-loop-i
invariant-loop-i l = l.total ≡ min (sum_by item_size (take l.i-index l.items)) (2 ^ 64 - 1)
