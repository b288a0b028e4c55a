use Rattle.std.proofs.Common.{◌≡◌, ◌≤◌, ◌++◌, length, drop}
use Rattle.hare_ll_table.proofs.waits.push_waits.Given as goal

abbrev pub invariant-loop-left : goal.invariant-loop-left
invariant-loop-left l = record { within : l.left ≤ length l.waits; so_far : l.stack ≡ drop l.left l.waits ++ l.initial.stack }

abbrev pub decreases-loop-left : goal.decreases-loop-left
decreases-loop-left l = l.left
