use Rattle.std.proofs.Common.{◌≡◌, ◌+◌, ◌-◌, ◌≤◌}
use Rattle.hx_base.specs.Memory.{Memory, bytes_at, write}
use Rattle.il_mem.specs.Holds.{HoldsBytes}
use Rattle.il_mem.proofs.copies.move_up.Given as goal

-- all but so many bytes are copied
abbrev pub invariant-loop-left : goal.invariant-loop-left
invariant-loop-left l =
    (l.left ≤ l.n)
    × ((m : Memory) → HoldsBytes l.fn.pages m → HoldsBytes l.pages (write m (l.to + l.left) (bytes_at m (l.from + l.left) (l.n - l.left))))
    × (l.pages.pages ≡ l.fn.pages.pages)

abbrev pub decreases-loop-left : goal.decreases-loop-left
decreases-loop-left l = l.left
