use Rattle.std.proofs.Common.{◌≡◌, ◌-◌, ◌≤◌}
use Rattle.hx_base.specs.Memory.{Memory, bytes_at, write}
use Rattle.il_mem.specs.Holds.{HoldsBytes}
use Rattle.il_mem.proofs.copies.move_down.Given as goal

-- so many bytes are copied
abbrev pub invariant-loop-done : goal.invariant-loop-done
invariant-loop-done l =
    (l.done ≤ l.n)
    × ((m : Memory) → HoldsBytes l.fn.pages m → HoldsBytes l.pages (write m l.to (bytes_at m l.from l.done)))
    × (l.pages.pages ≡ l.fn.pages.pages)

abbrev pub decreases-loop-done : goal.decreases-loop-done
decreases-loop-done l = l.n - l.done
