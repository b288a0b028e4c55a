use Rattle.std.proofs.Common.{◌≡◌, ◌-◌, ◌<◌, ◌≤◌}
use Rattle.il_mem.specs.Kept.{page_size}
use Rattle.hx_base.specs.Memory.{Memory, clear_range}
use Rattle.il_mem.specs.Holds.{HoldsBytes}
use Rattle.il_mem.proofs.Pieces.{IsGone}
use Rattle.il_mem.proofs.copies.clear.Given as goal

-- so many bytes are cleared, and the pages that lie among them given up
abbrev pub invariant-loop-done : goal.invariant-loop-done
invariant-loop-done l =
    (l.done ≤ l.n)
    × ((m : Memory) → HoldsBytes l.fn.pages m → HoldsBytes l.pages (clear_range m l.at l.done))
    × IsGone l.fn.pages l.pages l.at l.done l.n
    × (l.n < page_size → l.pages.pages ≡ l.fn.pages.pages)

abbrev pub decreases-loop-done : goal.decreases-loop-done
decreases-loop-done l = l.n - l.done
