use Rattle.std.proofs.Common.{ℕ, ◌-◌, ◌<◌, ◌≤◌, length}
use Rattle.std.specs.Prelude.{slice_index_or}
use Rattle.il_mem.proofs.stack.begin_by.Given as goal

-- those before `low` begin at the address or below it, and those from `high` on do not
abbrev pub invariant-loop-low : goal.invariant-loop-low
invariant-loop-low l =
    (l.low ≤ l.high) × (l.high ≤ length l.stack)
    × ((j : ℕ) (d : ℕ × ℕ) → j < l.low → (slice_index_or l.stack j d).0 ≤ l.at)
    × ((j : ℕ) (d : ℕ × ℕ) → l.high ≤ j → j < length l.stack → l.at < (slice_index_or l.stack j d).0)

abbrev pub decreases-loop-low : goal.decreases-loop-low
decreases-loop-low l = l.high - l.low
