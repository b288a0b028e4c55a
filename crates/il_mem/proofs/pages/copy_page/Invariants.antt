use Rattle.std.proofs.Common.{◌≡◌, ℕ, ◌+◌, ◌<◌, ◌≤◌, ◌⊎◌, get_or}
use Rattle.il_mem.proofs.pages.copy_page.Given as goal

-- so many bytes are copied, and no other has changed
abbrev pub invariant-loop-o : goal.invariant-loop-o
invariant-loop-o l =
    ((j : ℕ) → j < l.o → get_or l.bytes (l.to + j) 0 ≡ get_or l.fn.bytes (l.from + j) 0)
    × ((i : ℕ) → (i < l.to) ⊎ (l.to + l.o ≤ i) → get_or l.bytes i 0 ≡ get_or l.fn.bytes i 0)
