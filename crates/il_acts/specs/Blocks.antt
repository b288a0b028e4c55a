-- The heap as it is kept, how it stands to the heap of the definition, and how its blocks lie in memory.
use Rattle.std.specs.Prelude.{◌≡◌, ℕ, ◌+◌, ◌-◌, ◌^◌, ◌<◌, ◌≤◌, ◌⊎◌, List, Some}
use Rattle.std.specs.List.{All, Contains}
use Rattle.hx_base.specs.Runtime.{Heap, heap_start, heap_end, heap_size, live_bytes, block_size}
use Rattle.hx_base.proofs.Memory.Blocks.{AreApart}

-- where the next block begins, the live blocks in the order of their addresses, each with where it begins and its bytes, and how many bytes
-- they have, each counted as the next multiple of 16
pub record Blocks : Type 0 where
  pub next : ℕ
  pub blocks : List (ℕ × ℕ)
  pub live : ℕ

-- the same blocks, in whatever order, of which no two begin at one address
pub record HeapHolds (h : Blocks) (heap : Heap) : Type 0 where
  pub next : h.next ≡ heap.next
  pub blocks : (p : ℕ) → block_size h.blocks p ≡ block_size heap.blocks p
  pub live : h.live ≡ live_bytes heap.blocks
  pub apart : AreApart heap.blocks

-- ---- how blocks lie

-- a block has a byte, and lies in the heap below where the next block begins
pub record BlockLies (next at n : ℕ) : Type 0 where
  pub some : 0 < n
  pub above : heap_start ≤ at
  pub below : at + n ≤ next

-- a block ends at or below each that begins behind it
abbrev pub AreDisjoint : List (ℕ × ℕ) → Type 0
AreDisjoint blocks = (p q n k : ℕ) → block_size blocks p ≡ Some n → block_size blocks q ≡ Some k → p < q → p + n ≤ q

-- a mapped range is a live block
pub record IsBlock (blocks : List (ℕ × ℕ)) (r : ℕ × ℕ) : Type 0 where
  pub some : r.0 < r.1
  pub whole : block_size blocks r.0 ≡ Some (r.1 - r.0)

-- or it ends at or below the start of the heap
abbrev pub LiesAside : List (ℕ × ℕ) → ℕ × ℕ → Type 0
LiesAside blocks r = (r.1 ≤ heap_start) ⊎ IsBlock blocks r

-- Blocks are disjoint and lie below the next one, of the mapped ranges those in the heap are blocks, and no number is too great. So a new
-- block holds no mapped byte before, and what is freed is a whole range.
pub record IsHeapLaid (rs : List (ℕ × ℕ)) (h : Blocks) : Type 0 where
  pub above : heap_start ≤ h.next
  pub below : h.next ≤ heap_end + 15
  pub live : h.live ≡ live_bytes h.blocks
  pub few : h.live ≤ heap_size
  pub blocks : (p n : ℕ) → block_size h.blocks p ≡ Some n → BlockLies h.next p n
  pub disjoint : AreDisjoint h.blocks
  pub ranges : All (LiesAside h.blocks) rs

-- a range was mapped before, or it has an address and lies in the heap
abbrev pub IsOldOrInHeap : List (ℕ × ℕ) → ℕ × ℕ → Type 0
IsOldOrInHeap old r = Contains old r ⊎ ((heap_start ≤ r.0) × (r.0 < r.1))

-- each range ends below 2 ^ 64
abbrev pub EndLow : List (ℕ × ℕ) → Type 0
EndLow ranges = All (λ r. r.1 < 2 ^ 64) ranges
