-- The heap, however code ends.
use Rattle.std.specs.Prelude.{◌≡◌, ℕ, ◌+◌, ◌≤◌, List, [], ◌∷◌, None, All}
use Rattle.hx_base.specs.Runtime.{Heap, heap_start, block_size}
use Rattle.flat_code.specs.State.{State, Result}

-- each block begins at an address of its own
abbrev pub BeginApart : List (ℕ × ℕ) → Type 0
BeginApart [] = Unit {0}
BeginApart (b ∷ bs) = (block_size bs b.0 ≡ None) × BeginApart bs

-- a block has bytes, of the heap and below where the next one begins
pub record IsBlock (next : ℕ) (b : ℕ × ℕ) : Type 0 where
  pub starts : heap_start ≤ b.0
  pub some : 1 ≤ b.1
  pub ends : b.0 + b.1 ≤ next

-- a heap as programs make it
pub record IsHeap (h : Heap) : Type 0 where
  pub next : heap_start ≤ h.next
  pub blocks : All (IsBlock h.next) h.blocks
  pub apart : BeginApart h.blocks

-- of a state and a later one
pub record IsHeapKept (s s' : State) : Type 0 where
  -- the next block begins no lower, so that no address is given twice
  pub next : s.world.heap.next ≤ s'.world.heap.next
  pub heap : IsHeap s.world.heap → IsHeap s'.world.heap

abbrev pub KeepsTheHeap : State → Result → Type 0
KeepsTheHeap s r = IsHeapKept s r.1
