-- Bytes that are put into memory as it is kept, whatever flat memory that is.
use Rattle.std.specs.Prelude.{◌≡◌, ℕ, ◌+◌, ◌-◌, ◌≤◌, true, List, length}
use Rattle.hx_base.specs.Memory.{Memory, all_mapped, write}
use Rattle.il_mem.specs.Kept.{Kept}
use Rattle.il_mem.specs.Holds.{Holds}
use Rattle.il_mem.specs.Touched.{HoldsTouched}

-- it is this memory, and each page of which a byte was written is held
pub record Stands (it : Kept) (m : Memory) : Type 0 where
  pub holds : Holds it m
  pub pages : HoldsTouched it m

-- the `n` bytes in front of an address are mapped
pub record IsReady (it : Kept) (end n : ℕ) : Type 0 where
  pub memory : Memory
  pub stands : Stands it memory
  pub room : n ≤ end
  pub mapped : all_mapped memory (end - n) n ≡ true

-- bytes were put at an address, and no range changed
pub record PutsAt (old new : Kept) (at : ℕ) (bs : List ℕ) : Type 0 where
  pub ranges : new.ranges ≡ old.ranges
  pub stands : (m : Memory) → Stands old m → Stands new (write m at bs)

-- bytes were put in front of an address, of which the first stands there
pub record PutsBefore (old new : Kept) (end : ℕ) (bs : List ℕ) (at : ℕ) : Type 0 where
  pub begin : at + length bs ≡ end
  pub puts : PutsAt old new at bs

-- it is some memory, and each page of which a byte was written is held
pub record IsSome (it : Kept) : Type 0 where
  pub memory : Memory
  pub stands : Stands it memory
