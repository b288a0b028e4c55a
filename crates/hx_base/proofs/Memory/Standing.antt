-- Bytes that stand somewhere in memory, all of them mapped.
use Rattle.std.proofs.Common.{◌≡◌, ℕ, ◌+◌, ◌<◌, ◌≤◌, true, List, [], length, refl, ◌∙◌, arith}
use Rattle.hx_base.specs.Memory.{Memory, byte_at, is_mapped, all_mapped, bytes_at, write, map_range}
use Rattle.hx_base.proofs.Memory.Agreeing.{bytes_at-same, all_mapped-stays}
use Rattle.hx_base.proofs.Memory.Written.{bytes_at-write, bytes_at-map_range}
use Rattle.hx_base.proofs.Memory.Mapped.{all_mapped-map_range_inside}

-- these bytes stand at an address
pub record Stands (m : Memory) (at : ℕ) (bs : List ℕ) : Type 0 where
  pub mapped : all_mapped m at (length bs) ≡ true
  pub bytes : bytes_at m at (length bs) ≡ bs

-- no bytes stand anywhere
pub stands-nil : (m : Memory) (at : ℕ) → Stands m at []
stands-nil m at = record { mapped = refl; bytes = refl }

-- bytes that were written where so many are mapped then
pub stands-write : (m : Memory) (at : ℕ) (bs : List ℕ) (n : ℕ) → length bs ≤ n → Stands (map_range (write m at bs) at n) at bs
stands-write m at bs n h = record {
  mapped = all_mapped-map_range_inside (write m at bs) at n at (length bs) (omega arith) (omega arith);
  bytes = bytes_at-map_range (write m at bs) at n at (length bs) ∙ bytes_at-write m at bs;
}

-- they still stand there where they are the same and what is mapped stays so
pub stands-stays : (m m' : Memory) (at : ℕ) (bs : List ℕ) → ((a : ℕ) → is_mapped m a ≡ true → is_mapped m' a ≡ true) →
    ((a : ℕ) → at ≤ a → a < at + length bs → byte_at m' a ≡ byte_at m a) → Stands m at bs → Stands m' at bs
stands-stays m m' at bs mapped same h = record {
  mapped = all_mapped-stays m m' at (length bs) mapped h.mapped;
  bytes = bytes_at-same m m' at (length bs) same ∙ h.bytes;
}
