-- What each change of memory leaves mapped: where it meets an address or a range, and where it does not.
use Rattle.std.proofs.Common.{◌≡◌, ℕ, ◌+◌, ◌<◌, ◌≤◌, Bool, true, false, List, refl, arith, ◌⊎◌, inl, inr}
use Rattle.std.specs.Prelude.{if◌then◌else◌}
use Rattle.hx_base.specs.Memory.{Memory, in_range, is_mapped, all_mapped, write, map_range, unmap_range, clear_range}
use Rattle.hx_base.proofs.Memory.Ranges.{in_range-inside, in_range-outside, all_mapped-from}
use Rattle.hx_base.proofs.Memory.Agreeing.{all_mapped-alike, all_mapped-stays}

-- ---- an address

pub is_mapped-map_range : (m : Memory) (at n a : ℕ) → is_mapped (map_range m at n) a ≡ (if in_range at n a then true else is_mapped m a)
is_mapped-map_range m at n a = refl

pub is_mapped-map_range_inside : (m : Memory) (at n a : ℕ) → at ≤ a → a < at + n → is_mapped (map_range m at n) a ≡ true
is_mapped-map_range_inside m at n a l u = let e = in_range-inside at n a l u in rw e refl

pub is_mapped-map_range_outside : (m : Memory) (at n a : ℕ) → (a < at) ⊎ (at + n ≤ a) → is_mapped (map_range m at n) a ≡ is_mapped m a
is_mapped-map_range_outside m at n a h = let e = in_range-outside at n a h in rw e refl

-- what is mapped stays so when more is mapped
pub is_mapped-map_range_stays : (m : Memory) (at n a : ℕ) → is_mapped m a ≡ true → is_mapped (map_range m at n) a ≡ true
is_mapped-map_range_stays m at n a h = pick (in_range at n a)
  where
    pick : (b : Bool) → (if b then true else is_mapped m a) ≡ true
    pick true = refl
    pick false = h

pub is_mapped-unmap_range : (m : Memory) (at n a : ℕ) →
    is_mapped (unmap_range m at n) a ≡ (if in_range at n a then false else is_mapped m a)
is_mapped-unmap_range m at n a = refl

pub is_mapped-unmap_range_inside : (m : Memory) (at n a : ℕ) → at ≤ a → a < at + n → is_mapped (unmap_range m at n) a ≡ false
is_mapped-unmap_range_inside m at n a l u = let e = in_range-inside at n a l u in rw e refl

pub is_mapped-unmap_range_outside : (m : Memory) (at n a : ℕ) → (a < at) ⊎ (at + n ≤ a) →
    is_mapped (unmap_range m at n) a ≡ is_mapped m a
is_mapped-unmap_range_outside m at n a h = let e = in_range-outside at n a h in rw e refl

-- what is mapped was so before a range was unmapped
pub is_mapped-unmap_range_before : (m : Memory) (at n a : ℕ) → is_mapped (unmap_range m at n) a ≡ true → is_mapped m a ≡ true
is_mapped-unmap_range_before m at n a h = pick (in_range at n a) h
  where
    pick : (b : Bool) → (if b then false else is_mapped m a) ≡ true → is_mapped m a ≡ true
    pick true e = cc
    pick false e = e

-- clearing leaves what is mapped
pub is_mapped-clear_range : (m : Memory) (at n a : ℕ) → is_mapped (clear_range m at n) a ≡ is_mapped m a
is_mapped-clear_range m at n a = refl

-- ---- a range

pub all_mapped-write : (m : Memory) (to : ℕ) (bs : List ℕ) (at n : ℕ) → all_mapped (write m to bs) at n ≡ all_mapped m at n
all_mapped-write m to bs at n = all_mapped-alike m (write m to bs) at n (λ a l u. refl)

pub all_mapped-clear_range : (m : Memory) (at n a k : ℕ) → all_mapped (clear_range m at n) a k ≡ all_mapped m a k
all_mapped-clear_range m at n a k = all_mapped-alike m (clear_range m at n) a k (λ x l u. refl)

-- a part of the range that is mapped
pub all_mapped-map_range_inside : (m : Memory) (at n a k : ℕ) → at ≤ a → a + k ≤ at + n → all_mapped (map_range m at n) a k ≡ true
all_mapped-map_range_inside m at n a k l u =
    all_mapped-from (map_range m at n) a k (λ x f g. is_mapped-map_range_inside m at n x (omega arith) (omega arith))

pub all_mapped-map_range_stays : (m : Memory) (at n a k : ℕ) → all_mapped m a k ≡ true → all_mapped (map_range m at n) a k ≡ true
all_mapped-map_range_stays m at n a k h = all_mapped-stays m (map_range m at n) a k (is_mapped-map_range_stays m at n) h

-- a range beside the one that is mapped or unmapped
pub all_mapped-map_range_outside : (m : Memory) (at n a k : ℕ) → (a + k ≤ at) ⊎ (at + n ≤ a) →
    all_mapped (map_range m at n) a k ≡ all_mapped m a k
all_mapped-map_range_outside m at n a k (inl h) =
    all_mapped-alike m (map_range m at n) a k (λ x l u. is_mapped-map_range_outside m at n x (inl (omega arith)))
all_mapped-map_range_outside m at n a k (inr h) =
    all_mapped-alike m (map_range m at n) a k (λ x l u. is_mapped-map_range_outside m at n x (inr (omega arith)))

pub all_mapped-unmap_range_outside : (m : Memory) (at n a k : ℕ) → (a + k ≤ at) ⊎ (at + n ≤ a) →
    all_mapped (unmap_range m at n) a k ≡ all_mapped m a k
all_mapped-unmap_range_outside m at n a k (inl h) =
    all_mapped-alike m (unmap_range m at n) a k (λ x l u. is_mapped-unmap_range_outside m at n x (inl (omega arith)))
all_mapped-unmap_range_outside m at n a k (inr h) =
    all_mapped-alike m (unmap_range m at n) a k (λ x l u. is_mapped-unmap_range_outside m at n x (inr (omega arith)))
