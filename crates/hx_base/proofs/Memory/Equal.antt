-- No access and no change tells two equal memories apart.
use Rattle.std.proofs.Common.{◌≡◌, ℕ, zero, suc, ◌+◌, ◌≤◌, Bool, true, false, ◌&&◌, List, [], ◌∷◌, Option, Some, None, refl, sym, ◌∙◌, arith}
use Rattle.hx_base.specs.Memory.{le_bytes, Memory, last_written, all_mapped, SameMemory, bytes_at, writes, write, map_range, unmap_range, clear_range, load, store, move, same}
use Rattle.hx_base.proofs.Memory.Agreeing.{bytes_at-same}
use Rattle.hx_base.proofs.Memory.Written.{last_written-other, byte_at-clear_range}

-- ---- an equality

pub same-self : (m : Memory) → SameMemory m m
same-self m = record { bytes = λ a. refl; mapped = λ a. refl }

pub same-turned : (m m' : Memory) → SameMemory m m' → SameMemory m' m
same-turned m m' h = record { bytes = λ a. sym (h.bytes a); mapped = λ a. sym (h.mapped a) }

pub same-on : (a b c : Memory) → SameMemory a b → SameMemory b c → SameMemory a c
same-on a b c h k = record { bytes = λ x. h.bytes x ∙ k.bytes x; mapped = λ x. h.mapped x ∙ k.mapped x }

-- ---- the fill byte

-- a number above each address that was written
abbrev above : List (ℕ × ℕ) → ℕ
above [] = 0
above (w ∷ ws) = suc w.0 + above ws

-- what is above is not written
last_written-above : (fill : ℕ) (ws : List (ℕ × ℕ)) (a : ℕ) → above ws ≤ a → last_written fill ws a ≡ fill
last_written-above fill [] a h = refl
last_written-above fill (w ∷ ws) a h = last_written-other fill ws w.0 w.1 a (λ e. omega arith) ∙ last_written-above fill ws a (omega arith)

-- equal memories have the same fill byte, since somewhere neither was written
pub fill-same : (m m' : Memory) → SameMemory m m' → m.fill ≡ m'.fill
fill-same m m' h =
    let a = above m.written + above m'.written in
    sym (last_written-above m.fill m.written a (omega arith)) ∙ h.bytes a ∙ last_written-above m'.fill m'.written a (omega arith)

-- ---- accesses

-- both are Wild, or give equal memories
pub data Alike : Option Memory → Option Memory → Type 0 where
  wild : Alike None None
  both : (x y : Memory) → SameMemory x y → Alike (Some x) (Some y)

module _ (m m' : Memory) (h : SameMemory m m') where
  pub all_mapped-same : (at n : ℕ) → all_mapped m at n ≡ all_mapped m' at n
  all_mapped-same at zero = refl
  all_mapped-same at (suc n) = rw (h.mapped at, all_mapped-same (suc at) n) refl

  pub bytes_at-both : (at n : ℕ) → bytes_at m at n ≡ bytes_at m' at n
  bytes_at-both at n = bytes_at-same m' m at n (λ a l u. h.bytes a)

  -- the same number, or Wild in both
  pub load-same : (at n : ℕ) → load m at n ≡ load m' at n
  load-same at n = rw (all_mapped-same at n, bytes_at-both at n) refl

  pub same-same : (a b n : ℕ) → same m a b n ≡ same m' a b n
  same-same a b n = rw (all_mapped-same a n, all_mapped-same b n, bytes_at-both a n, bytes_at-both b n) refl

  -- ---- changes

  last_written-writes : (at : ℕ) (bs : List ℕ) (a : ℕ) →
      last_written m.fill (writes m.written at bs) a ≡ last_written m'.fill (writes m'.written at bs) a
  last_written-writes at [] a = h.bytes a
  last_written-writes at (b ∷ bs) a = rw (last_written-writes (suc at) bs a) refl

  pub write-same : (at : ℕ) (bs : List ℕ) → SameMemory (write m at bs) (write m' at bs)
  write-same at bs = record { bytes = last_written-writes at bs; mapped = h.mapped }

  pub map_range-same : (at n : ℕ) → SameMemory (map_range m at n) (map_range m' at n)
  map_range-same at n = record { bytes = h.bytes; mapped = λ a. rw (h.mapped a) refl }

  pub unmap_range-same : (at n : ℕ) → SameMemory (unmap_range m at n) (unmap_range m' at n)
  unmap_range-same at n = record { bytes = h.bytes; mapped = λ a. rw (h.mapped a) refl }

  pub clear_range-same : (at n : ℕ) → SameMemory (clear_range m at n) (clear_range m' at n)
  clear_range-same at n = record {
    bytes = λ a. byte_at-clear_range m at n a ∙ rw (h.bytes a, fill-same m m' h) refl ∙ sym (byte_at-clear_range m' at n a);
    mapped = h.mapped;
  }

  pub store-same : (at n v : ℕ) → Alike (store m at n v) (store m' at n v)
  store-same at n v = pick (all_mapped m at n) refl
    where
      pick : (b : Bool) → all_mapped m at n ≡ b → Alike (store m at n v) (store m' at n v)
      pick true e =
          let e' = sym (all_mapped-same at n) ∙ e in
          rw (e, e') (both _ _ (write-same at (le_bytes n v)))
      pick false e =
          let e' = sym (all_mapped-same at n) ∙ e in
          rw (e, e') wild

  pub move-same : (to from n : ℕ) → Alike (move m to from n) (move m' to from n)
  move-same to from n = pick (all_mapped m to n && all_mapped m from n) refl
    where
      pick : (b : Bool) → (all_mapped m to n && all_mapped m from n) ≡ b → Alike (move m to from n) (move m' to from n)
      pick true e =
          let e' : (all_mapped m' to n && all_mapped m' from n) ≡ true = rw (← all_mapped-same to n, ← all_mapped-same from n) e in
          rw (e, e', bytes_at-both from n) (both _ _ (write-same to (bytes_at m' from n)))
      pick false e =
          let e' : (all_mapped m' to n && all_mapped m' from n) ≡ false = rw (← all_mapped-same to n, ← all_mapped-same from n) e in
          rw (e, e') wild
