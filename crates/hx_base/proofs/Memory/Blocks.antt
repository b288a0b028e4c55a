-- Live blocks of the heap: a list of them with one more in front, or without one of them.
use Rattle.std.proofs.Common.{◌≡◌, ◌≢◌, ℕ, ◌+◌, Bool, true, false, List, [], ◌∷◌, Some, None, refl, arith}
use Rattle.std.specs.Prelude.{nat_eq}
use Rattle.std.proofs.lemmas.Bool.Decides.{nat_tests}
use Rattle.std.proofs.lemmas.List.Sums.{sum_by-cons}
use Rattle.hx_base.specs.Memory.{round_up}
use Rattle.hx_base.specs.Runtime.{live_bytes, block_size, without_block}

-- each block begins at an address of its own
abbrev pub AreApart : List (ℕ × ℕ) → Type 0
AreApart [] = Unit {0}
AreApart (b ∷ bs) = (block_size bs b.0 ≡ None) × AreApart bs

-- ---- which block is found

-- the one in front is found
pub block_size-first : (p n : ℕ) (bs : List (ℕ × ℕ)) → block_size ((p, n) ∷ bs) p ≡ Some n
block_size-first p n bs = pick (nat_eq p p) refl
  where
    pick : (t : Bool) → nat_eq p p ≡ t → block_size ((p, n) ∷ bs) p ≡ Some n
    pick true e = rw e refl
    pick false e = absurd (grind (arith, nat_tests))

-- and one that begins elsewhere is found behind it
pub block_size-behind : (p n q : ℕ) (bs : List (ℕ × ℕ)) → q ≢ p → block_size ((p, n) ∷ bs) q ≡ block_size bs q
block_size-behind p n q bs h = pick (nat_eq p q) refl
  where
    pick : (t : Bool) → nat_eq p q ≡ t → block_size ((p, n) ∷ bs) q ≡ block_size bs q
    pick true e = absurd (h (grind (arith, nat_tests)))
    pick false e = rw e refl

-- a block that begins elsewhere is found as before
pub block_size-without_other : (bs : List (ℕ × ℕ)) (p q : ℕ) → p ≢ q → block_size (without_block bs p) q ≡ block_size bs q
block_size-without_other [] p q h = refl
block_size-without_other (b ∷ bs) p q h = pick (nat_eq b.0 p) (nat_eq b.0 q) refl refl (block_size-without_other bs p q h)
  where
    pick : (t u : Bool) → nat_eq b.0 p ≡ t → nat_eq b.0 q ≡ u → block_size (without_block bs p) q ≡ block_size bs q →
        block_size (without_block (b ∷ bs) p) q ≡ block_size (b ∷ bs) q
    pick true true e f k = absurd (h (grind (arith, nat_tests)))
    pick true false e f k = rw (e, f) refl
    pick false true e f k = rw (e, f) refl
    pick false false e f k = rw (e, f) k

-- the one that is left out is not found any more
pub block_size-without_same : (bs : List (ℕ × ℕ)) (p : ℕ) → AreApart bs → block_size (without_block bs p) p ≡ None
block_size-without_same [] p h = refl
block_size-without_same (b ∷ bs) p h = pick (nat_eq b.0 p) refl (block_size-without_same bs p h.1)
  where
    pick : (t : Bool) → nat_eq b.0 p ≡ t → block_size (without_block bs p) p ≡ None → block_size (without_block (b ∷ bs) p) p ≡ None
    pick true e k =
        let s : b.0 ≡ p = grind (arith, nat_tests) in
        rw (e, ← s) h.0
    pick false e k = rw (e, e) k

-- where none begins at an address, none is left out
pub without_block-absent : (bs : List (ℕ × ℕ)) (p : ℕ) → block_size bs p ≡ None → without_block bs p ≡ bs
without_block-absent [] p h = refl
without_block-absent (b ∷ bs) p h = pick (nat_eq b.0 p) refl (without_block-absent bs p)
  where
    pick : (t : Bool) → nat_eq b.0 p ≡ t → (block_size bs p ≡ None → without_block bs p ≡ bs) → without_block (b ∷ bs) p ≡ b ∷ bs
    pick true e k = let x = rw e at h in cc
    pick false e k = let x = rw e at h in rw (e, k x) refl

-- blocks stay apart
pub without_block-apart : (bs : List (ℕ × ℕ)) (p : ℕ) → AreApart bs → AreApart (without_block bs p)
without_block-apart [] p h = h
without_block-apart (b ∷ bs) p h = pick (nat_eq b.0 p) refl (without_block-apart bs p h.1)
  where
    pick : (t : Bool) → nat_eq b.0 p ≡ t → AreApart (without_block bs p) → AreApart (without_block (b ∷ bs) p)
    pick true e k = rw e h.1
    pick false e k =
        let other : p ≢ b.0 = λ s. absurd (grind (arith, nat_tests)) in
        rw e (rw (block_size-without_other bs p b.0 other) h.0, k)

-- ---- how many bytes are live

-- a block counts as the next multiple of 16
pub live_bytes-cons : (b : ℕ × ℕ) (bs : List (ℕ × ℕ)) → live_bytes (b ∷ bs) ≡ round_up b.1 16 + live_bytes bs
live_bytes-cons b bs = sum_by-cons (λ x. round_up x.1 16) b bs

-- so much less is live
pub live_bytes-without : (bs : List (ℕ × ℕ)) (p n : ℕ) → block_size bs p ≡ Some n →
    live_bytes (without_block bs p) + round_up n 16 ≡ live_bytes bs
live_bytes-without [] p n h = cc
live_bytes-without (b ∷ bs) p n h = pick (nat_eq b.0 p) refl (live_bytes-without bs p n)
  where
    pick : (t : Bool) → nat_eq b.0 p ≡ t → (block_size bs p ≡ Some n → live_bytes (without_block bs p) + round_up n 16 ≡ live_bytes bs) →
        live_bytes (without_block (b ∷ bs) p) + round_up n 16 ≡ live_bytes (b ∷ bs)
    pick true e k =
        let x = rw e at h in
        let s : b.1 ≡ n = cc in
        rw (e, live_bytes-cons b bs, ← s) (omega arith)
    pick false e k =
        let x = rw e at h in
        rw (e, live_bytes-cons b (without_block bs p), live_bytes-cons b bs) (omega (arith, k x))
