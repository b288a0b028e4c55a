-- What each change of memory leaves of its bytes: where it meets an address or a range, and where it does not.
use Rattle.std.proofs.Common.{◌≡◌, ◌≢◌, ℕ, zero, suc, ◌+◌, ◌<◌, ◌≤◌, Bool, true, false, List, [], ◌∷◌, ◌++◌, length, take, drop, replicate, get_or, Some, refl, ap, ◌∙◌, subst, arith, drop-cons, ◌⊎◌, inl, inr}
use Rattle.std.specs.Prelude.{not, filter, nat_eq, if◌then◌else◌, slice_get}
use Rattle.std.proofs.lemmas.Bool.Decides.{nat_tests}
use Rattle.std.proofs.lemmas.Option.{slice_get-get_or}
use Rattle.hx_base.specs.Memory.{Memory, in_range, last_written, byte_at, bytes_at, writes, write, map_range, unmap_range, clear_range}
use Rattle.hx_base.proofs.Memory.Ranges.{in_range-inside, in_range-outside}
use Rattle.hx_base.proofs.Memory.Agreeing.{bytes_at-same}

-- ---- a byte, by what was written

-- the newest byte at an address is the one there
pub last_written-same : (fill : ℕ) (ws : List (ℕ × ℕ)) (a b : ℕ) → last_written fill ((a, b) ∷ ws) a ≡ b
last_written-same fill ws a b = pick (nat_eq a a) refl
  where
    pick : (t : Bool) → nat_eq a a ≡ t → last_written fill ((a, b) ∷ ws) a ≡ b
    pick true e = rw e refl
    pick false e = absurd (grind (arith, nat_tests))

-- a byte at another address does not count
pub last_written-other : (fill : ℕ) (ws : List (ℕ × ℕ)) (at b a : ℕ) → at ≢ a →
    last_written fill ((at, b) ∷ ws) a ≡ last_written fill ws a
last_written-other fill ws at b a h = pick (nat_eq at a) refl
  where
    pick : (t : Bool) → nat_eq at a ≡ t → last_written fill ((at, b) ∷ ws) a ≡ last_written fill ws a
    pick true e = absurd (h (grind (arith, nat_tests)))
    pick false e = rw e refl

last_written-writes_outside : (fill : ℕ) (ws : List (ℕ × ℕ)) (at : ℕ) (bs : List ℕ) (a : ℕ) → (a < at) ⊎ (at + length bs ≤ a) →
    last_written fill (writes ws at bs) a ≡ last_written fill ws a
last_written-writes_outside fill ws at [] a h = refl
last_written-writes_outside fill ws at (b ∷ bs) a (inl h) =
    last_written-other fill (writes ws (suc at) bs) at b a (λ e. omega arith)
    ∙ last_written-writes_outside fill ws (suc at) bs a (inl (omega arith))
last_written-writes_outside fill ws at (b ∷ bs) a (inr h) =
    last_written-other fill (writes ws (suc at) bs) at b a (λ e. omega arith)
    ∙ last_written-writes_outside fill ws (suc at) bs a (inr (omega arith))

last_written-writes_inside : (fill : ℕ) (ws : List (ℕ × ℕ)) (at : ℕ) (bs : List ℕ) (k b : ℕ) → slice_get bs k ≡ Some b →
    last_written fill (writes ws at bs) (at + k) ≡ b
last_written-writes_inside fill ws at [] k b e = cc
last_written-writes_inside fill ws at (c ∷ bs) zero b e =
    let i : c ≡ b = cc in
    let z : at + 0 ≡ at = omega arith in
    let f : last_written fill ((at, c) ∷ writes ws (suc at) bs) at ≡ b = last_written-same fill (writes ws (suc at) bs) at c ∙ i in
    rw z f
last_written-writes_inside fill ws at (c ∷ bs) (suc k) b e =
    let i : at + suc k ≡ suc at + k = omega arith in
    last_written-other fill (writes ws (suc at) bs) at c (at + suc k) (λ x. omega arith)
    ∙ ap (last_written fill (writes ws (suc at) bs)) i
    ∙ last_written-writes_inside fill ws (suc at) bs k b e

last_written-filter : (fill at n a : ℕ) (ws : List (ℕ × ℕ)) →
    last_written fill (filter (λ w. not (in_range at n w.0)) ws) a ≡ (if in_range at n a then fill else last_written fill ws a)
last_written-filter fill at n a [] = pick (in_range at n a) refl
  where
    pick : (t : Bool) → in_range at n a ≡ t → fill ≡ (if in_range at n a then fill else fill)
    pick true e = rw e refl
    pick false e = rw e refl
last_written-filter fill at n a (w ∷ ws) =
    pick (in_range at n w.0) (nat_eq w.0 a) refl refl (last_written-filter fill at n a ws)
  where
    pick : (t u : Bool) → in_range at n w.0 ≡ t → nat_eq w.0 a ≡ u →
        last_written fill (filter (λ x. not (in_range at n x.0)) ws) a ≡ (if in_range at n a then fill else last_written fill ws a) →
        last_written fill (filter (λ x. not (in_range at n x.0)) (w ∷ ws)) a
        ≡ (if in_range at n a then fill else last_written fill (w ∷ ws) a)
    pick true true e f h =
        let s : w.0 ≡ a = grind (arith, nat_tests) in
        let i : in_range at n a ≡ true = subst (λ (x : ℕ). in_range at n x ≡ true) s e in
        rw (e, i) (rw i at h)
    pick true false e f h = rw (e, f) h
    pick false true e f h =
        let s : w.0 ≡ a = grind (arith, nat_tests) in
        let i : in_range at n a ≡ false = subst (λ (x : ℕ). in_range at n x ≡ false) s e in
        rw (e, f, i) refl
    pick false false e f h = rw (e, f) h

-- ---- a byte of a range that is written

-- bytes outside the range that is written stay
pub byte_at-write_outside : (m : Memory) (at : ℕ) (bs : List ℕ) (a : ℕ) → (a < at) ⊎ (at + length bs ≤ a) →
    byte_at (write m at bs) a ≡ byte_at m a
byte_at-write_outside m at bs a h = last_written-writes_outside m.fill m.written at bs a h

-- those inside are what was written
pub byte_at-write_inside : (m : Memory) (at : ℕ) (bs : List ℕ) (k b : ℕ) → slice_get bs k ≡ Some b →
    byte_at (write m at bs) (at + k) ≡ b
byte_at-write_inside m at bs k b e = last_written-writes_inside m.fill m.written at bs k b e

-- ---- bytes of a range that is written

-- what was written is there
pub bytes_at-write : (m : Memory) (at : ℕ) (bs : List ℕ) → bytes_at (write m at bs) at (length bs) ≡ bs
bytes_at-write m at [] = refl
bytes_at-write m at (b ∷ bs) =
    let here : byte_at (write m at (b ∷ bs)) at ≡ b = last_written-same m.fill (writes m.written (suc at) bs) at b in
    let rest : bytes_at (write m at (b ∷ bs)) (suc at) (length bs) ≡ bytes_at (write m (suc at) bs) (suc at) (length bs) =
    bytes_at-same (write m (suc at) bs) (write m at (b ∷ bs)) (suc at) (length bs)
    (λ a l u. last_written-other m.fill (writes m.written (suc at) bs) at b a (λ e. omega arith)) in
    let both : byte_at (write m at (b ∷ bs)) at ∷ bytes_at (write m at (b ∷ bs)) (suc at) (length bs) ≡ b ∷ bs =
    rw (here, rest, bytes_at-write m (suc at) bs) refl in
    both

-- a range beside the one that is written holds what it held
pub bytes_at-write_outside : (m : Memory) (at : ℕ) (bs : List ℕ) (a n : ℕ) → (a + n ≤ at) ⊎ (at + length bs ≤ a) →
    bytes_at (write m at bs) a n ≡ bytes_at m a n
bytes_at-write_outside m at bs a n (inl h) =
    bytes_at-same m (write m at bs) a n (λ x l u. byte_at-write_outside m at bs x (inl (omega arith)))
bytes_at-write_outside m at bs a n (inr h) =
    bytes_at-same m (write m at bs) a n (λ x l u. byte_at-write_outside m at bs x (inr (omega arith)))

-- a part of it holds that part of what was written
pub bytes_at-write_inside : (m : Memory) (at : ℕ) (bs : List ℕ) (k n : ℕ) → k + n ≤ length bs →
    bytes_at (write m at bs) (at + k) n ≡ take n (drop k bs)
bytes_at-write_inside m at bs k zero h = refl
bytes_at-write_inside m at bs k (suc n) h =
    let inside : k < length bs = omega arith in
    let here : byte_at (write m at bs) (at + k) ≡ get_or bs k 0 =
    byte_at-write_inside m at bs k (get_or bs k 0) (slice_get-get_or bs k 0 inside) in
    let next : suc (at + k) ≡ at + suc k = omega arith in
    rw (here, next, bytes_at-write_inside m at bs (suc k) n (omega arith), drop-cons bs k 0) refl

writes-append : (ws : List (ℕ × ℕ)) (at : ℕ) (xs ys : List ℕ) → writes ws at (xs ++ ys) ≡ writes (writes ws (at + length xs) ys) at xs
writes-append ws at [] ys = let e : at + 0 ≡ at = omega arith in rw e refl
writes-append ws at (x ∷ xs) ys =
    let e : suc at + length xs ≡ at + suc (length xs) = omega arith in
    ap (λ (zs : List (ℕ × ℕ)). (at, x) ∷ zs) (writes-append ws (suc at) xs ys ∙ ap (λ (n : ℕ). writes (writes ws n ys) (suc at) xs) e)

-- bytes may be written in two parts, the front last
pub write-append : (m : Memory) (at : ℕ) (xs ys : List ℕ) → write m at (xs ++ ys) ≡ write (write m (at + length xs) ys) at xs
write-append m at xs ys = ap (λ (ws : List (ℕ × ℕ)). record m { written = ws }) (writes-append m.written at xs ys)

-- ---- bytes where a range is mapped or unmapped

pub bytes_at-map_range : (m : Memory) (at n a k : ℕ) → bytes_at (map_range m at n) a k ≡ bytes_at m a k
bytes_at-map_range m at n a k = bytes_at-same m (map_range m at n) a k (λ x l u. refl)

pub bytes_at-unmap_range : (m : Memory) (at n a k : ℕ) → bytes_at (unmap_range m at n) a k ≡ bytes_at m a k
bytes_at-unmap_range m at n a k = bytes_at-same m (unmap_range m at n) a k (λ x l u. refl)

-- ---- bytes where a range is cleared

-- what is cleared holds the fill byte, and all else what it held
pub byte_at-clear_range : (m : Memory) (at n a : ℕ) → byte_at (clear_range m at n) a ≡ (if in_range at n a then m.fill else byte_at m a)
byte_at-clear_range m at n a = last_written-filter m.fill at n a m.written

pub byte_at-clear_range_inside : (m : Memory) (at n a : ℕ) → at ≤ a → a < at + n → byte_at (clear_range m at n) a ≡ m.fill
byte_at-clear_range_inside m at n a l u = byte_at-clear_range m at n a ∙ (let e = in_range-inside at n a l u in rw e refl)

pub byte_at-clear_range_outside : (m : Memory) (at n a : ℕ) → (a < at) ⊎ (at + n ≤ a) → byte_at (clear_range m at n) a ≡ byte_at m a
byte_at-clear_range_outside m at n a h = byte_at-clear_range m at n a ∙ (let e = in_range-outside at n a h in rw e refl)

-- a range beside the one that is cleared holds what it held
pub bytes_at-clear_range_outside : (m : Memory) (at n a k : ℕ) → (a + k ≤ at) ⊎ (at + n ≤ a) →
    bytes_at (clear_range m at n) a k ≡ bytes_at m a k
bytes_at-clear_range_outside m at n a k (inl h) =
    bytes_at-same m (clear_range m at n) a k (λ x l u. byte_at-clear_range_outside m at n x (inl (omega arith)))
bytes_at-clear_range_outside m at n a k (inr h) =
    bytes_at-same m (clear_range m at n) a k (λ x l u. byte_at-clear_range_outside m at n x (inr (omega arith)))

-- a part of it holds the fill byte
pub bytes_at-clear_range_inside : (m : Memory) (at n a k : ℕ) → at ≤ a → a + k ≤ at + n →
    bytes_at (clear_range m at n) a k ≡ replicate k m.fill
bytes_at-clear_range_inside m at n a zero l u = refl
bytes_at-clear_range_inside m at n a (suc k) l u =
    rw (byte_at-clear_range_inside m at n a l (omega arith), bytes_at-clear_range_inside m at n (suc a) k (omega arith) (omega arith)) refl
