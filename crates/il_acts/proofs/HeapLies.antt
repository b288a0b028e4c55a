-- How blocks lie in memory, behind a new one and behind one less.
use Rattle.std.proofs.Common.{◌≡◌, ◌≢◌, ℕ, ◌+◌, ◌-◌, ◌^◌, ◌<◌, ◌≤◌, Bool, true, false, List, [], ◌∷◌, Option, Some, None, refl, sym, ap, ◌∙◌, subst, arith, ◌⊎◌, inl, inr}
use Rattle.std.specs.Prelude.{not, filter, slice_index_or, nat_eq, nat_lt}
use Rattle.std.specs.List.{All, Contains}
use Rattle.std.specs.Ordering.{nat_cmp}
use Rattle.std.specs.BTreeMap.{insert_entry}
use Rattle.std.proofs.lemmas.Bool.Decides.{nat_tests}
use Rattle.std.proofs.lemmas.List.Elements.{All-nil, All-cons, All-head, All-tail, All-filter, All-weaker, All-contains_itself, filter_passes}
use Rattle.hx_base.specs.Memory.{round_up, in_range}
use Rattle.hx_base.specs.Runtime as runtime
use Rattle.hx_base.specs.Runtime.{heap_start, heap_end, heap_size, live_bytes, block_size, without_block}
use Rattle.hx_base.proofs.Memory.Blocks.{live_bytes-cons, live_bytes-without, without_block-apart, block_size-first, block_size-behind, block_size-without_same, block_size-without_other}
use Rattle.hx_base.proofs.Memory.Ranges.{in_range-inside}
use Rattle.il_mem.specs.Kept.{IsBare, IsWhole}
use Rattle.il_mem.proofs.RangeLists.{covers-rest}
use Rattle.il_acts.specs.Blocks.{Blocks, HeapHolds, BlockLies, AreDisjoint, LiesAside, IsHeapLaid, IsOldOrInHeap, EndLow}
use Rattle.il_acts.proofs.BlockLists.{Puts, puts_here, puts_other}

-- ---- lists of ranges

-- what holds of each range and of the new one
inserted_all : (P : ℕ × ℕ → Type 0) (at end : ℕ) (rs : List (ℕ × ℕ)) → All P rs → P (at, end) → All P (insert_entry nat_cmp rs at end)
inserted_all P at end [] h p = All-cons P (at, end) [] p (All-nil P)
inserted_all P at end (r ∷ rs) h p = pick (nat_lt at r.0) (nat_eq at r.0) refl refl (inserted_all P at end rs (All-tail P r rs h) p)
  where
    pick : (t u : Bool) → nat_lt at r.0 ≡ t → nat_eq at r.0 ≡ u → All P (insert_entry nat_cmp rs at end) →
        All P (insert_entry nat_cmp (r ∷ rs) at end)
    pick true u e f on = rw e (All-cons P (at, end) (r ∷ rs) p h)
    pick false true e f on =
        let same : at ≡ r.0 = grind (arith, nat_tests) in
        rw (e, f) (All-cons P (r.0, end) rs (subst (λ (a : ℕ). P (a, end)) same p) (All-tail P r rs h))
    pick false false e f on = rw (e, f) (All-cons P r (insert_entry nat_cmp rs at end) (All-head P r rs h) on)

-- a range that ends at or below an address, or begins at or behind another
abbrev Misses : ℕ → ℕ → ℕ × ℕ → Type 0
Misses at n r = (r.1 ≤ at) ⊎ (at + n ≤ r.0)

-- none of these addresses is mapped where each range misses them
bare_from : (rs : List (ℕ × ℕ)) (at n : ℕ) → All (Misses at n) rs → IsBare rs at n
bare_from [] at n h a l u = refl
bare_from (r ∷ rs) at n h a l u =
    covers-rest a r rs (beside (All-head (Misses at n) r rs h)) ∙ bare_from rs at n (All-tail (Misses at n) r rs h) a l u
  where
    beside : Misses at n r → (a < r.0) ⊎ (r.1 ≤ a)
    beside (inl x) = inr (omega arith)
    beside (inr x) = inl (omega arith)

-- each range was there
pub old_all : (rs : List (ℕ × ℕ)) → All (IsOldOrInHeap rs) rs
old_all rs = All-weaker (Contains rs) (IsOldOrInHeap rs) (λ r c. inl c) rs (All-contains_itself rs)

-- and each that is left was
pub old_filter : (p : ℕ × ℕ → Bool) (rs : List (ℕ × ℕ)) → All (IsOldOrInHeap rs) (filter p rs)
old_filter p rs = All-filter p (IsOldOrInHeap rs) rs (old_all rs)

-- and a new one lies in the heap
pub old_insert : (rs : List (ℕ × ℕ)) (at n : ℕ) → heap_start ≤ at → 0 < n → All (IsOldOrInHeap rs) (insert_entry nat_cmp rs at (at + n))
old_insert rs at n above some = inserted_all (IsOldOrInHeap rs) at (at + n) rs (old_all rs) (inr (above, omega arith))

-- ---- the start

pub laid_start : (rs : List (ℕ × ℕ)) → All (λ r. r.1 ≤ heap_start) rs → IsHeapLaid rs (record { next = heap_start; blocks = []; live = 0 })
laid_start rs h = record {
  above = omega arith;
  below = omega arith;
  live = refl;
  few = omega arith;
  blocks = λ p n e. cc;
  disjoint = λ p q n k e f l. cc;
  ranges = All-weaker (λ r. r.1 ≤ heap_start) (LiesAside []) (λ r l. inl l) rs h;
}

pub holds_start : HeapHolds (record { next = heap_start; blocks = []; live = 0 }) (record { next = heap_start; blocks = [] })
holds_start = record { next = refl; blocks = λ p. refl; live = refl; apart = tt }

-- ---- what the order says

module _ (rs : List (ℕ × ℕ)) (h : Blocks) (laid : IsHeapLaid rs h) where
  -- no range reaches the end of the addresses
  pub ends_low : EndLow rs
  ends_low = All-weaker (LiesAside h.blocks) (λ r. r.1 < 2 ^ 64) low rs laid.ranges
    where
      low : (r : ℕ × ℕ) → LiesAside h.blocks r → r.1 < 2 ^ 64
      low r (inl x) = omega (arith, x)
      low r (inr x) =
          let b = laid.blocks r.0 (r.1 - r.0) x.whole in
          let some = x.some in
          let below = b.below in
          let most = laid.below in
          omega (arith, some, below, most)

  -- no block begins where the next one will
  pub next_free : block_size h.blocks h.next ≡ None
  next_free = pick (block_size h.blocks h.next) refl
    where
      pick : (o : Option ℕ) → block_size h.blocks h.next ≡ o → o ≡ None
      pick None e = refl
      pick (Some n) e =
          let b = laid.blocks h.next n e in
          let some = b.some in
          let below = b.below in
          absurd (omega (arith, some, below))

  -- nothing is mapped there
  pub next_bare : (n : ℕ) → IsBare rs h.next n
  next_bare n = bare_from rs h.next n (All-weaker (LiesAside h.blocks) (Misses h.next n) misses rs laid.ranges)
    where
      misses : (r : ℕ × ℕ) → LiesAside h.blocks r → Misses h.next n r
      misses r (inl x) = let above = laid.above in inl (omega (arith, x, above))
      misses r (inr x) =
          let b = laid.blocks r.0 (r.1 - r.0) x.whole in
          let some = x.some in
          let below = b.below in
          inl (omega (arith, some, below))

  -- ---- a new block

  module _ (n : ℕ) (bs : List (ℕ × ℕ)) (some : 0 < n) (puts : Puts h.blocks bs h.next (Some n)) where
    -- each other begins below it
    below_next : (p k : ℕ) → block_size h.blocks p ≡ Some k → p ≢ h.next
    below_next p k e same =
        let b = laid.blocks p k e in
        let s = b.some in
        let u = b.below in
        absurd (omega (arith, s, u, same))

    old_block : (p k : ℕ) → p ≢ h.next → block_size bs p ≡ Some k → block_size h.blocks p ≡ Some k
    old_block p k apart e = sym (puts_other h.blocks bs h.next (Some n) p puts apart) ∙ e

    new_block : (k : ℕ) → block_size bs h.next ≡ Some k → n ≡ k
    new_block k e = let i = puts_here h.blocks bs h.next (Some n) puts in cc

    lies_more : (p k : ℕ) → block_size bs p ≡ Some k → BlockLies (h.next + round_up n 16) p k
    lies_more p k e = pick (nat_eq p h.next) refl
      where
        pick : (t : Bool) → nat_eq p h.next ≡ t → BlockLies (h.next + round_up n 16) p k
        pick true f =
            let same : p ≡ h.next = grind (arith, nat_tests) in
            let size = new_block k (subst (λ (x : ℕ). block_size bs x ≡ Some k) same e) in
            let above = laid.above in
            record { some = omega (arith, size, some); above = omega (arith, same, above); below = omega (arith, same, size) }
        pick false f =
            let apart : p ≢ h.next = grind (arith, nat_tests) in
            let b = laid.blocks p k (old_block p k apart e) in
            let below = b.below in
            record { some = b.some; above = b.above; below = omega (arith, below) }

    disjoint_more : AreDisjoint bs
    disjoint_more p q i k e f l = pick (nat_eq p h.next) (nat_eq q h.next) refl refl
      where
        pick : (t u : Bool) → nat_eq p h.next ≡ t → nat_eq q h.next ≡ u → p + i ≤ q
        pick true true x y = absurd (grind (arith, nat_tests))
        pick true false x y =
            let same : p ≡ h.next = grind (arith, nat_tests) in
            let apart : q ≢ h.next = grind (arith, nat_tests) in
            let b = laid.blocks q k (old_block q k apart f) in
            let s = b.some in
            let u = b.below in
            absurd (omega (arith, same, l, s, u))
        pick false true x y =
            let same : q ≡ h.next = grind (arith, nat_tests) in
            let apart : p ≢ h.next = grind (arith, nat_tests) in
            let b = laid.blocks p i (old_block p i apart e) in
            let u = b.below in
            omega (arith, same, u)
        pick false false x y =
            let one : p ≢ h.next = grind (arith, nat_tests) in
            let two : q ≢ h.next = grind (arith, nat_tests) in
            laid.disjoint p q i k (old_block p i one e) (old_block q k two f) l

    aside_more : (r : ℕ × ℕ) → LiesAside h.blocks r → LiesAside bs r
    aside_more r (inl x) = inl x
    aside_more r (inr x) =
        let apart = below_next r.0 (r.1 - r.0) x.whole in
        inr (record { some = x.some; whole = puts_other h.blocks bs h.next (Some n) r.0 puts apart ∙ x.whole })

    pub laid_more : h.next + n ≤ heap_end → h.live + round_up n 16 ≤ heap_size → live_bytes bs ≡ live_bytes h.blocks + round_up n 16 →
        IsHeapLaid (insert_entry nat_cmp rs h.next (h.next + n))
        (record { next = h.next + round_up n 16; blocks = bs; live = h.live + round_up n 16 })
    laid_more fits few total = let above = laid.above in let live = laid.live in record {
      above = omega (arith, above);
      below = omega (arith, fits);
      live = omega (arith, live, total);
      few = few;
      blocks = lies_more;
      disjoint = disjoint_more;
      ranges = inserted_all (LiesAside bs) h.next (h.next + n) rs (All-weaker (LiesAside h.blocks) (LiesAside bs) aside_more rs laid.ranges)
          (inr (record { some = omega arith; whole = puts_here h.blocks bs h.next (Some n) puts ∙ ap Some (omega arith) }));
    }

  -- ---- one block less

  module _ (p n : ℕ) (is : block_size h.blocks p ≡ Some n) where
    -- the block has a byte, and lies low enough
    pub block_low : p + n < 2 ^ 64
    block_low = let b = laid.blocks p n is in let u = b.below in let most = laid.below in omega (arith, u, most)

    -- what a range of the heap has to do with the block
    whole_by : (r : ℕ × ℕ) → LiesAside h.blocks r → IsWhole p n r
    whole_by r (inl x) = let b = laid.blocks p n is in let above = b.above in inr (inl (omega (arith, x, above)))
    whole_by r (inr x) = pick (nat_lt r.0 p) (nat_eq r.0 p) refl refl
      where
        pick : (t u : Bool) → nat_lt r.0 p ≡ t → nat_eq r.0 p ≡ u → IsWhole p n r
        pick true u e f =
            let l : r.0 < p = grind (arith, nat_tests) in
            let apart = laid.disjoint r.0 p (r.1 - r.0) n x.whole is l in
            let some = x.some in
            inr (inl (omega (arith, apart, some)))
        pick false true e f =
            let same : r.0 ≡ p = grind (arith, nat_tests) in
            let size = subst (λ (y : ℕ). block_size h.blocks y ≡ Some (r.1 - r.0)) same x.whole in
            let equal : r.1 - r.0 ≡ n = cc in
            let some = x.some in
            inl (omega (arith, same), omega (arith, same, equal, some))
        pick false false e f =
            let l : p < r.0 = grind (arith, nat_tests) in
            let apart = laid.disjoint p r.0 n (r.1 - r.0) is x.whole l in
            inr (inr (inl apart))

    -- each range lies wholly in it, or not at all
    pub block_whole : All (IsWhole p n) rs
    block_whole = All-weaker (LiesAside h.blocks) (IsWhole p n) whole_by rs laid.ranges

    -- a range that does not begin in it misses it
    left_misses : (r : ℕ × ℕ) → not (in_range p n r.0) ≡ true → LiesAside h.blocks r → Misses p n r
    left_misses r e aside = pick aside (whole_by r aside)
      where
        b : BlockLies h.next p n
        b = laid.blocks p n is

        begins : r.0 < r.1 → p ≤ r.0 → r.1 ≤ p + n → ⊥
        begins s l u =
            let i = in_range-inside p n r.0 l (omega (arith, s, u)) in
            let x = rw i at e in
            cc

        pick : LiesAside h.blocks r → IsWhole p n r → Misses p n r
        pick (inl x) w = let above = b.above in inl (omega (arith, x, above))
        pick (inr x) (inl (l, u)) = absurd (begins x.some l u)
        pick (inr x) (inr (inl y)) = inl y
        pick (inr x) (inr (inr (inl y))) = inr y
        pick (inr x) (inr (inr (inr y))) = let some = b.some in absurd (omega (arith, some, y))

    -- so nothing of it is mapped any more
    pub freed_bare : IsBare (filter (λ r. not (in_range p n r.0)) rs) p n
    freed_bare =
        let t : ℕ × ℕ → Bool = λ r. not (in_range p n r.0) in
        let aside = All-filter t (LiesAside h.blocks) rs laid.ranges in
        let passes = filter_passes t rs in
        bare_from (filter t rs) p n (λ k d l. left_misses (slice_index_or (filter t rs) k d) (passes k d l) (aside k d l))

    module _ (bs : List (ℕ × ℕ)) (puts : Puts h.blocks bs p None) where
      old_left : (q k : ℕ) → block_size bs q ≡ Some k → block_size h.blocks q ≡ Some k
      old_left q k e = pick (nat_eq q p) refl
        where
          pick : (t : Bool) → nat_eq q p ≡ t → block_size h.blocks q ≡ Some k
          pick true f =
              let same : q ≡ p = grind (arith, nat_tests) in
              let none = puts_here h.blocks bs p None puts in
              let x = subst (λ (y : ℕ). block_size bs y ≡ Some k) same e in
              cc
          pick false f =
              let apart : q ≢ p = grind (arith, nat_tests) in
              sym (puts_other h.blocks bs p None q puts apart) ∙ e

      left_aside : (r : ℕ × ℕ) → not (in_range p n r.0) ≡ true → LiesAside h.blocks r → LiesAside bs r
      left_aside r e (inl x) = inl x
      left_aside r e (inr x) = inr (record { some = x.some; whole = puts_other h.blocks bs p None r.0 puts apart ∙ x.whole })
        where
          apart : r.0 ≢ p
          apart same =
              let b = laid.blocks p n is in
              let some = b.some in
              let i = in_range-inside p n r.0 (omega (arith, same)) (omega (arith, same, some)) in
              let x = rw i at e in
              cc

      pub laid_less : live_bytes bs + round_up n 16 ≡ live_bytes h.blocks → IsHeapLaid (filter (λ r. not (in_range p n r.0)) rs)
          (record { next = h.next; blocks = bs; live = h.live - round_up n 16 })
      laid_less total =
          let t : ℕ × ℕ → Bool = λ r. not (in_range p n r.0) in
          let aside = All-filter t (LiesAside h.blocks) rs laid.ranges in
          let passes = filter_passes t rs in
          let live = laid.live in
          let few = laid.few in
          record {
            above = laid.above;
            below = laid.below;
            live = omega (arith, live, total);
            few = omega (arith, few);
            blocks = λ q k e. laid.blocks q k (old_left q k e);
            disjoint = λ q s i k e f l. laid.disjoint q s i k (old_left q i e) (old_left s k f) l;
            ranges = λ k d l. left_aside (slice_index_or (filter t rs) k d) (passes k d l) (aside k d l);
          }

-- ---- the same heap

pub holds_more : (h : Blocks) (heap : runtime.Heap) (n : ℕ) (bs : List (ℕ × ℕ)) → HeapHolds h heap → block_size h.blocks h.next ≡ None →
    Puts h.blocks bs h.next (Some n) →
    HeapHolds (record { next = h.next + round_up n 16; blocks = bs; live = h.live + round_up n 16 })
    (record { next = heap.next + round_up n 16; blocks = (heap.next, n) ∷ heap.blocks })
holds_more h heap n bs holds free puts =
    let next = holds.next in
    let live = holds.live in
    let none : block_size heap.blocks heap.next ≡ None =
    subst (λ (x : ℕ). block_size heap.blocks x ≡ None) next (sym (holds.blocks h.next) ∙ free) in
    record {
      next = omega (arith, next);
      blocks = same;
      live = let c = live_bytes-cons (heap.next, n) heap.blocks in omega (arith, live, c);
      apart = (none, holds.apart);
    }
  where
    same : (q : ℕ) → block_size bs q ≡ block_size ((heap.next, n) ∷ heap.blocks) q
    same q = pick (nat_eq q h.next) refl
      where
        pick : (t : Bool) → nat_eq q h.next ≡ t → block_size bs q ≡ block_size ((heap.next, n) ∷ heap.blocks) q
        pick true e =
            let next = holds.next in
            let equal : q ≡ h.next = grind (arith, nat_tests) in
            let there : q ≡ heap.next = equal ∙ next in
            let here = puts_here h.blocks bs h.next (Some n) puts in
            let front = block_size-first heap.next n heap.blocks in
            subst (λ (x : ℕ). block_size bs x ≡ Some n) (sym equal) here
            ∙ sym (subst (λ (x : ℕ). block_size ((heap.next, n) ∷ heap.blocks) x ≡ Some n) (sym there) front)
        pick false e =
            let next = holds.next in
            let apart : q ≢ h.next = grind (arith, nat_tests) in
            let other : q ≢ heap.next = λ f. apart (f ∙ sym next) in
            puts_other h.blocks bs h.next (Some n) q puts apart ∙ holds.blocks q ∙ sym (block_size-behind heap.next n q heap.blocks other)

pub holds_less : (h : Blocks) (heap : runtime.Heap) (p n : ℕ) (bs : List (ℕ × ℕ)) → HeapHolds h heap → block_size h.blocks p ≡ Some n →
    Puts h.blocks bs p None → HeapHolds (record { next = h.next; blocks = bs; live = h.live - round_up n 16 })
    (record { next = heap.next; blocks = without_block heap.blocks p })
holds_less h heap p n bs holds is puts =
    let there : block_size heap.blocks p ≡ Some n = sym (holds.blocks p) ∙ is in
    let live = holds.live in
    record {
      next = holds.next;
      blocks = same;
      live = let c = live_bytes-without heap.blocks p n there in omega (arith, live, c);
      apart = without_block-apart heap.blocks p holds.apart;
    }
  where
    same : (q : ℕ) → block_size bs q ≡ block_size (without_block heap.blocks p) q
    same q = pick (nat_eq q p) refl
      where
        pick : (t : Bool) → nat_eq q p ≡ t → block_size bs q ≡ block_size (without_block heap.blocks p) q
        pick true e =
            let equal : q ≡ p = grind (arith, nat_tests) in
            let here = puts_here h.blocks bs p None puts in
            let gone = block_size-without_same heap.blocks p holds.apart in
            subst (λ (x : ℕ). block_size bs x ≡ None) (sym equal) here
            ∙ sym (subst (λ (x : ℕ). block_size (without_block heap.blocks p) x ≡ None) (sym equal) gone)
        pick false e =
            let apart : q ≢ p = grind (arith, nat_tests) in
            puts_other h.blocks bs p None q puts apart ∙ holds.blocks q
            ∙ sym (block_size-without_other heap.blocks p q (λ f. apart (sym f)))
