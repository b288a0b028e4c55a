-- The heap, from each state to each later one.
use Rattle.std.proofs.Common.{◌≡◌, ℕ, zero, suc, ◌+◌, ◌≤◌, Bool, true, false, List, [], ◌∷◌, Some, None, refl, arith}
use Rattle.std.specs.Prelude.{nat_eq, All}
use Rattle.std.proofs.lemmas.Bool.Decides.{nat_tests}
use Rattle.std.proofs.lemmas.List.Elements.{All-cons}
use Rattle.hx_base.specs.Memory.{round_up}
use Rattle.hx_base.specs.Runtime.{block_size, without_block, new_block}
use Rattle.hx_base.proofs.Memory.Numbers.{round_up-reaches}
use Rattle.hx_base.proofs.Memory.Blocks.{AreApart, without_block-apart}
use Rattle.flat_code.specs.State.{State}
use Rattle.flat_laws.specs.Runs.{OfAllCode}
use Rattle.flat_laws.specs.Heaps.{BeginApart, IsBlock, IsHeapKept, KeepsTheHeap}
use Rattle.flat_laws.proofs.Induction.{Steady, unmade, steady, of_all_code, ends_so}

-- ---- blocks apart

to_apart : (bs : List (ℕ × ℕ)) → BeginApart bs → AreApart bs
to_apart [] h = tt
to_apart (b ∷ bs) h = (h.0, to_apart bs h.1)

from_apart : (bs : List (ℕ × ℕ)) → AreApart bs → BeginApart bs
from_apart [] h = tt
from_apart (b ∷ bs) h = (h.0, from_apart bs h.1)

-- ---- blocks below where the next one begins

pub no_blocks : (next : ℕ) → All (IsBlock next) []
no_blocks next k d l = absurd (omega arith)

first : (next : ℕ) (b : ℕ × ℕ) (bs : List (ℕ × ℕ)) → All (IsBlock next) (b ∷ bs) → IsBlock next b
first next b bs h = h zero b (omega arith)

others : (next : ℕ) (b : ℕ × ℕ) (bs : List (ℕ × ℕ)) → All (IsBlock next) (b ∷ bs) → All (IsBlock next) bs
others next b bs h k d l = h (suc k) d (omega arith)

-- where all end at or below an address, none begins there
none_begins : (next : ℕ) (bs : List (ℕ × ℕ)) → All (IsBlock next) bs → block_size bs next ≡ None
none_begins next [] h = refl
none_begins next (b ∷ bs) h = pick (nat_eq b.0 next) refl (none_begins next bs (others next b bs h)) (first next b bs h)
  where
    pick : (t : Bool) → nat_eq b.0 next ≡ t → block_size bs next ≡ None → IsBlock next b → block_size (b ∷ bs) next ≡ None
    pick true e on i = absurd (let s : b.0 ≡ next = grind (arith, nat_tests) in omega (arith, s, i.some, i.ends))
    pick false e on i = rw e on

raised : (next next' : ℕ) (bs : List (ℕ × ℕ)) → next ≤ next' → All (IsBlock next) bs → All (IsBlock next') bs
raised next next' [] l h = no_blocks next'
raised next next' (b ∷ bs) l h =
    let i = first next b bs h in
    All-cons (IsBlock next') b bs (record {
      starts =
          i.starts;
      some = i.some;
      ends = omega (arith, i.ends, l);
    }) (raised next next' bs l (others next b bs h))

without : (next : ℕ) (bs : List (ℕ × ℕ)) (p : ℕ) → All (IsBlock next) bs → All (IsBlock next) (without_block bs p)
without next [] p h = no_blocks next
without next (b ∷ bs) p h = pick (nat_eq b.0 p) refl (without next bs p (others next b bs h))
  where
    pick : (t : Bool) → nat_eq b.0 p ≡ t → All (IsBlock next) (without_block bs p) → All (IsBlock next) (without_block (b ∷ bs) p)
    pick true e on = rw e (others next b bs h)
    pick false e on = rw e (All-cons (IsBlock next) b (without_block bs p) (first next b bs h) on)

-- a live block that is found is a block
pub block_found : (next : ℕ) (bs : List (ℕ × ℕ)) (p n : ℕ) → All (IsBlock next) bs → block_size bs p ≡ Some n → IsBlock next (p, n)
block_found next [] p n h e = absurd (let x : None ≡ Some n = e in cc)
block_found next (b ∷ bs) p n h e = pick (nat_eq b.0 p) refl (block_found next bs p n (others next b bs h))
  where
    pick : (t : Bool) → nat_eq b.0 p ≡ t → (block_size bs p ≡ Some n → IsBlock next (p, n)) → IsBlock next (p, n)
    pick true f on =
        let s : b.0 ≡ p = grind (arith, nat_tests) in
        let x = rw f at e in
        let i : b.1 ≡ n = cc in
        let c = first next b bs h in
        record { starts = rw (← s) c.starts; some = rw (← i) c.some; ends = rw (← s, ← i) c.ends }
    pick false f on = on (rw f at e)

-- ---- from each state to each later one

same_heap : (s : State) → IsHeapKept s s
same_heap s = record { next = omega arith; heap = λ h. h }

heaps_then : (s t u : State) → IsHeapKept s t → IsHeapKept t u → IsHeapKept s u
heaps_then s t u h g = record { next = omega (arith, h.next, g.next); heap = λ i. g.heap (h.heap i) }

made_kept : (s : State) (size : ℕ) → 1 ≤ size → IsHeapKept s (record s { world = new_block s.world size })
made_kept s size l = record {
  next = omega arith;
  heap = λ h. record {
    next = omega (arith, h.next);
    blocks = All-cons (IsBlock (s.world.heap.next + round_up size 16)) (s.world.heap.next, size) s.world.heap.blocks
        (record { starts = h.next; some = l; ends = omega (arith, round_up-reaches size 16 (omega arith)) })
        (raised s.world.heap.next (s.world.heap.next + round_up size 16) s.world.heap.blocks (omega arith) h.blocks);
    apart = (none_begins s.world.heap.next s.world.heap.blocks h.blocks, h.apart);
  };
}

unmade_kept : (s : State) (p n : ℕ) → IsHeapKept s (record s { world = unmade s.world p n })
unmade_kept s p n = record {
  next = omega arith;
  heap = λ h. record {
    next = h.next;
    blocks = without s.world.heap.next s.world.heap.blocks p h.blocks;
    apart = from_apart _ (without_block-apart s.world.heap.blocks p (to_apart s.world.heap.blocks h.apart));
  };
}

pub heaps_laws : Steady IsHeapKept IsHeapKept
heaps_laws = record {
  same = same_heap;
  chain = heaps_then;
  weaker = λ s t h. h;
  ends = heaps_then;
  counted = λ s n. record { next = omega arith; heap = λ h. h };
  set = λ s ts. record { next = omega arith; heap = λ h. h };
  wrote = λ s at bs input output. record { next = omega arith; heap = λ h. h };
  made = made_kept;
  unmade = λ s p n e. unmade_kept s p n;
  returned = λ s t f vs h. record { next = h.next; heap = h.heap };
  ended = λ s t f vs h. record { next = h.next; heap = h.heap };
}

pub keeps_the_heap : OfAllCode KeepsTheHeap
keeps_the_heap = of_all_code _ KeepsTheHeap (ends_so IsHeapKept IsHeapKept heaps_laws) (steady IsHeapKept IsHeapKept heaps_laws)
