-- What is mapped below the heap, from each state to each later one, and what a call maps.
use Rattle.std.proofs.Common.{◌≡◌, ℕ, zero, suc, ◌+◌, ◌-◌, ◌<◌, ◌≤◌, ◌⊎◌, inl, inr, true, false, List, Some, refl, sym, ◌∙◌, subst, arith}
use Rattle.std.proofs.lemmas.Bool.{cases_lt}
use Rattle.hx_base.specs.Memory.{Memory, round_up, byte_at, is_mapped}
use Rattle.hx_base.specs.Runtime.{heap_start, block_size, new_block}
use Rattle.hx_base.proofs.Memory.Mapped.{is_mapped-map_range_inside as map_in, is_mapped-map_range_outside as map_out, is_mapped-unmap_range_inside as unmap_in, is_mapped-unmap_range_outside as unmap_out}
use Rattle.hx_base.proofs.Memory.Numbers.{round_up-reaches}
use Rattle.flat_code.specs.declared.program.FlatFn.{FlatFn}
use Rattle.flat_code.specs.Shape.{code_of}
use Rattle.flat_code.specs.State.{State, Result}
use Rattle.flat_code.specs.Evaluation.{entered, left, framed}
use Rattle.flat_laws.specs.Runs.{OfAllCode}
use Rattle.flat_laws.specs.Frames.{IsEntered, IsLeft, CallsStayApart}
use Rattle.flat_laws.specs.Heaps.{IsHeap, IsHeapKept}
use Rattle.flat_laws.specs.Stacks.{IsClear, IsSameBelow, KeepsTheStack}
use Rattle.flat_laws.proofs.Induction.{Steady, Behind, unmade, steady, of_all_code, ends_so, goes_on_so}
use Rattle.flat_laws.proofs.CountLemmas.{keeps_its_call}
use Rattle.flat_laws.proofs.HeapLemmas.{heaps_laws, block_found}

-- ---- frames

framed_in : (m : Memory) (at n a : ℕ) → at ≤ a → a < at + n → is_mapped (framed m at n) a ≡ true
framed_in m at zero a l u = absurd (omega arith)
framed_in m at (suc n) a l u = map_in m at (suc n) a l u

framed_out : (m : Memory) (at n a : ℕ) → (a < at) ⊎ (at + n ≤ a) → is_mapped (framed m at n) a ≡ is_mapped m a
framed_out m at zero a h = refl
framed_out m at (suc n) a h = map_out m at (suc n) a h

framed_byte : (m : Memory) (at n a : ℕ) → byte_at (framed m at n) a ≡ byte_at m a
framed_byte m at zero a = refl
framed_byte m at (suc n) a = refl

-- ---- what is kept however code ends, and what where it goes on

record Ended (s t : State) : Type 0 where
  heap : IsHeapKept s t
  below : IsHeap s.world.heap → IsSameBelow s t

record Kept (s t : State) : Type 0 where
  heap : IsHeapKept s t
  top : t.top ≡ s.top
  below : IsHeap s.world.heap → IsSameBelow s t
  clear : IsHeap s.world.heap → IsClear s → IsClear t

-- what maps and unmaps nothing below the heap
same_mapped : (s t : State) → IsHeapKept s t → t.top ≡ s.top →
    (IsHeap s.world.heap → (a : ℕ) → a < heap_start → is_mapped t.world.memory a ≡ is_mapped s.world.memory a) → Kept s t
same_mapped s t h e m = record {
  heap = h;
  top = e;
  below = λ i a l u. m i a u;
  clear = λ i c a l u. m i a u ∙ c a (subst (λ (x : ℕ). x ≤ a) e l) u;
}

kept_then : (s t u : State) → Kept s t → Kept t u → Kept s u
kept_then s t u h g = record {
  heap = heaps_laws.chain s t u h.heap g.heap;
  top = g.top ∙ h.top;
  below = λ i a l b. g.below (h.heap.heap i) a (subst (λ (x : ℕ). a < x) (sym h.top) l) b ∙ h.below i a l b;
  clear = λ i c. g.clear (h.heap.heap i) (h.clear i c);
}

ended_then : (s t u : State) → Kept s t → Ended t u → Ended s u
ended_then s t u h g = record {
  heap = heaps_laws.ends s t u h.heap g.heap;
  below = λ i a l b. g.below (h.heap.heap i) a (subst (λ (x : ℕ). a < x) (sym h.top) l) b ∙ h.below i a l b;
}

made_below : (s : State) (size a : ℕ) → IsHeap s.world.heap → a < heap_start →
    is_mapped (new_block s.world size).memory a ≡ is_mapped s.world.memory a
made_below s size a h u = map_out s.world.memory s.world.heap.next size a (inl (omega (arith, h.next, u)))

unmade_below : (s : State) (p n a : ℕ) → block_size s.world.heap.blocks p ≡ Some n → IsHeap s.world.heap → a < heap_start →
    is_mapped (unmade s.world p n).memory a ≡ is_mapped s.world.memory a
unmade_below s p n a e h u =
    let i = block_found s.world.heap.next s.world.heap.blocks p n h.blocks e in
    unmap_out s.world.memory p n a (inl (omega (arith, i.starts, u)))

-- the end of a program within a call
ended_in : (s t : State) (f : FlatFn) (vs : List ℕ) → Ended (entered s f vs) t → Ended s t
ended_in s t f vs h = record {
  heap = record { next = h.heap.next; heap = h.heap.heap };
  below = λ i a l u. h.below i a (omega (arith, l)) u ∙ framed_out s.world.memory s.top f.frame a (inl l);
}

-- a call that has returned
came_back : (s t : State) (f : FlatFn) (vs : List ℕ) → Kept (entered s f vs) t → Kept s (left s t)
came_back s t f vs h = record {
  heap = record { next = h.heap.next; heap = h.heap.heap };
  top = refl;
  below = λ i a l u.
      unmap_out t.world.memory s.top (t.top - s.top) a (inl l)
      ∙ h.below i a (omega (arith, l)) u
      ∙ framed_out s.world.memory s.top f.frame a (inl l);
  clear = λ i c a l u. behind i c a l u (cases_lt a t.top);
}
  where
    size : ℕ
    size = round_up f.frame 16

    top : t.top ≡ s.top + size
    top = h.top

    begins_clear : IsClear s → IsClear (entered s f vs)
    begins_clear c a l u =
        framed_out s.world.memory s.top f.frame a (inr (omega (arith, l, round_up-reaches f.frame 16 (omega arith)))) ∙ c a
        (omega (arith, l)) u

    behind : IsHeap s.world.heap → IsClear s → (a : ℕ) → s.top ≤ a → a < heap_start → (a < t.top) ⊎ (t.top ≤ a) →
        is_mapped (left s t).world.memory a ≡ false
    behind i c a l u (inl x) = unmap_in t.world.memory s.top (t.top - s.top) a l (omega (arith, x, l))
    behind i c a l u (inr x) =
        unmap_out t.world.memory s.top (t.top - s.top) a (inr (omega (arith, x, top))) ∙ h.clear i (begins_clear c) a x u

stack_laws : Steady Kept Ended
stack_laws = record {
  same = λ s. same_mapped s s (heaps_laws.same s) refl (λ i a u. refl);
  chain = kept_then;
  weaker = λ s t h. record { heap = h.heap; below = h.below };
  ends = ended_then;
  counted = λ s n. same_mapped s _ (heaps_laws.counted s n) refl (λ i a u. refl);
  set = λ s ts. same_mapped s _ (heaps_laws.set s ts) refl (λ i a u. refl);
  wrote = λ s at bs input output. same_mapped s _ (heaps_laws.wrote s at bs input output) refl (λ i a u. refl);
  made = λ s size l. same_mapped s _ (heaps_laws.made s size l) refl (λ i a u. made_below s size a i u);
  unmade = λ s p n e. same_mapped s _ (heaps_laws.unmade s p n e) refl (λ i a u. unmade_below s p n a e i u);
  returned = came_back;
  ended = ended_in;
}

-- where nothing was mapped from the top to the heap, the same is mapped
all_same : (s t : State) → IsHeap s.world.heap → IsClear s → Kept s t → (a : ℕ) → a < heap_start → (a < s.top) ⊎ (s.top ≤ a) →
    is_mapped t.world.memory a ≡ is_mapped s.world.memory a
all_same s t i c k a u (inl l) = k.below i a l u
all_same s t i c k a u (inr l) = k.clear i c a (subst (λ (x : ℕ). x ≤ a) (sym k.top) l) u ∙ sym (c a l u)

stack_so : (s : State) (r : Result) → Behind Kept Ended s r.0 r.1 → KeepsTheStack s r
stack_so s r h i = record {
  below = (ends_so Kept Ended stack_laws s r h).below i;
  clear = λ on. (goes_on_so Kept Ended s r h on).clear i;
  same = λ on c a u. all_same s r.1 i c (goes_on_so Kept Ended s r h on) a u (cases_lt a s.top);
}

pub keeps_the_stack : OfAllCode KeepsTheStack
keeps_the_stack = of_all_code _ KeepsTheStack stack_so (steady Kept Ended stack_laws)

-- ---- calls

enters : (s : State) (f : FlatFn) (vs : List ℕ) → IsEntered s f (entered s f vs)
enters s f vs = record {
  frame = refl;
  mapped = λ a l u. framed_in s.world.memory s.top f.frame a l u;
  others = λ a h. framed_out s.world.memory s.top f.frame a h;
  bytes = λ a. framed_byte s.world.memory s.top f.frame a;
  top = refl;
  aligned = λ e. omega (arith, e);
  cost = refl;
  heap = refl;
  input = refl;
  output = refl;
  steps = refl;
}

leaves : (s : State) (f : FlatFn) (t : State) → t.top ≡ s.top + round_up f.frame 16 → IsLeft s f t (left s t)
leaves s f t e = record {
  unmapped = λ a l u. unmap_in t.world.memory s.top (t.top - s.top) a l (rw size u);
  others = λ a h. unmap_out t.world.memory s.top (t.top - s.top) a (rw size h);
  bytes = λ a. refl;
  within = round_up-reaches f.frame 16 (omega arith);
  heap = refl;
  input = refl;
  output = refl;
  steps = refl;
  most = refl;
  call = record { frame = refl; top = refl; cost = refl };
  temps = refl;
}
  where
    size : t.top - s.top ≡ round_up f.frame 16
    size = omega (arith, e)

pub calls_stay_apart : CallsStayApart
calls_stay_apart p n s f vs = record {
  enters = enters s f vs;
  leaves =
      λ on. leaves s f _ (keeps_its_call.body p n (code_of f.body) (entered s f vs) on).top;
}
