-- What goes on beside the objects: writes and ranges that touch none, temporaries that hold none, calls begun and ended.
use Rattle.std.proofs.Common.{◌≡◌, ◌≢◌, ℕ, suc, ◌+◌, ◌-◌, ◌<◌, ◌≤◌, List, length, Some, refl, sym, ◌∙◌, subst, arith, ◌⊎◌, inl, inr, true}
use Rattle.std.specs.Prelude.{slice_get}
use Rattle.hx_base.specs.Memory.{Memory, byte_at, is_mapped, write, map_range, unmap_range, clear_range}
use Rattle.hx_base.specs.Runtime.{World}
use Rattle.hx_base.proofs.Memory.Agreeing.{bytes_at-same}
use Rattle.hx_base.proofs.Memory.Written.{byte_at-write_outside, byte_at-clear_range_outside}
use Rattle.hx_base.proofs.Memory.Mapped.{is_mapped-map_range_stays, is_mapped-map_range_outside, is_mapped-unmap_range_outside, is_mapped-unmap_range_before, is_mapped-clear_range}
use Rattle.hare_typed.specs.Objects.{Object}
use Rattle.hare_typed.specs.State.{State}
use Rattle.hare_meaning.specs.Related.{Places, Covered, Held, BytesAre, Ground, Values, objects_in, Related}
use Rattle.hare_meaning.proofs.Related.Cells.{Inside, inside, before, behind, inside_of}
use Rattle.hare_meaning.proofs.Related.Keeps.{Keeps}

-- the world with another memory
abbrev pub with_memory : World → Memory → World
with_memory w m = record w { memory = m }

module _ (ground : Ground) where
  -- a range that no live object has, and nothing that is fixed
  pub record IsBeside (ps : Places) (objs : List Object) (at n : ℕ) : Type 0 where
    pub free : (o k : ℕ) → k < n → ¬ (Covered ps objs o (at + k))
    pub clear : (i l k : ℕ) (f : ℕ × List ℕ) → slice_get ground.fixed i ≡ Some f → l < length f.1 → k < n → f.0 + l ≢ at + k

  -- ---- memory

  -- another memory that has the same bytes, and those mapped, at what live objects cover and at what is fixed
  pub record AlikeBeside (at n next : ℕ) (m m' : Memory) : Type 0 where
    pub bytes : (a : ℕ) → (a < at) ⊎ (at + n ≤ a) → byte_at m' a ≡ byte_at m a
    pub mapped : (a : ℕ) → (a < at) ⊎ (at + n ≤ a) → is_mapped m a ≡ true → is_mapped m' a ≡ true
    pub above : (a : ℕ) → is_mapped m' a ≡ true → a < next
    pub fill : m'.fill ≡ m.fill

  pub beside_keeps : (ps : Places) (s : State) (w : World) (calls : ℕ) (value : Values) (at n : ℕ) (m' : Memory) →
      Related ground ps s w calls value → IsBeside ps (objects_in s) at n →
      AlikeBeside at n w.heap.next w.memory m' →
      Keeps ground ps (objects_in s) w (with_memory w m') calls calls value value
  beside_keeps ps s w calls value at n m' r h k = record {
    values = λ o c t g. (refl, (r.held_cells o c t g.width g.signed g.x g.live g.at).2);
    mapped = λ o a c. k.mapped a (outside o a c) (r.mapped o a c);
    bytes = λ o a c. k.bytes a (outside o a c);
    fixed_hold = λ i f e. holds i f e (r.fixed_hold i f e);
    above = k.above;
    heap = refl;
    fill = k.fill;
    input = refl;
    output = refl;
    arguments = refl;
  }
    where
      outside : (o a : ℕ) → Covered ps (objects_in s) o a → (a < at) ⊎ (at + n ≤ a)
      outside o a c = pick (inside_of at n a)
        where
          pick : Inside at n a → (a < at) ⊎ (at + n ≤ a)
          pick (inside j l e) = absurd (h.free o j l (subst (λ z. Covered ps (objects_in s) o z) e c))
          pick (before l) = inl l
          pick (behind l) = inr l

      clear_of : (i l : ℕ) (f : ℕ × List ℕ) → slice_get ground.fixed i ≡ Some f → l < length f.1 → (a : ℕ) → f.0 + l ≡ a →
          (a < at) ⊎ (at + n ≤ a)
      clear_of i l f e low a same = pick (inside_of at n a)
        where
          pick : Inside at n a → (a < at) ⊎ (at + n ≤ a)
          pick (inside j g q) = absurd (h.clear i l j f e low g (same ∙ q))
          pick (before g) = inl g
          pick (behind g) = inr g

      holds : (i : ℕ) (f : ℕ × List ℕ) → slice_get ground.fixed i ≡ Some f → BytesAre w.memory f.0 f.1 → BytesAre m' f.0 f.1
      holds i f e g = record {
        bytes =
            bytes_at-same w.memory m' f.0 (length f.1)
            (λ z low high. k.bytes z (clear_of i (z - f.0) f e (omega arith) z (omega arith)))
            ∙ g.bytes;
        mapped = λ l low. k.mapped (f.0 + l) (clear_of i l f e low (f.0 + l) refl) (g.mapped l low);
        ends = g.ends;
      }

  -- bytes are written outside all live objects
  pub wrote_beside : (ps : Places) (s : State) (w : World) (calls : ℕ) (value : Values) (at : ℕ) (bs : List ℕ) →
      Related ground ps s w calls value → IsBeside ps (objects_in s) at (length bs) →
      Keeps ground ps (objects_in s) w (with_memory w (write w.memory at bs)) calls calls value value
  wrote_beside ps s w calls value at bs r h =
      beside_keeps ps s w calls value at (length bs) (write w.memory at bs) r h
      record {
        bytes = λ a out. byte_at-write_outside w.memory at bs a out;
        mapped = λ a out e. e;
        above = λ a e. r.heap_above a e;
        fill = refl;
      }

  -- a range is mapped, below the next block
  pub mapped_beside : (ps : Places) (s : State) (w : World) (calls : ℕ) (value : Values) (at n : ℕ) →
      Related ground ps s w calls value → IsBeside ps (objects_in s) at n → at + n ≤ w.heap.next →
      Keeps ground ps (objects_in s) w (with_memory w (map_range w.memory at n)) calls calls value value
  mapped_beside ps s w calls value at n r h low =
      beside_keeps ps s w calls value at n (map_range w.memory at n) r h
      record {
        bytes = λ a out. refl;
        mapped = λ a out e. is_mapped-map_range_stays w.memory at n a e;
        above = λ a e. above a e (inside_of at n a);
        fill = refl;
      }
    where
      above : (a : ℕ) → is_mapped (map_range w.memory at n) a ≡ true → Inside at n a → a < w.heap.next
      above a e (inside k l f) = omega arith
      above a e (before l) = r.heap_above a (sym (is_mapped-map_range_outside w.memory at n a (inl l)) ∙ e)
      above a e (behind l) = r.heap_above a (sym (is_mapped-map_range_outside w.memory at n a (inr l)) ∙ e)

  -- a range is unmapped
  pub unmapped_beside : (ps : Places) (s : State) (w : World) (calls : ℕ) (value : Values) (at n : ℕ) →
      Related ground ps s w calls value → IsBeside ps (objects_in s) at n →
      Keeps ground ps (objects_in s) w (with_memory w (unmap_range w.memory at n)) calls calls value value
  unmapped_beside ps s w calls value at n r h =
      beside_keeps ps s w calls value at n (unmap_range w.memory at n) r h
      record {
        bytes = λ a out. refl;
        mapped = λ a out e. is_mapped-unmap_range_outside w.memory at n a out ∙ e;
        above = λ a e. r.heap_above a (is_mapped-unmap_range_before w.memory at n a e);
        fill = refl;
      }

  -- a range holds the fill byte again
  pub cleared_beside : (ps : Places) (s : State) (w : World) (calls : ℕ) (value : Values) (at n : ℕ) →
      Related ground ps s w calls value → IsBeside ps (objects_in s) at n →
      Keeps ground ps (objects_in s) w (with_memory w (clear_range w.memory at n)) calls calls value value
  cleared_beside ps s w calls value at n r h =
      beside_keeps ps s w calls value at n (clear_range w.memory at n) r h
      record {
        bytes = λ a out. byte_at-clear_range_outside w.memory at n a out;
        mapped = λ a out e. is_mapped-clear_range w.memory at n a ∙ e;
        above = λ a e. r.heap_above a (sym (is_mapped-clear_range w.memory at n a) ∙ e);
        fill = refl;
      }

  -- ---- temporaries and calls

  -- other values of temporaries and another number of calls, where each temporary that holds an object has its value and its call is under
  -- way
  pub values_keep : (ps : Places) (s : State) (w : World) (calls calls' : ℕ) (value value' : Values) → Related ground ps s w calls value →
      ((o c t : ℕ) → Held ps (objects_in s) o c t → (value' c t ≡ value c t) × (c ≤ calls')) →
      Keeps ground ps (objects_in s) w w calls calls' value value'
  values_keep ps s w calls calls' value value' r h = record {
    values = h;
    mapped = r.mapped;
    bytes = λ o a c. refl;
    fixed_hold = r.fixed_hold;
    above = r.heap_above;
    heap = refl;
    fill = refl;
    input = refl;
    output = refl;
    arguments = refl;
  }

  -- the call of a temporary that holds an object is under way
  under_way : (ps : Places) (s : State) (w : World) (calls : ℕ) (value : Values) (o c t : ℕ) → Related ground ps s w calls value →
      Held ps (objects_in s) o c t → c ≤ calls
  under_way ps s w calls value o c t r g = (r.held_cells o c t g.width g.signed g.x g.live g.at).2

  -- temporaries are set that hold nothing
  pub set_beside : (ps : Places) (s : State) (w : World) (calls : ℕ) (value value' : Values) → Related ground ps s w calls value →
      ((o c t : ℕ) → Held ps (objects_in s) o c t → value' c t ≡ value c t) →
      Keeps ground ps (objects_in s) w w calls calls value value'
  set_beside ps s w calls value value' r h =
      values_keep ps s w calls calls value value' r (λ o c t g. (h o c t g, under_way ps s w calls value o c t r g))

  -- a call begins: its temporaries hold anything, and those of the calls under way are as they were
  pub begun_keeps : (ps : Places) (s : State) (w : World) (calls : ℕ) (value value' : Values) → Related ground ps s w calls value →
      ((c t : ℕ) → c ≤ calls → value' c t ≡ value c t) →
      Keeps ground ps (objects_in s) w w calls (suc calls) value value'
  begun_keeps ps s w calls value value' r h =
      values_keep ps s w calls (suc calls) value value' r
      (λ o c t g. let below = under_way ps s w calls value o c t r g in (h c t below, omega (arith, below)))

  -- a call ends, of which no temporary holds an object any more
  pub ended_keeps : (ps : Places) (s : State) (w : World) (calls : ℕ) (value value' : Values) →
      Related ground ps s w (suc calls) value → ((o t : ℕ) → ¬ (Held ps (objects_in s) o (suc calls) t)) →
      ((c t : ℕ) → c ≤ calls → value' c t ≡ value c t) →
      Keeps ground ps (objects_in s) w w (suc calls) calls value value'
  ended_keeps ps s w calls value value' r empty h =
      values_keep ps s w (suc calls) calls value value' r
      (λ o c t g.
      let below = under_way ps s w (suc calls) value o c t r g in
      let apart : c ≢ suc calls = λ e. empty o t (subst (λ z. Held ps (objects_in s) o z t) e g) in
      let still : c ≤ calls = omega (arith, below, apart) in
      (h c t still, still))
