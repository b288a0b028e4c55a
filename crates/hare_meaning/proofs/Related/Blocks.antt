-- Blocks of the heap: one made for a new object, and one freed.
use Rattle.std.proofs.Common.{◌≡◌, ◌≢◌, ℕ, ◌+◌, ◌-◌, ◌<◌, ◌≤◌, List, length, Some, None, refl, ap, sym, ◌∙◌, subst, arith, ◌⊎◌, inl, inr, true, false}
use Rattle.std.specs.Prelude.{slice_get, slice_set}
use Rattle.std.proofs.lemmas.Option.{slice_get_within}
use Rattle.hx_base.specs.Memory.{Memory, byte_at, is_mapped}
use Rattle.hx_base.specs.Runtime.{World, live_bytes, block_size}
use Rattle.hx_base.proofs.Memory.Agreeing.{bytes_at-same}
use Rattle.hx_base.proofs.Memory.Written.{byte_at-clear_range_outside}
use Rattle.hx_base.proofs.Memory.Mapped.{is_mapped-unmap_range_outside, is_mapped-unmap_range_before, is_mapped-clear_range}
use Rattle.hx_base.proofs.Memory.Blocks.{block_size-without_other, block_size-without_same, without_block-apart, live_bytes-without}
use Rattle.hare_typed.specs.declared.cell.Cell.{Cell}
use Rattle.hare_typed.specs.Objects.{Object, Heap, extent_of}
use Rattle.hare_typed.specs.State.{State}
use Rattle.hare_meaning.specs.Related.{At, Places, IsLive, Covered, Held, Agrees, BytesAre, BlockOf, Ground, Values, objects_in, Related}
use Rattle.hare_meaning.proofs.Related.Cells.{Same, same, other, is_same, Inside, inside, before, behind, inside_of, get_set_other, length_set, Now, changed, as_before, after_set, at_is, live_covers, placed_set}
use Rattle.hx_base.specs.Memory.{round_up, unmap_range, clear_range}
use Rattle.hx_base.specs.Runtime.{without_block}
use Rattle.hare_typed.specs.Objects.{killed}

-- the state with other objects, and so many bytes of the heap alive and ever taken
abbrev pub with_heap : State → List Object → (live taken : ℕ) → State
with_heap s os live taken =
    record s {
      memory = record s.memory { objects = record s.memory.objects { made = os }; live = live; taken = taken };
    }

-- the world with a block less: its bytes are not mapped any more, and hold the fill byte
abbrev pub without : World → (at bytes : ℕ) → World
without w a n =
    record w {
      memory = clear_range (unmap_range w.memory a n) a n;
      heap = record { next = w.heap.next; blocks = without_block w.heap.blocks a };
    }

module _ (ground : Ground) where
  -- a heap object is freed: it dies, and its block is given back
  pub freed_related : (ps : Places) (s : State) (w : World) (calls : ℕ) (value : Values) (o a live : ℕ) (x : Object) →
      Related ground ps s w calls value → IsLive (objects_in s) o x → x.kind ≡ Heap → slice_get ps o ≡ Some (At a) →
      live + round_up (extent_of x) 16 ≡ s.memory.live →
      Related ground ps (with_heap s (slice_set (objects_in s) o (killed x)) live s.memory.taken) (without w a (extent_of x)) calls value
  freed_related ps s w calls value o a live x r there heap at less = record {
    all = r.all ∙ sym (length_set (objects_in s) o (killed x));
    unnamed = r.unnamed;
    standing = r.standing;
    mapped = λ p q c. still_mapped p q c;
    apart = λ p q e c d. r.apart p q e (back p e c) (back q e d);
    placed = placed_set ps (objects_in s) o x (killed x) there.0 refl refl r.placed;
    cells = λ p q i y c l g e. same_cell p q i y c l g e;
    held_cells = λ p c t n signed y l g. r.held_cells p c t n signed y (was p y l) g;
    held_apart = λ p q c t f g. r.held_apart p q c t (held p c t f) (held q c t g);
    heap_next = r.heap_next;
    heap_above = λ q e. r.heap_above q (is_mapped-unmap_range_before w.memory a (extent_of x) q
        (sym (is_mapped-clear_range (unmap_range w.memory a (extent_of x)) a (extent_of x) q) ∙ e));
    heap_blocks = λ p q y l e g. block p q y l e g;
    heap_places = λ p y l e. r.heap_places p y (was p y l) e;
    heap_objects = λ q n e. object q n e (is_same a q);
    heap_apart = without_block-apart w.heap.blocks a r.heap_apart;
    live = counted_less;
    fixed_hold = λ i f e. still_holds i f e (r.fixed_hold i f e);
    fixed_apart = λ i k p f e l c. r.fixed_apart i k p f e l (back p (f.0 + k) c);
    fill = r.fill;
    input = r.input;
    output = r.output;
    arguments = r.arguments;
  }
    where
      objs' : List Object
      objs' = slice_set (objects_in s) o (killed x)

      was : (p : ℕ) (y : Object) → IsLive objs' p y → IsLive (objects_in s) p y
      was p y l = pick (after_set (objects_in s) o x (killed x) p y there.0 l)
        where
          pick : Now (objects_in s) o (killed x) p y → IsLive (objects_in s) p y
          pick (changed e f) = absurd (let never : false ≡ true = ap (λ v. v.alive) (sym f) ∙ l.1 in cc)
          pick (as_before n g) = g

      -- what lives now is another object
      another : (p : ℕ) (y : Object) → IsLive objs' p y → p ≢ o
      another p y l e = pick (after_set (objects_in s) o x (killed x) p y there.0 l)
        where
          pick : Now (objects_in s) o (killed x) p y → ⊥
          pick (changed f g) = absurd (let never : false ≡ true = ap (λ v. v.alive) (sym g) ∙ l.1 in cc)
          pick (as_before n g) = n e

      back : (p q : ℕ) → Covered ps objs' p q → Covered ps (objects_in s) p q
      back p q c = record { x = c.x; from = c.from; k = c.k; live = was p c.x c.live; at = c.at; within = c.within; is = c.is }

      held : (p c t : ℕ) → Held ps objs' p c t → Held ps (objects_in s) p c t
      held p c t g = record { x = g.x; width = g.width; signed = g.signed; live = was p g.x g.live; at = g.at }

      -- the block was covered by the object
      own : (k : ℕ) → k < extent_of x → Covered ps (objects_in s) o (a + k)
      own k l = record { x = x; from = a; k = k; live = there; at = at; within = l; is = refl }

      -- what another object covers, and what is fixed, lies outside
      outside : (q : ℕ) → ¬ (Covered ps (objects_in s) o q) → (q < a) ⊎ (a + extent_of x ≤ q)
      outside q n = pick (inside_of a (extent_of x) q)
        where
          pick : Inside a (extent_of x) q → (q < a) ⊎ (a + extent_of x ≤ q)
          pick (inside k l e) = absurd (n (subst (λ z. Covered ps (objects_in s) o z) (sym e) (own k l)))
          pick (before l) = inl l
          pick (behind l) = inr l

      others : (p q : ℕ) → Covered ps objs' p q → ¬ (Covered ps (objects_in s) o q)
      others p q c d = another p c.x c.live (r.apart p o q (back p q c) d)

      m' : Memory
      m' = clear_range (unmap_range w.memory a (extent_of x)) a (extent_of x)

      mapped_out : (q : ℕ) → (q < a) ⊎ (a + extent_of x ≤ q) → is_mapped m' q ≡ is_mapped w.memory q
      mapped_out q h =
          is_mapped-clear_range (unmap_range w.memory a (extent_of x)) a (extent_of x) q
          ∙ is_mapped-unmap_range_outside w.memory a (extent_of x) q h

      byte_out : (q : ℕ) → (q < a) ⊎ (a + extent_of x ≤ q) → byte_at m' q ≡ byte_at w.memory q
      byte_out q h = byte_at-clear_range_outside (unmap_range w.memory a (extent_of x)) a (extent_of x) q h

      still_mapped : (p q : ℕ) → Covered ps objs' p q → is_mapped m' q ≡ true
      still_mapped p q c = mapped_out q (outside q (others p q c)) ∙ r.mapped p q (back p q c)

      same_cell : (p q i : ℕ) (y : Object) (c : Cell) → IsLive objs' p y → slice_get ps p ≡ Some (At q) → slice_get y.cells i ≡ Some c →
          Agrees ps c (byte_at m' (q + i))
      same_cell p q i y c l g e =
          let mine = live_covers ps objs' p q i y l g (slice_get_within y.cells i c e) in
          rw (byte_out (q + i) (outside (q + i) (others p (q + i) mine))) (r.cells p q i y c (was p y l) g e)

      -- no other heap object begins at the block
      elsewhere : (p q : ℕ) (y : Object) → IsLive objs' p y → slice_get ps p ≡ Some (At q) → a ≢ q
      elsewhere p q y l g e =
          let first : q ≡ q + 0 = omega arith in
          let mine : Covered ps objs' p q = record { x = y; from = q; k = 0; live = l; at = g; within = omega arith; is = first } in
          let start : a + 0 ≡ q = omega arith in
          others p q mine (subst (λ z. Covered ps (objects_in s) o z) start (own 0 (omega arith)))

      block : (p q : ℕ) (y : Object) → IsLive objs' p y → y.kind ≡ Heap → slice_get ps p ≡ Some (At q) →
          block_size (without_block w.heap.blocks a) q ≡ Some (extent_of y)
      block p q y l e g = block_size-without_other w.heap.blocks a q (elsewhere p q y l g) ∙ r.heap_blocks p q y (was p y l) e g

      object : (q n : ℕ) → block_size (without_block w.heap.blocks a) q ≡ Some n → Same a q → BlockOf ps objs' q n
      object q n e (same f) =
          absurd (let none : block_size (without_block w.heap.blocks a) q ≡
          None = subst (λ z. block_size (without_block w.heap.blocks a) z ≡ None) f
          (block_size-without_same w.heap.blocks a r.heap_apart) in cc)
      object q n e (other f) =
          let b = r.heap_objects q n (sym (block_size-without_other w.heap.blocks a q f) ∙ e) in
          let apart : b.o ≢ o = λ g.
          let here : slice_get ps o ≡ Some (At q) = subst (λ z. slice_get ps z ≡ Some (At q)) g b.at in
          f (at_is a q (sym at ∙ here))
          in
          record {
            o = b.o;
            x = b.x;
            live = (get_set_other (objects_in s) o b.o (killed x) (λ g. apart (sym g)) ∙ b.live.0, b.live.1);
            kind = b.kind;
            at = b.at;
            is = b.is;
          }

      counted_less : live ≡ live_bytes (without_block w.heap.blocks a)
      counted_less =
          let rest = live_bytes-without w.heap.blocks a (extent_of x) (r.heap_blocks o a x there heap at) in
          omega (arith, rest, r.live, less)

      still_holds : (i : ℕ) (f : ℕ × List ℕ) → slice_get ground.fixed i ≡ Some f → BytesAre w.memory f.0 f.1 → BytesAre m' f.0 f.1
      still_holds i f e h = record {
        bytes = bytes_at-same w.memory m' f.0 (length f.1) (λ z low high. byte_out z (outside z (clear z low high))) ∙ h.bytes;
        mapped = λ k l. mapped_out (f.0 + k) (outside (f.0 + k) (r.fixed_apart i k o f e l)) ∙ h.mapped k l;
        ends = h.ends;
      }
        where
          clear : (z : ℕ) → f.0 ≤ z → z < f.0 + length f.1 → ¬ (Covered ps (objects_in s) o z)
          clear z low high c =
              let at_z : f.0 + (z - f.0) ≡ z = omega arith in
              r.fixed_apart i (z - f.0) o f e (omega arith) (subst (λ y. Covered ps (objects_in s) o y) (sym at_z) c)
