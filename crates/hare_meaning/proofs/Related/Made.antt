-- A block of the heap made for a new object.
use Rattle.std.proofs.Common.{◌≡◌, ◌≢◌, ℕ, ◌+◌, ◌%◌, ◌^◌, ◌<◌, ◌≤◌, List, [], ◌∷◌, ◌++◌, length, Option, Some, None, refl, ap, sym, ◌∙◌, subst, arith, length-append, ◌⊎◌, inl, inr, Bool, true}
use Rattle.std.specs.Prelude.{slice_get}
use Rattle.std.proofs.lemmas.Option.{slice_get_within}
use Rattle.hx_base.specs.Memory.{round_up, le_bytes, byte_at, is_mapped, map_range}
use Rattle.hx_base.specs.Runtime.{World, new_block, block_size}
use Rattle.hx_base.proofs.Memory.Agreeing.{bytes_at-same}
use Rattle.hx_base.proofs.Memory.Mapped.{is_mapped-map_range_inside, is_mapped-map_range_outside, is_mapped-map_range_stays}
use Rattle.hx_base.proofs.Memory.Numbers.{round_up-reaches}
use Rattle.hx_base.proofs.Memory.Blocks.{block_size-first, block_size-behind, live_bytes-cons}
use Rattle.hare_typed.specs.declared.cell.Cell.{Cell}
use Rattle.hare_typed.specs.Objects.{Object, Heap, extent_of}
use Rattle.hare_typed.specs.State.{State}
use Rattle.hare_meaning.specs.Related.{Standing, At, Temp, Places, IsLive, Covered, Held, Agrees, Match, IsNormal, BytesAre, BlockOf, Ground, Values, objects_in, Related}
use Rattle.hare_meaning.proofs.Related.Cells.{Same, same, other, is_same, Inside, inside, before, behind, inside_of, get_more, get_front, get_end, agrees_on, match_on, IsPlaced}
use Rattle.hare_meaning.proofs.Related.New.{Newer, newest, older, after_more, front_more}
use Rattle.hare_meaning.proofs.Related.Blocks.{with_heap}

-- an address of an old object or of the newest
data WhichOf (ps : Places) (objs : List Object) (x : Object) (b o a : ℕ) : Type 0 where
  old_one : Covered ps objs o a → WhichOf ps objs x b o a
  new_one : o ≡ length objs → (i : ℕ) → i < extent_of x → a ≡ b + i → WhichOf ps objs x b o a

module _ (ground : Ground) where
  -- what a new object of the heap is, whose block is the next one
  pub record FitsNext (ps : Places) (w : World) (x : Object) : Type 0 where
    pub alive : x.alive ≡ true
    pub heap : x.kind ≡ Heap
    pub aligned : w.heap.next % x.align ≡ 0
    pub ends : w.heap.next + extent_of x < 2 ^ 64
    pub holds : (i : ℕ) (c : Cell) → slice_get x.cells i ≡ Some c → Agrees ps c (byte_at w.memory (w.heap.next + i))

  pub made_related : (ps : Places) (s : State) (w : World) (calls : ℕ) (value : Values) (x : Object) → Related ground ps s w calls value →
      FitsNext ps w x →
      Related ground (ps ++ At w.heap.next ∷ [])
      (with_heap s (objects_in s ++ x ∷ []) (s.memory.live + round_up (extent_of x) 16) (s.memory.taken + round_up (extent_of x) 16))
      (new_block w (extent_of x)) calls value
  made_related ps s w calls value x r h = record {
    all = length-append ps (At b ∷ []) ∙ ap (λ z. z + 1) r.all ∙ sym (length-append (objects_in s) (x ∷ []));
    unnamed = r.unnamed;
    standing = λ i p e. front_more ps (At b) p.0 (At p.1) (r.standing i p e);
    mapped = λ o a c. mapped_at o a (which o a c);
    apart = λ o p a c d. apart_at o p a (which o a c) (which p a d);
    placed = λ o a y e at. placed_at o a y (get_more (objects_in s) x o y e) at;
    cells = λ o a i y c l at g. agrees_on ps ps' c (byte_at w.memory (a + i)) (front_more ps (At b))
        (cells_at o a i y c (after_more (objects_in s) x o y l) at g);
    held_cells = λ o c t n signed y l at. held_at o c t n signed y (after_more (objects_in s) x o y l) at;
    held_apart = λ o p c t f g. r.held_apart o p c t (held_old o c t f) (held_old p c t g);
    heap_next = let e = r.heap_next in omega (arith, e);
    heap_above = λ a e. above a (inside_of b n a) e;
    heap_blocks = λ o a y l e at. blocks o a y e (after_more (objects_in s) x o y l) at;
    heap_objects = λ a k e. objects a k (is_same a b) e;
    heap_places = λ o y l e. heap_at o y e (after_more (objects_in s) x o y l);
    heap_apart = (none_yet (block_size w.heap.blocks b) refl, r.heap_apart);
    live = let e = r.live in let f = live_bytes-cons (b, n) w.heap.blocks in omega (arith, e, f);
    fill = r.fill;
    fixed_hold = λ i f e. still i f e (r.fixed_hold i f e);
    fixed_apart = λ i l o f e g c. text i l o f e g (which o (f.0 + l) c);
    input = r.input;
    output = r.output;
    arguments = r.arguments;
  }
    where
      b : ℕ
      b = w.heap.next

      n : ℕ
      n = extent_of x

      ps' : List Standing
      ps' = ps ++ At b ∷ []

      up : n ≤ round_up n 16
      up = round_up-reaches n 16 (omega arith)

      place_old : (o : ℕ) (p : Standing) (y : Object) → slice_get (objects_in s) o ≡ Some y → slice_get ps' o ≡ Some p →
          slice_get ps o ≡ Some p
      place_old o p y live e = pick (get_more ps (At b) o p e)
        where
          pick : (slice_get ps o ≡ Some p) ⊎ ((o ≡ length ps) × (p ≡ At b)) → slice_get ps o ≡ Some p
          pick (inl g) = g
          pick (inr g) = absurd (omega (arith, g.0, r.all, slice_get_within (objects_in s) o y live))

      place_new : (o : ℕ) (p : Standing) → o ≡ length (objects_in s) → slice_get ps' o ≡ Some p → p ≡ At b
      place_new o p e g = let z : slice_get ps' o ≡ Some (At b) = rw (e ∙ sym r.all) (get_end ps (At b)) in cc

      which : (o a : ℕ) → Covered ps' (objects_in s ++ x ∷ []) o a → WhichOf ps (objects_in s) x b o a
      which o a c = pick (after_more (objects_in s) x o c.x c.live)
        where
          pick : Newer (objects_in s) x o c.x → WhichOf ps (objects_in s) x b o a
          pick (newest e f) =
              let z : c.from ≡ b = let g = place_new o (At c.from) e c.at in cc in
              new_one e c.k (subst (λ y. c.k < extent_of y) f c.within) (c.is ∙ ap (λ y. y + c.k) z)
          pick (older l) = old_one record {
            x = c.x;
            from = c.from;
            k = c.k;
            live = l;
            at = place_old o (At c.from) c.x l.0 c.at;
            within =
                c.within;
            is = c.is;
          }

      -- what was covered lies below the block
      below : (o a : ℕ) → Covered ps (objects_in s) o a → a < b
      below o a c = r.heap_above a (r.mapped o a c)

      first : (o a : ℕ) (y : Object) → IsLive (objects_in s) o y → slice_get ps o ≡ Some (At a) → a < b
      first o a y l at = below o a (record { x = y; from = a; k = 0; live = l; at = at; within = omega arith; is = omega arith })

      mapped_at : (o a : ℕ) → WhichOf ps (objects_in s) x b o a → is_mapped (map_range w.memory b n) a ≡ true
      mapped_at o a (old_one c) = is_mapped-map_range_stays w.memory b n a (r.mapped o a c)
      mapped_at o a (new_one e i l f) = rw f (is_mapped-map_range_inside w.memory b n (b + i) (omega arith) (omega arith))

      apart_at : (o p a : ℕ) → WhichOf ps (objects_in s) x b o a → WhichOf ps (objects_in s) x b p a → o ≡ p
      apart_at o p a (old_one c) (old_one d) = r.apart o p a c d
      apart_at o p a (old_one c) (new_one e i l f) = absurd (omega (arith, below o a c))
      apart_at o p a (new_one e i l f) (old_one d) = absurd (omega (arith, below p a d))
      apart_at o p a (new_one e i l f) (new_one g m k q) = e ∙ sym g

      starts : 0 < b
      starts = let e = r.heap_next in omega (arith, e)

      placed_at : (o a : ℕ) (y : Object) → (slice_get (objects_in s) o ≡ Some y) ⊎ ((o ≡ length (objects_in s)) × (y ≡ x)) →
          slice_get ps' o ≡ Some (At a) → IsPlaced a y
      placed_at o a y (inl e) at = r.placed o a y e (place_old o (At a) y e at)
      placed_at o a y (inr e) at = let z : a ≡ b = let g = place_new o (At a) e.0 at in cc in rw (z, e.1) (starts, h.aligned, h.ends)

      cells_at : (o a i : ℕ) (y : Object) (c : Cell) → Newer (objects_in s) x o y → slice_get ps' o ≡ Some (At a) →
          slice_get y.cells i ≡ Some c → Agrees ps c (byte_at w.memory (a + i))
      cells_at o a i y c (newest e f) at g =
          let z : a ≡ b = let q = place_new o (At a) e at in cc in
          rw z (h.holds i c (ap (λ v. slice_get v.cells i) (sym f) ∙ g))
      cells_at o a i y c (older l) at g = r.cells o a i y c l (place_old o (At a) y l.0 at) g

      held_at : (o c t k : ℕ) (signed : Bool) (y : Object) → Newer (objects_in s) x o y → slice_get ps' o ≡ Some (Temp c t k signed) →
          Match ps' y.cells (le_bytes k (value c t)) × IsNormal k signed (value c t) × (c ≤ calls)
      held_at o c t k signed y (newest e f) at = absurd (let g = place_new o (Temp c t k signed) e at in cc)
      held_at o c t k signed y (older l) at =
          let g = r.held_cells o c t k signed y l (place_old o (Temp c t k signed) y l.0 at) in
          (match_on ps ps' y.cells (le_bytes k (value c t)) (front_more ps (At b)) g.0, g.1, g.2)

      held_old : (o c t : ℕ) → Held ps' (objects_in s ++ x ∷ []) o c t → Held ps (objects_in s) o c t
      held_old o c t g = pick (after_more (objects_in s) x o g.x g.live)
        where
          pick : Newer (objects_in s) x o g.x → Held ps (objects_in s) o c t
          pick (newest e f) = absurd (let z = place_new o (Temp c t g.width g.signed) e g.at in cc)
          pick (older l) = record {
            x = g.x;
            width = g.width;
            signed = g.signed;
            live = l;
            at = place_old o (Temp c t g.width g.signed) g.x
                l.0 g.at;
          }

      above : (a : ℕ) → Inside b n a → is_mapped (map_range w.memory b n) a ≡ true → a < b + round_up n 16
      above a (inside k l f) e = omega (arith, up)
      above a (before l) e = omega arith
      above a (behind l) e =
          let was : is_mapped w.memory a ≡ true = sym (is_mapped-map_range_outside w.memory b n a (inr l)) ∙ e in
          let low = r.heap_above a was in
          omega (arith, low)

      blocks : (o a : ℕ) (y : Object) → y.kind ≡ Heap → Newer (objects_in s) x o y → slice_get ps' o ≡ Some (At a) →
          block_size ((b, n) ∷ w.heap.blocks) a ≡ Some (extent_of y)
      blocks o a y e (newest g f) at =
          let z : a ≡ b = let q = place_new o (At a) g at in cc in rw (z, f) (block_size-first b n w.heap.blocks)
      blocks o a y e (older l) at =
          let was = place_old o (At a) y l.0 at in
          let low = first o a y l was in
          let apart : a ≢ b = λ z. absurd (omega (arith, z, low)) in
          block_size-behind b n a w.heap.blocks apart ∙ r.heap_blocks o a y l e was

      objects : (a k : ℕ) → Same a b → block_size ((b, n) ∷ w.heap.blocks) a ≡ Some k → BlockOf ps' (objects_in s ++ x ∷ []) a k
      objects a k (same z) e =
          let f : Some n ≡ Some k = sym (block_size-first b n w.heap.blocks) ∙ ap (block_size ((b, n) ∷ w.heap.blocks)) (sym z) ∙ e in
          let there : slice_get ps' (length (objects_in s)) ≡ Some (At b) = rw (← r.all) (get_end ps (At b)) in
          record {
            o = length (objects_in s);
            x = x;
            live = (get_end (objects_in s) x, h.alive);
            kind = h.heap;
            at = rw z there;
            is = cc;
          }
      objects a k (other z) e =
          let g = r.heap_objects a k (sym (block_size-behind b n a w.heap.blocks z) ∙ e) in
          record {
            o = g.o;
            x = g.x;
            live = (get_front (objects_in s) (x ∷ []) g.o g.x g.live.0, g.live.1);
            kind = g.kind;
            at = front_more ps (At b) g.o (At a) g.at;
            is = g.is;
          }

      heap_at : (o : ℕ) (y : Object) → y.kind ≡ Heap → Newer (objects_in s) x o y → (a : ℕ) × (slice_get ps' o ≡ Some (At a))
      heap_at o y e (newest g f) = (b, let there : slice_get ps' o ≡ Some (At b) = rw (g ∙ sym r.all) (get_end ps (At b)) in there)
      heap_at o y e (older l) = let g = r.heap_places o y l e in (g.0, front_more ps (At b) o (At g.0) g.1)

      none_yet : (k : Option ℕ) → block_size w.heap.blocks b ≡ k → block_size w.heap.blocks b ≡ None
      none_yet None e = e
      none_yet (Some k) e = let g = r.heap_objects b k e in let low = first g.o b g.x g.live g.at in absurd (omega (arith, low))

      -- what is fixed is mapped, and so below the block
      fixed_below : (i l : ℕ) (f : ℕ × List ℕ) → slice_get ground.fixed i ≡ Some f → l < length f.1 → f.0 + l < b
      fixed_below i l f e g = r.heap_above (f.0 + l) ((r.fixed_hold i f e).mapped l g)

      still : (i : ℕ) (f : ℕ × List ℕ) → slice_get ground.fixed i ≡ Some f → BytesAre w.memory f.0 f.1 →
          BytesAre (map_range w.memory b n) f.0 f.1
      still i f e g = record {
        bytes = bytes_at-same w.memory (map_range w.memory b n) f.0 (length f.1) (λ z low high. refl) ∙ g.bytes;
        mapped = λ k l. is_mapped-map_range_stays w.memory b n (f.0 + k) (g.mapped k l);
        ends = g.ends;
      }

      text : (i l o : ℕ) (f : ℕ × List ℕ) → slice_get ground.fixed i ≡ Some f → l < length f.1 →
          WhichOf ps (objects_in s) x b o (f.0 + l) → ⊥
      text i l o f e g (old_one c) = r.fixed_apart i l o f e g c
      text i l o f e g (new_one q m k z) = let low = fixed_below i l f e g in absurd (omega (arith, low))
