-- A store into a live object, and a load from one.
use Rattle.std.proofs.Common.{◌≡◌, ℕ, ◌+◌, ◌-◌, ◌<◌, ◌≤◌, List, length, Some, refl, ap, sym, ◌∙◌, subst, arith, inl, inr, Bool, true}
use Rattle.std.specs.Prelude.{slice_get, slice_set}
use Rattle.std.proofs.lemmas.Option.{slice_get_within}
use Rattle.hx_base.specs.Memory.{le_bytes, byte_at, is_mapped, all_mapped, bytes_at, write}
use Rattle.hx_base.specs.Runtime.{World, block_size}
use Rattle.hx_base.proofs.Memory.Ranges.{all_mapped-from}
use Rattle.hx_base.proofs.Memory.Agreeing.{bytes_at-same}
use Rattle.hx_base.proofs.Memory.Written.{byte_at-write_outside, byte_at-write_inside}
use Rattle.hare_typed.specs.declared.cell.Cell.{Cell}
use Rattle.hare_typed.specs.Cells.{with_cells, cells_within}
use Rattle.hare_typed.specs.Objects.{Object, Heap, extent_of}
use Rattle.hare_typed.specs.State.{State}
use Rattle.hare_meaning.specs.Related.{At, Temp, Places, IsLive, Covered, Agrees, Match, IsNormal, BytesAre, BlockOf, Ground, Values, objects_in, Related}
use Rattle.hare_meaning.proofs.Related.Cells.{Same, same, other, is_same, Inside, inside, before, behind, inside_of, get_set, get_set_other, length_set, with_cells-length, with_cells-before, with_cells-behind, with_cells-at, cells_within-at, length-cells_within, match_length, match_get, match_bytes, Now, changed, as_before, after_set, at_is, live_covers, extent-same, placed_set, covered_back, held_back}

-- the state with other objects
abbrev pub with_made : State → List Object → State
with_made s os = record s { memory = record s.memory { objects = record s.memory.objects { made = os } } }

module _ (ground : Ground) where
  -- a store through a pointer
  pub store_related : (ps : Places) (s : State) (w : World) (calls : ℕ) (value : Values) (o d a : ℕ) (x : Object) (cs : List Cell)
      (bs : List ℕ) → Related ground ps s w calls value → IsLive (objects_in s) o x → slice_get ps o ≡ Some (At a) →
      d + length cs ≤ length x.cells → Match ps cs bs →
      Related ground ps (with_made s (slice_set (objects_in s) o (record x { cells = with_cells d cs x.cells })))
      (record w { memory = write w.memory (a + d) bs }) calls value
  store_related ps s w calls value o d a x cs bs r live at bound ma = record {
    all = r.all ∙ sym (length_set (objects_in s) o x');
    unnamed = r.unnamed;
    standing = r.standing;
    mapped = λ p q c. r.mapped p q (back p q c);
    apart = λ p q e c f. r.apart p q e (back p e c) (back q e f);
    placed = placed_set ps (objects_in s) o x x' live.0 (with_cells-length x.cells d cs) refl r.placed;
    cells = λ p q i y c l g e. cells p q i y c g e (after_set (objects_in s) o x x' p y live.0 l);
    held_cells = λ p c t n signed y l g. held p c t n signed y g (after_set (objects_in s) o x x' p y live.0 l);
    held_apart = λ p q c t f g. r.held_apart p q c t (held_back ps (objects_in s) o x x' live p c t f)
        (held_back ps (objects_in s) o x x' live q c t g);
    heap_next = r.heap_next;
    heap_above = r.heap_above;
    heap_blocks = λ p q y l e g. blocks p q y e g (after_set (objects_in s) o x x' p y live.0 l);
    heap_objects = λ q n e. objects q n (r.heap_objects q n e);
    heap_places = λ p y l e. stands p y e (after_set (objects_in s) o x x' p y live.0 l);
    heap_apart = r.heap_apart;
    live = r.live;
    fill = r.fill;
    fixed_hold = λ i f e. text i f e (r.fixed_hold i f e);
    fixed_apart = λ i l p f e h c. r.fixed_apart i l p f e h (back p (f.0 + l) c);
    input = r.input;
    output = r.output;
    arguments = r.arguments;
  }
    where
      x' : Object
      x' = record x { cells = with_cells d cs x.cells }

      len : length cs ≡ length bs
      len = match_length ps cs bs ma

      same_extent : extent_of x' ≡ extent_of x
      same_extent = extent-same x x' (with_cells-length x.cells d cs)

      back : (p q : ℕ) → Covered ps (slice_set (objects_in s) o x') p q → Covered ps (objects_in s) p q
      back p q c = covered_back ps (objects_in s) o x x' live same_extent p q c

      written : (i : ℕ) → i < length bs → Covered ps (objects_in s) o (a + d + i)
      written i l = subst (λ z. Covered ps (objects_in s) o z) (omega arith)
          (live_covers ps (objects_in s) o a (d + i) x live at (omega (arith, len)))

      -- an address of another object, or of fixed bytes, is not written
      untouched : (z : ℕ) → ¬ (Covered ps (objects_in s) o z) → byte_at (write w.memory (a + d) bs) z ≡ byte_at w.memory z
      untouched z n = pick (inside_of (a + d) (length bs) z)
        where
          pick : Inside (a + d) (length bs) z → byte_at (write w.memory (a + d) bs) z ≡ byte_at w.memory z
          pick (inside i l e) = absurd (n (subst (λ y. Covered ps (objects_in s) o y) (sym e) (written i l)))
          pick (before l) = byte_at-write_outside w.memory (a + d) bs z (inl l)
          pick (behind l) = byte_at-write_outside w.memory (a + d) bs z (inr l)

      own : (i : ℕ) (c : Cell) → slice_get (with_cells d cs x.cells) i ≡ Some c → Inside d (length cs) i →
          Agrees ps c (byte_at (write w.memory (a + d) bs) (a + i))
      own i c e (inside l h f) =
          let g : slice_get cs l ≡ Some c = sym (with_cells-at x.cells d cs l h bound) ∙ ap (slice_get (with_cells d cs x.cells)) (sym f) ∙
          e in
          let b = match_get ps cs bs l c ma g in
          let z : a + i ≡ a + d + l = omega arith in
          let v : byte_at (write w.memory (a + d) bs) (a + i) ≡ b.0 =
          ap (byte_at (write w.memory (a + d) bs)) z ∙ byte_at-write_inside w.memory (a + d) bs l b.0 b.1 in
          rw v b.2
      own i c e (before h) = rw (byte_at-write_outside w.memory (a + d) bs (a + i) (inl (omega arith)))
          (r.cells o a i x c live at (sym (with_cells-before x.cells d cs i h) ∙ e))
      own i c e (behind h) = rw (byte_at-write_outside w.memory (a + d) bs (a + i) (inr (omega (arith, len))))
          (r.cells o a i x c live at (sym (with_cells-behind x.cells d cs i h) ∙ e))

      cells : (p q i : ℕ) (y : Object) (c : Cell) → slice_get ps p ≡ Some (At q) → slice_get y.cells i ≡ Some c →
          Now (objects_in s) o x' p y → Agrees ps c (byte_at (write w.memory (a + d) bs) (q + i))
      cells p q i y c g e (changed f h) =
          let z : a ≡ q = at_is a q (sym at ∙ ap (slice_get ps) (sym f) ∙ g) in
          let e' : slice_get (with_cells d cs x.cells) i ≡ Some c = ap (λ v. slice_get v.cells i) (sym h) ∙ e in
          rw (← z) (own i c e' (inside_of d (length cs) i))
      cells p q i y c g e (as_before n l) =
          let mine = live_covers ps (objects_in s) p q i y l g (slice_get_within y.cells i c e) in
          rw (untouched (q + i) (λ v. n (r.apart p o (q + i) mine v))) (r.cells p q i y c l g e)

      held : (p c t n : ℕ) (signed : Bool) (y : Object) → slice_get ps p ≡ Some (Temp c t n signed) → Now (objects_in s) o x' p y →
          Match ps y.cells (le_bytes n (value c t)) × IsNormal n signed (value c t) × (c ≤ calls)
      held p c t n signed y g (changed f h) =
          absurd (let z : slice_get ps o ≡ Some (Temp c t n signed) = ap (slice_get ps) (sym f) ∙ g in cc)
      held p c t n signed y g (as_before m l) = r.held_cells p c t n signed y l g

      blocks : (p q : ℕ) (y : Object) → y.kind ≡ Heap → slice_get ps p ≡ Some (At q) → Now (objects_in s) o x' p y →
          block_size w.heap.blocks q ≡ Some (extent_of y)
      blocks p q y e g (changed f h) =
          let z = r.heap_blocks p q x (subst (λ z. IsLive (objects_in s) z x) (sym f) live) (ap (λ v. v.kind) (sym h) ∙ e) g in
          let ex : extent_of y ≡ extent_of x = ap extent_of h ∙ same_extent in
          rw ex z
      blocks p q y e g (as_before n l) = r.heap_blocks p q y l e g

      stands : (p : ℕ) (y : Object) → y.kind ≡ Heap → Now (objects_in s) o x' p y → (q : ℕ) × (slice_get ps p ≡ Some (At q))
      stands p y e (changed f h) = (a, subst (λ z. slice_get ps z ≡ Some (At a)) (sym f) at)
      stands p y e (as_before n l) = r.heap_places p y l e

      objects : (q n : ℕ) → BlockOf ps (objects_in s) q n → BlockOf ps (slice_set (objects_in s) o x') q n
      objects q n b = pick (is_same b.o o)
        where
          pick : Same b.o o → BlockOf ps (slice_set (objects_in s) o x') q n
          pick (same e) =
              let g : slice_get (objects_in s) o ≡ Some b.x = subst (λ z. slice_get (objects_in s) z ≡ Some b.x) e b.live.0 in
              let f : x ≡ b.x = let y = live.0 in cc in
              record {
                o = o;
                x = x';
                live = (get_set (objects_in s) o x' x live.0, live.1);
                kind = ap (λ v. v.kind) f ∙ b.kind;
                at = subst
                    (λ z. slice_get ps z ≡ Some (At q)) e b.at;
                is = b.is ∙ sym (ap extent_of f) ∙ sym same_extent;
              }
          pick (other m) = record {
            o = b.o;
            x = b.x;
            live = (get_set_other (objects_in s) o b.o x' (λ e. m (sym e)) ∙ b.live.0, b.live.1);
            kind = b.kind;
            at = b.at;
            is = b.is;
          }

      text : (i : ℕ) (f : ℕ × List ℕ) → slice_get ground.fixed i ≡ Some f → BytesAre w.memory f.0 f.1 →
          BytesAre (write w.memory (a + d) bs) f.0 f.1
      text i f e h = record {
        bytes =
            bytes_at-same w.memory (write w.memory (a + d) bs) f.0 (length f.1)
            (λ z low high. untouched z (λ c.
            let same : f.0 + (z - f.0) ≡ z = omega arith in
            r.fixed_apart i (z - f.0) o f e (omega arith) (subst (λ y. Covered ps (objects_in s) o y) (sym same) c)))
            ∙ h.bytes;
        mapped = h.mapped;
        ends = h.ends;
      }

  -- a load
  pub load_matches : (ps : Places) (s : State) (w : World) (calls : ℕ) (value : Values) (o d a n : ℕ) (x : Object) →
      Related ground ps s w calls value → IsLive (objects_in s) o x → slice_get ps o ≡ Some (At a) → d + n ≤ length x.cells →
      Match ps (cells_within d n x.cells) (bytes_at w.memory (a + d) n) × (all_mapped w.memory (a + d) n ≡ true)
  load_matches ps s w calls value o d a n x r live at bound =
      let got : (k : ℕ) (c : Cell) → slice_get (cells_within d n x.cells) k ≡ Some c → Agrees ps c (byte_at w.memory (a + d + k)) = λ k c e.
      let l : k < n = subst (λ z. k < z) (length-cells_within x.cells d n bound) (slice_get_within (cells_within d n x.cells) k c e) in
      subst (λ z. Agrees ps c (byte_at w.memory z)) (omega arith)
      (r.cells o a (d + k) x c live at (sym (cells_within-at x.cells d n k l bound) ∙ e))
      in
      let ma = match_bytes ps w.memory (cells_within d n x.cells) (a + d) got in (
        subst (λ z. Match ps (cells_within d n x.cells) (bytes_at w.memory (a + d) z)) (length-cells_within x.cells d n bound) ma,
        all_mapped-from w.memory (a + d) n (λ z low high.
            let same : a + (z - a) ≡ z = omega arith in
            subst (λ y. is_mapped w.memory y ≡ true) same
            (r.mapped o (a + (z - a)) (live_covers ps (objects_in s) o a (z - a) x live at (omega arith)))),
      )
