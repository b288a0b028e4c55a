-- What touches no object keeps the relation: other temporaries, bytes and ranges that no live object covers, a call begun or ended.
use Rattle.std.proofs.Common.{◌≡◌, ℕ, ◌+◌, ◌<◌, ◌≤◌, List, Some, ap, sym, ◌∙◌, subst, true}
use Rattle.std.specs.Prelude.{slice_get}
use Rattle.std.proofs.lemmas.Option.{slice_get_within}
use Rattle.hx_base.specs.Memory.{byte_at, is_mapped}
use Rattle.hx_base.specs.Runtime.{World, live_bytes, block_size}
use Rattle.hare_typed.specs.Objects.{Object}
use Rattle.hare_typed.specs.State.{State}
use Rattle.hare_meaning.specs.Related.{Places, Covered, Held, BytesAre, AreApart, Ground, Values, objects_in, Related}
use Rattle.hare_meaning.proofs.Related.Cells.{live_covers}

-- the state with other ticks and another measure of the stack
abbrev pub counted : State → (ticks stack : ℕ) → State
counted s j k = record s { ticks = j; memory = record s.memory { stack = k } }

module _ (ground : Ground) where
  -- what the flat side may do beside the objects: other temporaries, bytes and ranges that no live object has, a call begun or ended
  pub record Keeps (ps : Places) (objs : List Object) (w w' : World) (calls calls' : ℕ) (value value' : Values) : Type 0 where
    pub values : (o c t : ℕ) → Held ps objs o c t → (value' c t ≡ value c t) × (c ≤ calls')
    pub mapped : (o a : ℕ) → Covered ps objs o a → is_mapped w'.memory a ≡ true
    pub bytes : (o a : ℕ) → Covered ps objs o a → byte_at w'.memory a ≡ byte_at w.memory a
    pub fixed_hold : (i : ℕ) (f : ℕ × List ℕ) → slice_get ground.fixed i ≡ Some f → BytesAre w'.memory f.0 f.1
    pub above : (a : ℕ) → is_mapped w'.memory a ≡ true → a < w'.heap.next
    pub heap : w'.heap ≡ w.heap
    pub fill : w'.memory.fill ≡ w.memory.fill
    pub input : w'.input ≡ w.input
    pub output : w'.output ≡ w.output
    pub arguments : w'.arguments ≡ w.arguments

  pub keeps_related : (ps : Places) (s : State) (w w' : World) (calls calls' j k : ℕ) (value value' : Values) →
      Related ground ps s w calls value → Keeps ps (objects_in s) w w' calls calls' value value' →
      Related ground ps (counted s j k) w' calls' value'
  keeps_related ps s w w' calls calls' j k value value' r h = record {
    all = r.all;
    unnamed = r.unnamed;
    standing = r.standing;
    mapped = h.mapped;
    apart = r.apart;
    placed = r.placed;
    cells = λ o a i x c l at g. rw (h.bytes o (a + i) (live_covers ps (objects_in s) o a i x l at (slice_get_within x.cells i c g)))
        (r.cells o a i x c l at g);
    held_cells = λ o c t n signed x l at.
        let v = h.values o c t (record { x = x; width = n; signed = signed; live = l; at = at }) in
        let m = r.held_cells o c t n signed x l at in
        rw v.0 (m.0, m.1, v.1);
    held_apart = r.held_apart;
    heap_next = ap (λ z. z.next) h.heap ∙ r.heap_next;
    heap_above = h.above;
    heap_blocks = λ o a x l e at. ap (λ z. block_size z.blocks a) h.heap ∙ r.heap_blocks o a x l e at;
    heap_objects = λ a n e. r.heap_objects a n (ap (λ z. block_size z.blocks a) (sym h.heap) ∙ e);
    heap_places = r.heap_places;
    heap_apart = subst (λ z. AreApart z.blocks) (sym h.heap) r.heap_apart;
    live = r.live ∙ ap (λ z. live_bytes z.blocks) (sym h.heap);
    fill = h.fill ∙ r.fill;
    fixed_hold = h.fixed_hold;
    fixed_apart = r.fixed_apart;
    input = r.input ∙ sym h.input;
    output = r.output ∙ sym h.output;
    arguments = h.arguments ∙ r.arguments;
  }
