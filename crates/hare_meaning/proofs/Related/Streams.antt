-- Output put out, and input taken.
use Rattle.std.proofs.Common.{ℕ, List, ◌++◌, ap, drop}
use Rattle.hx_base.specs.Runtime.{World}
use Rattle.hare_typed.specs.State.{State}
use Rattle.hare_meaning.specs.Related.{Places, Ground, Values, Related}

module _ (ground : Ground) where
  pub said_related : (ps : Places) (s : State) (w : World) (calls : ℕ) (value : Values) (bs : List ℕ) → Related ground ps s w calls value →
      Related ground ps (record s { output = s.output ++ bs }) (record w { output = w.output ++ bs }) calls value
  said_related ps s w calls value bs r = record {
    all = r.all;
    unnamed = r.unnamed;
    standing = r.standing;
    mapped = r.mapped;
    apart = r.apart;
    placed = r.placed;
    cells = r.cells;
    held_cells = r.held_cells;
    held_apart = r.held_apart;
    heap_next = r.heap_next;
    heap_above = r.heap_above;
    heap_blocks = r.heap_blocks;
    heap_places = r.heap_places;
    heap_objects = r.heap_objects;
    heap_apart = r.heap_apart;
    live = r.live;
    fixed_hold = r.fixed_hold;
    fixed_apart = r.fixed_apart;
    fill = r.fill;
    input = r.input;
    output = ap (λ z. z ++ bs) r.output;
    arguments = r.arguments;
  }

  pub taken_related : (ps : Places) (s : State) (w : World) (calls : ℕ) (value : Values) (n : ℕ) → Related ground ps s w calls value →
      Related ground ps (record s { input = drop n s.input }) (record w { input = drop n w.input }) calls value
  taken_related ps s w calls value n r = record {
    all = r.all;
    unnamed = r.unnamed;
    standing = r.standing;
    mapped = r.mapped;
    apart = r.apart;
    placed = r.placed;
    cells = r.cells;
    held_cells = r.held_cells;
    held_apart = r.held_apart;
    heap_next = r.heap_next;
    heap_above = r.heap_above;
    heap_blocks = r.heap_blocks;
    heap_places = r.heap_places;
    heap_objects = r.heap_objects;
    heap_apart = r.heap_apart;
    live = r.live;
    fixed_hold = r.fixed_hold;
    fixed_apart = r.fixed_apart;
    fill = r.fill;
    input = ap (λ z. drop n z) r.input;
    output = r.output;
    arguments = r.arguments;
  }
