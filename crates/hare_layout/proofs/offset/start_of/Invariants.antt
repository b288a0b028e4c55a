use Rattle.std.proofs.Common.{◌≡◌, ◌-◌, ◌*◌, ◌≤◌, List, Some, drop, map}
use Rattle.hare_types.specs.declared.extent.Extent.{Extent}
use Rattle.hare_types.specs.ByIds.{extent_at}
use Rattle.hare_types.specs.Kept.{told, parts_of, all_known}
use Rattle.hare_types.specs.Layout.{field_start}
use Rattle.hare_layout.proofs.offset.start_of.Given as goal

abbrev pub invariant-loop-i : goal.invariant-loop-i
invariant-loop-i l =
    record {
      end : l.end ≤ l.i * 2199023255552;
      value : (xs : List Extent) → all_known (extent_at l.s) (parts_of l.row) ≡ Some xs
          → (ys : List Extent) × (all_known (extent_at l.s) (drop l.i (parts_of l.row)) ≡ Some ys)
          × (field_start l.end (map told ys) (l.k - l.i) ≡ field_start 0 (map told xs) l.k);
    }
