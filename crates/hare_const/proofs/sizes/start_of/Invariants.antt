use Rattle.std.proofs.Common.{◌≡◌, ◌-◌, ◌*◌, ◌≤◌, List, Some, drop}
use Rattle.hare_types.specs.declared.extent.Extent.{Extent}
use Rattle.hare_types.specs.ByIds.{extent_at}
use Rattle.hare_types.specs.Kept.{all_known}
use Rattle.hare_types.specs.Layout.{field_start}
use Rattle.hare_typed.specs.Sizes.{parts_in}
use Rattle.hare_const.proofs.sizes.start_of.Given as goal

-- from the end of the parts so far the others begin where they do from the start
abbrev pub invariant-loop-i : goal.invariant-loop-i
invariant-loop-i l =
    record {
      end : l.end ≤ l.i * 2199023255552;
      value : (xs : List Extent) → all_known (extent_at l.s) (parts_in l.row) ≡ Some xs
          → (ys : List Extent) × (all_known (extent_at l.s) (drop l.i (parts_in l.row)) ≡ Some ys) × (field_start l.end ys (l.k - l.i)
          ≡ field_start 0 xs l.k);
    }
