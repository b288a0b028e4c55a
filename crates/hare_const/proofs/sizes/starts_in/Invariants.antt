use Rattle.std.proofs.Common.{◌≡◌, ◌≤◌, ◌++◌, List, Some, drop}
use Rattle.hare_types.specs.declared.extent.Extent.{Extent}
use Rattle.hare_types.specs.ByIds.{extent_at}
use Rattle.hare_types.specs.Kept.{all_known}
use Rattle.hare_typed.specs.Sizes.{parts_in}
use Rattle.hare_const.proofs.SizeLemmas.{field_starts}
use Rattle.hare_const.proofs.sizes.starts_in.Given as goal

-- the starts so far, and those of the parts that are left
abbrev pub invariant-loop-i : goal.invariant-loop-i
invariant-loop-i l =
    record {
      end : l.end ≤ 134217728;
      value : (xs : List Extent) → all_known (extent_at l.s) (parts_in l.row) ≡ Some xs
          → (ys : List Extent) × (all_known (extent_at l.s) (drop l.i (parts_in l.row)) ≡ Some ys)
          × (l.starts.items ++ field_starts l.end ys ≡ field_starts 0 xs);
    }
