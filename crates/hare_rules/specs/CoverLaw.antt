-- What the row on the cover of a `switch` comes to: each value of the operand's type is listed by a case, or a case stands for all others.
use Rattle.std.specs.Prelude.{◌≡◌, ◌↔◌, ℕ, ℤ, true, List, Option, Some, IsTrue}
use Rattle.std.specs.List.{IsDistinct}
use Rattle.std.specs.Ordering.{int_eq}
use Rattle.hare_types.specs.declared.coercion.Ty.TheVariants as ty
use Rattle.hare_types.specs.declared.row.Row.{Row}
use Rattle.hare_typed.specs.Cover.{range_of, ListsAll, SwitchCovers}
use Rattle.hare_rules.specs.declared.row_id.RowId.TheVariants as row
use Rattle.hare_rules.specs.Context.{Context, store_of}
use Rattle.hare_rules.specs.Constants.{lists_range, switched, has_default_case, switch_values}
use Rattle.hare_rules.specs.Rows.{holds}

-- Values that all differ are as many as a type has just where each value of the type is one of them.
abbrev pub CountsCover : Type 0
CountsCover = (r : Option Row) (vs : List ℤ) → IsDistinct int_eq vs → IsTrue (lists_range (range_of r) vs) ↔ ListsAll (range_of r) vs

-- Where no value stands twice, the row says of a `switch` by a type just that its cases cover the type.
abbrev pub SwitchIsCovered : Type 0
SwitchIsCovered =
    (c : Context) (t : ℕ)
    → switched c ≡ Some t
    → holds row.SwitchDistinct c ≡ true
    → IsTrue (holds row.SwitchCovered c) ↔ SwitchCovers (store_of c) (ty.Of t) (has_default_case c) (switch_values c)
