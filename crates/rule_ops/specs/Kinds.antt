-- The kinds of nodes that are judged here, and the rows that they ask beside the two that all kinds share.
use Rattle.std.specs.Prelude.{ℕ, Bool, true, false, cond, List, is_some}
use Rattle.hare_types.specs.declared.coercion.Ty.{Ty}
use Rattle.hare_rules.specs.Words.{are_iconsts}
use Rattle.hare_rules.specs.Exact.{exact_of}
use Rattle.hare_tree.specs.declared.kind.Kind.{Kind}
use Rattle.hare_tree.specs.declared.kind.Kind.TheVariants as ki
use Rattle.hare_rules.specs.declared.row_id.RowId.{RowId}
use Rattle.hare_rules.specs.declared.row_id.RowId.TheVariants as row

-- literals, operators, casts, sizes, and parentheses
abbrev pub is_operator : Kind → Bool
is_operator ki.Number = true
is_operator ki.Str = true
is_operator ki.RuneLit = true
is_operator ki.Bool = true
is_operator ki.Null = true
is_operator ki.Void = true
is_operator ki.Neg = true
is_operator ki.Not = true
is_operator ki.Bang = true
is_operator ki.Arith = true
is_operator ki.Shift = true
is_operator ki.Less = true
is_operator ki.Equal = true
is_operator ki.Logic = true
is_operator ki.OpAssign = true
is_operator ki.Cast = true
is_operator ki.Size = true
is_operator ki.Align = true
is_operator ki.Paren = true
is_operator _ = false

abbrev pub is_operator_row : RowId → Bool
is_operator_row row.NumberFits = true
is_operator_row row.UnaryInteger = true
is_operator_row row.UnaryRange = true
is_operator_row row.BangBoolean = true
is_operator_row row.ArithCommon = true
is_operator_row row.ArithRange = true
is_operator_row row.ShiftIntegers = true
is_operator_row row.ShiftRange = true
is_operator_row row.ShiftLeftDefault = true
is_operator_row row.LessOrdered = true
is_operator_row row.EqualComparable = true
is_operator_row row.OpAssignPlace = true
is_operator_row row.OpAssignMutable = true
is_operator_row row.OpAssignFitting = true
is_operator_row row.CastCastable = true
is_operator_row row.MeasureHasSize = true
is_operator_row _ = false

-- where both operands are whole numbers without a suffix, the operator gives one
abbrev pub in_range_of : Kind → List ℕ → Ty → Ty → Bool
in_range_of k sign a b = cond (are_iconsts a b) (is_some (exact_of k sign a b)) true
