-- The shapes of scalar types as the crate has them.
use Rattle.std.specs.Prelude.{◌≤◌}
use Rattle.hare_typed.specs.Scalars as spec
use Rattle.hare_const.specs.declared.shape.Shape.{Shape}
use Rattle.hare_const.specs.declared.shape.Shape.TheVariants as shape

abbrev pub shape_of : Shape → spec.Shape
shape_of (shape.Whole n signed) = spec.Whole n signed
shape_of shape.Truth = spec.Truth
shape_of shape.Reference = spec.Reference
shape_of shape.Nullable = spec.Nullable

-- no number has more than eight bytes
abbrev pub IsNarrow : Shape → Type 0
IsNarrow (shape.Whole n signed) = n ≤ 8
IsNarrow shape.Truth = Unit {0}
IsNarrow shape.Reference = Unit {0}
IsNarrow shape.Nullable = Unit {0}
