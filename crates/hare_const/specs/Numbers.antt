-- The numbers that constants are: of integers and runes themselves, and of bools 0 for false and 1 for true.
use Rattle.std.specs.Prelude.{ℕ, ℤ, List, Option, Some, None, option_and_then}
use Rattle.std.specs.List.{filter_map}
use Rattle.hare_types.specs.Store.{Store}
use Rattle.hare_types.specs.declared.coercion.Ty.{Ty}
use Rattle.hare_types.specs.declared.coercion.Ty.TheVariants as ty
use Rattle.hare_typed.specs.declared.cell.Cell.{Cell}
use Rattle.hare_typed.specs.declared.cell.Cell.TheVariants as cell
use Rattle.hare_typed.specs.declared.constant.Const.{Const}
use Rattle.hare_typed.specs.declared.constant.Const.TheVariants as constant
use Rattle.hare_typed.specs.Scalars.{Scalar, Number, Pointing, Shape, spelled}
use Rattle.hare_typed.specs.Shapes.{shape_at}

-- the byte that a cell is
abbrev pub byte_in : Cell → Option ℕ
byte_in (cell.Byte b) = Some b
byte_in (cell.Fragment o d k) = None
byte_in cell.Undef = None

abbrev pub number_of_scalar : Option Scalar → Option ℤ
number_of_scalar (Some (Number v)) = Some v
number_of_scalar (Some (Pointing p)) = None
number_of_scalar None = None

-- the number that cells spell at the shape, where there is one
abbrev pub number_by : Option Shape → List Cell → Option ℤ
number_by o cs = number_of_scalar (option_and_then (λ shape. spelled shape cs) o)

-- the number that a constant of the type is; none where its cells are no number of the type
abbrev pub number_of : Store → ℕ → Const → Option ℤ
number_of s t constant.Absent = None
number_of s t (constant.Known cs os) = number_by (shape_at s t) cs

-- the same, where the constant has a type of the store
abbrev pub number_in : Store → Ty → Const → Option ℤ
number_in s (ty.Of t) c = number_of s t c
number_in s (ty.Iconst v) c = None
number_in s ty.Null c = None
number_in s ty.Empty c = None

-- the numbers that constants of the type are, in their order
abbrev pub numbers_of : Store → ℕ → List Const → List ℤ
numbers_of s t cs = filter_map (number_of s t) cs
