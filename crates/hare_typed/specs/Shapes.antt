-- Which types are scalar, and what the types of operands say.
use Rattle.std.specs.Prelude.{ℕ, ◌*◌, true, false, Option, Some, None, option_map, option_and_then, unwrap_or}
use Rattle.hare_types.specs.declared.row.Row.{Row}
use Rattle.hare_types.specs.declared.row.Row.TheVariants as row
use Rattle.hare_types.specs.declared.row.Scalar.{Scalar as Keyword}
use Rattle.hare_types.specs.declared.row.Scalar.TheVariants as keyword
use Rattle.hare_types.specs.declared.coercion.Ty.{Ty}
use Rattle.hare_types.specs.declared.coercion.Ty.TheVariants as kept
use Rattle.hare_types.specs.Store.{Store}
use Rattle.hare_types.specs.ByIds.{align_at}
use Rattle.hare_typed.specs.Given.{base_row}
use Rattle.hare_typed.specs.Scalars.{Shape, Whole, Truth, Reference, Nullable}
use Rattle.hare_typed.specs.Arithmetic.{IntType}

-- ---- the shape of a scalar type

-- int, uint, size and their kin, runes, bools and void; strings are no scalars, and never and opaque have no values
abbrev pub shape_of_word : Keyword → Option Shape
shape_of_word keyword.Void = Some (Whole 0 false)
shape_of_word keyword.Never = None
shape_of_word keyword.Opaque = None
shape_of_word keyword.Bool = Some Truth
shape_of_word keyword.Rune = Some (Whole 4 false)
shape_of_word keyword.Str = None
shape_of_word keyword.I8 = Some (Whole 1 true)
shape_of_word keyword.I16 = Some (Whole 2 true)
shape_of_word keyword.I32 = Some (Whole 4 true)
shape_of_word keyword.I64 = Some (Whole 8 true)
shape_of_word keyword.U8 = Some (Whole 1 false)
shape_of_word keyword.U16 = Some (Whole 2 false)
shape_of_word keyword.U32 = Some (Whole 4 false)
shape_of_word keyword.U64 = Some (Whole 8 false)
shape_of_word keyword.Int = Some (Whole 4 true)
shape_of_word keyword.Uint = Some (Whole 4 false)
shape_of_word keyword.Size = Some (Whole 8 false)

abbrev pub shape_of_row : Row → Option Shape
shape_of_row (row.Scalar k) = shape_of_word k
shape_of_row (row.Pointer i) = Some Reference
shape_of_row (row.Nullable i) = Some Nullable
shape_of_row (row.Slice i) = None
shape_of_row (row.Array n i) = None
shape_of_row (row.Struct fs) = None
shape_of_row (row.Tuple is) = None
shape_of_row (row.Union is) = None
shape_of_row (row.Error i) = None
shape_of_row (row.Named d) = None

-- the shape of a type, where it is scalar: its base is an integer type, rune, bool, pointer, nullable or void
abbrev pub shape_at : Store → ℕ → Option Shape
shape_at s t = option_and_then shape_of_row (base_row s (kept.Of t))

-- ---- types of operands

-- the bits of a whole number of the shape; asked only of one that is such
abbrev pub int_of_shape : Shape → IntType
int_of_shape (Whole n sign) = record { bits = 8 * n; signed = sign }
int_of_shape Truth = record { bits = 8; signed = false }
int_of_shape Reference = record { bits = 64; signed = false }
int_of_shape Nullable = record { bits = 64; signed = false }

-- the integer type that is the base of the type; asked only where there is one, or a rune
abbrev pub int_at : Store → ℕ → IntType
int_at s t = unwrap_or (option_map int_of_shape (shape_at s t)) (record { bits = 0; signed = false })

-- at which alignment a value of the type stands; an untyped whole number, null and an array of no items have none
abbrev pub align_in : Store → Ty → ℕ
align_in s (kept.Of t) = align_at s t
align_in s (kept.Iconst v) = 1
align_in s kept.Null = 1
align_in s kept.Empty = 1
