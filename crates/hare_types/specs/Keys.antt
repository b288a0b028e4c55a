-- When two rows are one key of the store, and what is hashed of a row.
use Rattle.std.specs.Prelude.{pos, Bool, false, ◌&&◌, ◌==◌, nat_eq, ◌++◌}
use Rattle.std.specs.Cmp.Lexicographic.{pointwise}
use Rattle.std.specs.Hash as fed
use denote.Enum.Bare.{sameb}
use denote.Enum.Declared.{tag_of}
use Rattle.hare_types.specs.declared.lists.Field.{Field}
use Rattle.hare_types.specs.declared.row.Row.{Row}
use Rattle.hare_types.specs.declared.row.Row.TheVariants as row
use Rattle.hare_types.specs.declared.row.Scalar.{Scalar}
use Rattle.hare_types.specs.contracts.row.Scalar.{the_type}

abbrev pub scalar_eq : Scalar → Scalar → Bool
scalar_eq = sameb the_type

abbrev pub field_eq : Field → Field → Bool
field_eq a b = (a.name == b.name) && (a.ty == b.ty)

-- rows are equal where their kinds and all their parts are
abbrev pub row_eq : Row → Row → Bool
row_eq (row.Scalar a) (row.Scalar b) = scalar_eq a b
row_eq (row.Pointer a) (row.Pointer b) = a == b
row_eq (row.Nullable a) (row.Nullable b) = a == b
row_eq (row.Slice a) (row.Slice b) = a == b
row_eq (row.Array m a) (row.Array n b) = (m == n) && (a == b)
row_eq (row.Struct a) (row.Struct b) = pointwise field_eq a b
row_eq (row.Tuple a) (row.Tuple b) = pointwise nat_eq a b
row_eq (row.Union a) (row.Union b) = pointwise nat_eq a b
row_eq (row.Error a) (row.Error b) = a == b
row_eq (row.Named a) (row.Named b) = a == b
row_eq _ _ = false

abbrev pub field_writes : Field → fed.HashWrites
field_writes a = fed.u32 a.name ++ fed.u32 a.ty

-- the kind, and then the parts
abbrev pub row_writes : Row → fed.HashWrites
row_writes (row.Scalar a) = fed.u8 0 ++ fed.isize (pos (tag_of the_type a))
row_writes (row.Pointer a) = fed.u8 1 ++ fed.u32 a
row_writes (row.Nullable a) = fed.u8 2 ++ fed.u32 a
row_writes (row.Slice a) = fed.u8 3 ++ fed.u32 a
row_writes (row.Array n a) = fed.u8 4 ++ fed.u64 n ++ fed.u32 a
row_writes (row.Struct a) = fed.u8 5 ++ fed.slice field_writes a
row_writes (row.Tuple a) = fed.u8 6 ++ fed.slice fed.u32 a
row_writes (row.Union a) = fed.u8 7 ++ fed.slice fed.u32 a
row_writes (row.Error a) = fed.u8 8 ++ fed.u32 a
row_writes (row.Named a) = fed.u8 9 ++ fed.u32 a
