-- Which member a value becomes, worked out over a store.
use Rattle.std.proofs.Common.{◌≡◌, ℕ, true, [], ◌∷◌, Some, None, Option, refl}
use Rattle.std.specs.Prelude.{pos}
use Rattle.hare_types.specs.declared.coercion.Coercion.{Coercion}
use Rattle.hare_types.specs.declared.coercion.Ty.TheVariants.{Of, Iconst, Null, Empty}
use Rattle.hare_types.specs.declared.row.Row.TheVariants as row
use Rattle.hare_types.specs.declared.row.Scalar.TheVariants as keyword
use Rattle.hare_types.specs.Store.{Store}
use Rattle.hare_assign.specs.Chosen.{chosen}

abbrev u8 : ℕ
u8 = 0

abbrev str : ℕ
str = 1

abbrev int : ℕ
int = 2

abbrev u16 : ℕ
u16 = 3

-- `nullable *u8`
abbrev nullable_u8 : ℕ
nullable_u8 = 4

-- `[]u8`
abbrev slice_u8 : ℕ
slice_u8 = 5

-- `*u8`
abbrev to_u8 : ℕ
to_u8 = 6

-- `[3]u8`
abbrev three_u8 : ℕ
three_u8 = 7

-- `(u8 | str)`
abbrev u8_or_str : ℕ
u8_or_str = 8

-- `(u8 | int)`
abbrev u8_or_int : ℕ
u8_or_int = 9

-- `(u8 | u16)`
abbrev u8_or_u16 : ℕ
u8_or_u16 = 10

-- `(nullable *u8 | []u8)`
abbrev nullable_or_slice : ℕ
nullable_or_slice = 11

-- `(u8 | str | int)`
abbrev three : ℕ
three = 12

-- `!(u8 | str)`
abbrev marked : ℕ
marked = 13

-- `type n = (u8 | str);`
abbrev n : ℕ
n = 14

-- `(u8 | str | n)`
abbrev with_n : ℕ
with_n = 15

abbrev s : Store
s = record {
  names = [];
  rows =
      row.Scalar keyword.U8 ∷ row.Scalar keyword.Str ∷ row.Scalar keyword.Int ∷ row.Scalar keyword.U16 ∷ row.Nullable u8 ∷ row.Slice u8 ∷
      row.Pointer u8 ∷ row.Array 3 u8
      ∷ row.Union (u8 ∷ str ∷ []) ∷ row.Union (u8 ∷ int ∷ []) ∷ row.Union (u8 ∷ u16 ∷ []) ∷ row.Union (nullable_u8 ∷ slice_u8 ∷ []) ∷
      row.Union (u8 ∷ str ∷ int ∷ [])
      ∷ row.Error u8_or_str ∷ row.Named 0 ∷ row.Union (u8 ∷ str ∷ n ∷ []) ∷ [];
  declared = (0, record { sized = true; definition = Some u8_or_str }) ∷ [];
  listed = [];
}

-- by the row with this number, to this member
abbrev by_row : ℕ → ℕ → Option Coercion
by_row r m = Some (record { row = r; to = Of m })

five_in_u8 : chosen s (Iconst (pos 5)) u8_or_str ≡ by_row 3 u8
five_in_u8 = refl

five_in_int : chosen s (Iconst (pos 5)) u8_or_int ≡ by_row 3 int
five_in_int = refl

five_in_neither : chosen s (Iconst (pos 5)) u8_or_u16 ≡ None
five_in_neither = refl

only_the_wider : chosen s (Iconst (pos 300)) u8_or_u16 ≡ by_row 3 u16
only_the_wider = refl

too_many : chosen s (Iconst (pos 300)) u8_or_str ≡ None
too_many = refl

own_type : chosen s (Of str) u8_or_str ≡ by_row 1 str
own_type = refl

own_type_of_three : chosen s (Of str) three ≡ by_row 1 str
own_type_of_three = refl

behind_a_mark : chosen s (Of str) marked ≡ by_row 1 str
behind_a_mark = refl

behind_a_name : chosen s (Iconst (pos 5)) n ≡ by_row 3 u8
behind_a_name = refl

null_in_a_pointer : chosen s Null nullable_or_slice ≡ by_row 6 nullable_u8
null_in_a_pointer = refl

pointer_in_nullable : chosen s (Of to_u8) nullable_or_slice ≡ by_row 5 nullable_u8
pointer_in_nullable = refl

array_in_a_slice : chosen s (Of three_u8) nullable_or_slice ≡ by_row 7 slice_u8
array_in_a_slice = refl

empty_in_a_slice : chosen s Empty nullable_or_slice ≡ by_row 7 slice_u8
empty_in_a_slice = refl

-- a value of a union keeps its member
part_of_three : chosen s (Of u8_or_str) three ≡ None
part_of_three = refl

-- but where its own type is a member, it becomes that one
named_part : chosen s (Of n) with_n ≡ by_row 1 n
named_part = refl

-- no union
no_union : chosen s (Of u8) u8 ≡ None
no_union = refl
