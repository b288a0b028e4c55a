-- What the types of nodes are made of: the base of a type, and what it holds.
use Rattle.std.specs.Prelude.{ℕ, zero, suc, Bool, true, false, List, length, Option, Some, None, option_and_then}
use Rattle.hare_types.specs.declared.coercion.Ty.{Ty}
use Rattle.hare_types.specs.declared.coercion.Ty.TheVariants as ty
use Rattle.hare_types.specs.declared.row.Row.{Row}
use Rattle.hare_types.specs.declared.row.Row.TheVariants as row
use Rattle.hare_types.specs.declared.row.Scalar.TheVariants as word
use Rattle.hare_types.specs.Assign.{IsIn}
use Rattle.hare_types.specs.Store.{Store}
use Rattle.hare_types.specs.ByIds.{row_at, base_at, members_at, size_at}
use Rattle.hare_typed.specs.Typed.{TypedNode, TypedNodes, marked, typed_none, typed_more, mark_of}
use Rattle.hare_typed.specs.Order.{missing}

-- ---- the types that nodes have

-- the type of what a node gives to the node above it: the one that its coercion gives
abbrev pub given : TypedNode → Ty
given t = (mark_of t).coerce.to

-- what the first and the second of some kids give
abbrev pub first_given : TypedNodes → Ty
first_given typed_none = given missing
first_given (typed_more t ts) = given t

abbrev pub second_given : TypedNodes → Ty
second_given typed_none = given missing
second_given (typed_more t ts) = first_given ts

-- each type that stands in the tree is in the store
abbrev mutual
  pub TypesIn : Store → TypedNode → Type 0
  TypesIn s (marked h m ts) = IsIn s m.ty × IsIn s m.coerce.to × TypesInEach s ts

  pub TypesInEach : Store → TypedNodes → Type 0
  TypesInEach s typed_none = Unit {0}
  TypesInEach s (typed_more t ts) = TypesIn s t × TypesInEach s ts

-- ---- bases

-- The row of the base of a type, names and error marks followed. A whole number without a suffix, null and the empty array have no type.
abbrev pub base_row : Store → Ty → Option Row
base_row s (ty.Of t) = option_and_then (row_at s) (base_at s t)
base_row s (ty.Iconst v) = None
base_row s ty.Null = None
base_row s ty.Empty = None

abbrev pub is_str_row : Option Row → Bool
is_str_row (Some (row.Scalar word.Str)) = true
is_str_row _ = false

-- whether the base of a type is str
abbrev pub is_str : Store → Ty → Bool
is_str s t = is_str_row (base_row s t)

abbrev pub count_of : Option (List ℕ) → ℕ
count_of None = 0
count_of (Some is) = length is

-- how many members the union has that is the base of a type; none where it is no union
abbrev pub members_in : Store → Ty → ℕ
members_in s (ty.Of t) = count_of (members_at s t)
members_in s (ty.Iconst v) = 0
members_in s ty.Null = 0
members_in s ty.Empty = 0

-- the size of a type in bytes; none where it has no size
abbrev pub size_in : Store → Ty → ℕ
size_in s (ty.Of t) = size_at s t
size_in s (ty.Iconst v) = 0
size_in s ty.Null = 0
size_in s ty.Empty = 0

-- ---- pointers

abbrev pub pointee_in : Option Row → Option ℕ
pointee_in (Some (row.Pointer i)) = Some i
pointee_in _ = None

-- to what a type points, where its base is a pointer that is never null
abbrev pub pointee : Store → Ty → Option ℕ
pointee s t = pointee_in (base_row s t)

-- one pointer, where there is one, and those that are followed from what it points to
abbrev pub one_more : (Ty → ℕ) → Option ℕ → ℕ
one_more rest None = 0
one_more rest (Some i) = suc (rest (ty.Of i))

-- how many pointers are followed from a type, at most so many
abbrev pub followed_within : ℕ → Store → Ty → ℕ
followed_within zero s t = 0
followed_within (suc n) s t = one_more (followed_within n s) (pointee s t)

-- how many pointers an element, a field or a slice is taken through: at most 16
abbrev pub followed : Store → Ty → ℕ
followed = followed_within 16

-- ---- elements

abbrev pub element_in : Option Row → Option ℕ
element_in (Some (row.Slice i)) = Some i
element_in (Some (row.Array n i)) = Some i
element_in _ = None

-- the type of the elements, where the base of a type is an array or a slice
abbrev pub element : Store → Ty → Option ℕ
element s t = element_in (base_row s t)
