-- What typing rules ask of types, by their ids in one store. A type of an expression is an id, or one of the three that have none: a whole
-- number without a suffix, `null`, and an array of no items. Those three have no base, no size and no members.
use Rattle.std.specs.Prelude.{ℕ, ℤ, Bool, true, false, cond, ◌&&◌, ◌||◌, nat_eq, List, [], ◌∷◌, filter, find, Option, Some, None, is_some, option_map, option_and_then}
use Rattle.hare_types.specs.declared.coercion.Ty.{Ty}
use Rattle.hare_types.specs.declared.coercion.Ty.TheVariants as ty
use Rattle.hare_types.specs.declared.row.Row.{Row}
use Rattle.hare_types.specs.declared.row.Row.TheVariants as row
use Rattle.hare_types.specs.declared.row.Scalar.{Scalar as Keyword}
use Rattle.hare_types.specs.declared.row.Scalar.TheVariants as keyword
use Rattle.hare_types.specs.Keys.{scalar_eq}
use Rattle.hare_types.specs.Store.{Store}
use Rattle.hare_types.specs.ByIds.{row_at, is_error_at, members_at}
use Rattle.hare_types.specs.Unions.{id_of, union_of}
use Rattle.hare_types.specs.Assign.{signed, holds, wider, default_word, coercion}
use Rattle.hare_typed.specs.Given.{base_row}

-- ---- reading a type

-- the id of a type, where it has one
abbrev pub id_in : Ty → Option ℕ
id_in (ty.Of t) = Some t
id_in (ty.Iconst v) = None
id_in ty.Null = None
id_in ty.Empty = None

-- the row of the type itself, names and error marks not followed
abbrev pub row_in : Store → Ty → Option Row
row_in s a = option_and_then (row_at s) (id_in a)

-- the id of a type that is written by one word
abbrev pub word_id : Store → Keyword → Option ℕ
word_id s k = id_of s (row.Scalar k)

-- a type with this id, where there is one
abbrev pub typed_as : Option ℕ → Option Ty
typed_as = option_map ty.Of

-- ---- what a row is

abbrev pub word_of : Option Row → Option Keyword
word_of (Some (row.Scalar k)) = Some k
word_of _ = None

abbrev pub is_word : Keyword → Option Row → Bool
is_word k (Some (row.Scalar l)) = scalar_eq k l
is_word k _ = false

-- the type to which a pointer leads that may be null
abbrev pub nullable_pointee : Option Row → Option ℕ
nullable_pointee (Some (row.Nullable t)) = Some t
nullable_pointee _ = None

-- the element of an array
abbrev pub array_element : Option Row → Option ℕ
array_element (Some (row.Array n t)) = Some t
array_element _ = None

abbrev pub array_length : Option Row → Option ℕ
array_length (Some (row.Array n t)) = Some n
array_length _ = None

-- the types of the components of a tuple
abbrev pub components : Option Row → Option (List ℕ)
components (Some (row.Tuple ts)) = Some ts
components _ = None

abbrev pub is_tagged_row : Option Row → Bool
is_tagged_row (Some (row.Union ts)) = true
is_tagged_row (Some (row.Nullable t)) = true
is_tagged_row _ = false

-- a union, or a pointer that may be null
abbrev pub is_tagged : Store → Ty → Bool
is_tagged s a = is_tagged_row (base_row s a)

-- the members of the union that is its base
abbrev pub members_in : Store → Ty → Option (List ℕ)
members_in s a = option_and_then (members_at s) (id_in a)

abbrev pub is_among : ℕ → List ℕ → Bool
is_among t ts = is_some (find (nat_eq t) ts)

-- ---- integers

abbrev pub integer_word_of : Option Keyword → Option Keyword
integer_word_of None = None
integer_word_of (Some k) = cond (is_some (signed k)) (Some k) None

-- the word of the integer type that is its base
abbrev pub integer_word : Store → Ty → Option Keyword
integer_word s a = integer_word_of (word_of (base_row s a))

abbrev pub has_integer_base : Store → Ty → Bool
has_integer_base s a = is_some (integer_word s a)

abbrev pub is_iconst : Ty → Bool
is_iconst (ty.Iconst v) = true
is_iconst (ty.Of t) = false
is_iconst ty.Null = false
is_iconst ty.Empty = false

-- an integer type as its base, or a whole number without a suffix
abbrev pub is_integer : Store → Ty → Bool
is_integer s a = is_iconst a || has_integer_base s a

abbrev pub are_iconsts : Ty → Ty → Bool
are_iconsts a b = is_iconst a && is_iconst b

abbrev pub holds_in : Option Keyword → ℤ → Bool
holds_in None v = false
holds_in (Some k) v = holds k v

-- both are unnamed integer types of one signedness, the second strictly wider
abbrev pub wider_word : Option Keyword → Option Keyword → Bool
wider_word (Some a) (Some b) = wider a b
wider_word _ _ = false

abbrev pub widens : Store → Ty → Ty → Bool
widens s a b = wider_word (word_of (row_in s a)) (word_of (row_in s b))

-- ---- equality, defaults, common types

abbrev pub same_id : Option ℕ → Option ℕ → Bool
same_id (Some t) (Some u) = nat_eq t u
same_id _ _ = false

-- both are types, and one type
abbrev pub is_same_type : Ty → Ty → Bool
is_same_type a b = same_id (id_in a) (id_in b)

-- whether a value of it has a default type: int or i64 for a whole number that fits, and any type is its own
abbrev pub has_default : Ty → Bool
has_default (ty.Of t) = true
has_default (ty.Iconst v) = is_some (default_word v)
has_default ty.Null = false
has_default ty.Empty = false

-- the id of that default
abbrev pub default_in : Store → Ty → Option ℕ
default_in s (ty.Of t) = Some t
default_in s (ty.Iconst v) = option_and_then (word_id s) (default_word v)
default_in s ty.Null = None
default_in s ty.Empty = None

-- What two operands have in common: a type to which both go, or that both are whole numbers without a suffix.
pub data Common : Type 0 where
  Typed : ℕ → Common
  Exact : Common

abbrev pub common_of_types : Store → ℕ → ℕ → Option Common
common_of_types s t u =
    cond (nat_eq t u && has_integer_base s (ty.Of t)) (Some (Typed t))
    (cond (widens s (ty.Of t) (ty.Of u)) (Some (Typed u)) (cond (widens s (ty.Of u) (ty.Of t)) (Some (Typed t)) None))

-- The common type: that of both, where they are equal and have an integer base; the other type, where one is a whole number without a
-- suffix and the other has an integer base that holds it; the wider of two unnamed integer types of one signedness.
abbrev pub common : Store → Ty → Ty → Option Common
common s (ty.Iconst v) (ty.Iconst w) = Some Exact
common s (ty.Iconst v) (ty.Of u) = cond (holds_in (integer_word s (ty.Of u)) v) (Some (Typed u)) None
common s (ty.Of t) (ty.Iconst w) = cond (holds_in (integer_word s (ty.Of t)) w) (Some (Typed t)) None
common s (ty.Of t) (ty.Of u) = common_of_types s t u
common s _ _ = None

abbrev pub common_type : Option Common → Option ℕ
common_type (Some (Typed t)) = Some t
common_type (Some Exact) = None
common_type None = None

-- ---- assignability

-- whether a value may be assigned to the type
abbrev pub fits : Store → Ty → ℕ → Bool
fits s a t = is_some (coercion s a t)

-- The type `never` itself, and not a name of it.
abbrev pub is_never : Store → Ty → Bool
is_never s a = is_word keyword.Never (row_in s a)

-- ---- error types

abbrev pub error_members : Store → Ty → Option (List ℕ)
error_members s a = option_map (filter (is_error_at s)) (members_in s a)

abbrev pub is_not_empty : Option (List ℕ) → Bool
is_not_empty (Some (t ∷ ts)) = true
is_not_empty _ = false

-- a union with an error member, as its base
abbrev pub has_error_member : Store → Ty → Bool
has_error_member s a = is_not_empty (error_members s a)

abbrev pub is_error_type : Store → Ty → Bool
is_error_type s (ty.Of t) = is_error_at s t
is_error_type s _ = false

-- an error type, or a union with an error member as its base: such a value is not dropped
abbrev pub holds_error : Store → Ty → Bool
holds_error s a = is_error_type s a || has_error_member s a

-- ---- allocation

-- the declaration number of `rt::nomem`
abbrev pub nomem : ℕ
nomem = 4294967295

-- the union of a type with the refusal of memory
abbrev pub with_refusal : Store → ℕ → Option ℕ
with_refusal s t = option_and_then (λ n. union_of s (t ∷ n ∷ [])) (id_of s (row.Named nomem))

abbrev pub is_allocated_row : Option Row → Bool
is_allocated_row (Some (row.Pointer t)) = true
is_allocated_row (Some (row.Nullable t)) = true
is_allocated_row (Some (row.Array n t)) = true
is_allocated_row (Some (row.Slice t)) = true
is_allocated_row _ = false

-- its base is a pointer, an array or a slice
abbrev pub is_allocated : Store → ℕ → Bool
is_allocated s t = is_allocated_row (base_row s (ty.Of t))

abbrev pub only_one : List ℕ → Option ℕ
only_one (t ∷ []) = Some t
only_one _ = None

abbrev pub allocated_member : Store → Option (List ℕ) → Option ℕ
allocated_member s None = None
allocated_member s (Some ts) = only_one (filter (is_allocated s) ts)

-- The type of which a hint asks an allocation to make a value: the type itself, where its base is a pointer, an array or a slice; else,
-- of a union, the one member of which that is so, its name kept.
abbrev pub allocation : Store → ℕ → Option ℕ
allocation s t = cond (is_allocated s t) (Some t) (allocated_member s (members_at s t))
