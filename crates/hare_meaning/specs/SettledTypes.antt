-- What a settled tree says of types, and of a node's own type and coercion.
use Rattle.std.specs.Prelude.{◌≡◌, ℕ, ◌<◌, ◌≤◌, ◌^◌, ℤ, Bool, true, false, ◌||◌, length, Option, Some, None, is_some, option_and_then, IsSome}
use Rattle.hare_types.specs.declared.row.Row.{Row}
use Rattle.hare_types.specs.declared.row.Row.TheVariants as row
use Rattle.hare_types.specs.declared.row.Scalar.{Scalar as Keyword}
use Rattle.hare_types.specs.declared.row.Scalar.TheVariants as keyword
use Rattle.hare_types.specs.declared.coercion.Ty.{Ty}
use Rattle.hare_types.specs.declared.coercion.Ty.TheVariants as kept
use Rattle.hare_types.specs.Store.{Store}
use Rattle.hare_types.specs.ByIds.{row_at, base_at, has_size_at, extent_at, size_at, tag_at}
use Rattle.hare_types.specs.Keys.{scalar_eq}
use Rattle.hare_types.specs.Assign.{value_at, type_at, first_row, holds, signed}
use Rattle.hare_typed.specs.Typed.{Mark}
use Rattle.hare_typed.specs.Arithmetic.{same_number}
use Rattle.hare_typed.specs.Given.{base_row}
use Rattle.hare_typed.specs.Shapes.{shape_of_row}
use Rattle.hare_typed.specs.Unions.{union_members}
use Rattle.hare_typed.specs.Coercions.{length_of_row}
use Rattle.hare_typed.specs.ConstantForms.{is_iconst, is_whole}
use Rattle.hare_meaning.specs.Each.{Each}
use Rattle.hare_meaning.specs.Steps.{void_type}

-- ---- sizes that are admitted

abbrev pub most_bytes : ℕ
most_bytes = 67108864

-- how many items an array has that is the base of the type
abbrev pub items_at : Store → ℕ → ℕ
items_at s t = length_of_row (base_row s (kept.Of t))

-- The type is in the store, and what it is named is followed to an end; where its values have a size it is known, and not too large. Nor
-- has an array too many items, also where they take no bytes.
pub record IsAdmitted (s : Store) (t : ℕ) : Type 0 where
  pub within : t < length s.rows
  pub base : IsSome (base_at s t)
  pub known : has_size_at s t ≡ true → IsSome (extent_at s t)
  pub small : size_at s t ≤ most_bytes
  pub short : items_at s t ≤ most_bytes

-- a whole number without a suffix, null and an array of no items have no type of which that could be asked
abbrev pub IsAdmittedTy : Store → Ty → Type 0
IsAdmittedTy s (kept.Of t) = IsAdmitted s t
IsAdmittedTy s (kept.Iconst v) = Unit {0}
IsAdmittedTy s kept.Null = Unit {0}
IsAdmittedTy s kept.Empty = Unit {0}

-- it is a type, and its values have a size
abbrev pub is_sized : Store → Ty → Bool
is_sized s (kept.Of t) = has_size_at s t
is_sized s (kept.Iconst v) = false
is_sized s kept.Null = false
is_sized s kept.Empty = false

-- values of the type have a size, which is admitted
pub record HasValues (s : Store) (t : ℕ) : Type 0 where
  pub admitted : IsAdmitted s t
  pub sized : has_size_at s t ≡ true

-- there is a type of which that is so: of elements, and of what is reached
abbrev pub AreValues : Store → Option ℕ → Type 0
AreValues s None = ⊥
AreValues s (Some t) = HasValues s t

-- ---- a node's own type and coercion

-- The coercion goes by the first row of the table of assignability that admits the value to the type. What has no type stays what it is.
abbrev pub Joins : Store → Ty → (row : ℕ) → Ty → Type 0
Joins s f r (kept.Of t) = first_row s (value_at s f) (type_at s t) ≡ Some r
Joins s f r (kept.Iconst v) = (f ≡ kept.Iconst v) × (r ≡ 1)
Joins s f r kept.Null = (f ≡ kept.Null) × (r ≡ 1)
Joins s f r kept.Empty = (f ≡ kept.Empty) × (r ≡ 1)

-- a type has a tag, which four bytes hold
abbrev pub IsTag : Option ℕ → Type 0
IsTag None = ⊥
IsTag (Some k) = k < 2 ^ 32

-- each member of the union that is the base of the type has one
abbrev pub AreListed : Store → Ty → Type 0
AreListed s (kept.Of t) = Each (λ m. IsTag (tag_at s m)) (union_members s t)
AreListed s (kept.Iconst v) = Unit {0}
AreListed s kept.Null = Unit {0}
AreListed s kept.Empty = Unit {0}

pub record IsMarked (s : Store) (m : Mark) : Type 0 where
  pub own : IsAdmittedTy s m.ty
  pub given : IsAdmittedTy s m.coerce.to
  pub joined : Joins s m.ty m.coerce.row m.coerce.to
  pub own_listed : AreListed s m.ty
  pub given_listed : AreListed s m.coerce.to

-- ---- what a type is

abbrev pub is_word_row : Keyword → Option Row → Bool
is_word_row k (Some (row.Scalar l)) = scalar_eq k l
is_word_row k _ = false

-- the base of the type is this word
abbrev pub is_word : Keyword → Store → Ty → Bool
is_word k s f = is_word_row k (base_row s f)

abbrev pub is_integer_row : Option Row → Bool
is_integer_row (Some (row.Scalar k)) = is_some (signed k)
is_integer_row _ = false

-- an integer type is its base
abbrev pub is_integer : Store → Ty → Bool
is_integer s f = is_integer_row (base_row s f)

-- an integer type or rune is its base, or it is that of a whole number without a suffix
abbrev pub is_numeric : Store → Ty → Bool
is_numeric s f = is_iconst f || is_whole (option_and_then shape_of_row (base_row s f))

-- it can count: an integer type, or a whole number without a suffix
abbrev pub is_counting : Store → Ty → Bool
is_counting s f = is_iconst f || is_integer s f

abbrev pub holds_row : Option Row → ℤ → Bool
holds_row (Some (row.Scalar k)) v = holds k v
holds_row _ v = false

-- a value of the type can be this number
abbrev pub fits_number : Store → ℤ → Ty → Bool
fits_number s v (kept.Of t) = holds_row (base_row s (kept.Of t)) v
fits_number s v (kept.Iconst w) = same_number w v
fits_number s v kept.Null = false
fits_number s v kept.Empty = false

-- the type itself is never, and no name of it
abbrev pub is_never : Store → Ty → Bool
is_never s (kept.Of t) = is_word_row keyword.Never (row_at s t)
is_never s (kept.Iconst v) = false
is_never s kept.Null = false
is_never s kept.Empty = false

-- to what a pointer leads that may be null
abbrev pub nullable_in : Option Row → Option ℕ
nullable_in (Some (row.Nullable x)) = Some x
nullable_in _ = None

abbrev pub nullable : Store → Ty → Option ℕ
nullable s f = nullable_in (base_row s f)

abbrev pub slice_in : Option Row → Option ℕ
slice_in (Some (row.Slice x)) = Some x
slice_in _ = None

-- of what the base of the type is a slice
abbrev pub slice : Store → Ty → Option ℕ
slice s f = slice_in (base_row s f)

-- a pointer, which may be null or not
abbrev pub is_address_row : Option Row → Bool
is_address_row (Some (row.Pointer x)) = true
is_address_row (Some (row.Nullable x)) = true
is_address_row _ = false

abbrev pub is_address : Store → Ty → Bool
is_address s f = is_address_row (base_row s f)

-- void can be assigned to it: so may an end give it that is reached, and a jump without a value
abbrev pub takes_void : Store → Ty → Bool
takes_void s (kept.Of t) = is_some (first_row s (value_at s (kept.Of (void_type s))) (type_at s t))
takes_void s (kept.Iconst v) = false
takes_void s kept.Null = false
takes_void s kept.Empty = false

-- values of the type may be assigned to the other
abbrev pub may_become : Store → ℕ → Ty → Bool
may_become s m (kept.Of t) = is_some (first_row s (value_at s (kept.Of m)) (type_at s t))
may_become s m (kept.Iconst v) = false
may_become s m kept.Null = false
may_become s m kept.Empty = false
