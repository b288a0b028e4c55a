-- What lies under names and error marks, and where the bytes of a type lie. Numbers here have no bound.
use Rattle.std.specs.Prelude.{◌≡◌, ℕ, zero, suc, ◌+◌, ◌-◌, ◌*◌, ◌/◌, Bool, true, false, List, [], ◌∷◌, Some, None, Option, option_map, option_and_then, max}
use Rattle.hare_types.specs.declared.extent.Extent.{Extent}
use Rattle.hare_types.specs.declared.row.Scalar.{Scalar as Keyword}
use Rattle.hare_types.specs.declared.row.Scalar.TheVariants.{Void, Never, Opaque, Bool as BoolWord, Rune, Str, I8, I16, I32, I64, U8, U16, U32, U64, Int, Uint, Size}
use Rattle.hare_types.specs.Trees.{Tree, Trees, Scalar, Pointer, Nullable, Slice, Array, Struct, Tuple, Union, Error, Named, none, more}
use Rattle.hare_types.specs.Store.{Store, meaning_of}

-- Each of these definitions takes a function that says what becomes of names. The one that follows at most n names one behind another
-- gives nothing where there are more; a statement over a store says that some n is enough.
abbrev pub following : {A : Type 0} → ((ℕ → Option A) → Tree → Option A) → (ℕ → Option Tree) → ℕ → Tree → Option A
following f meaning zero t = f (λ d. None) t
following f meaning (suc n) t = f (λ d. option_and_then (following f meaning n) (meaning d)) t

-- ---- base and error types

-- the type without error marks, and names replaced
abbrev pub base_with : (ℕ → Option Tree) → Tree → Option Tree
base_with named (Scalar k) = Some (Scalar k)
base_with named (Pointer t) = Some (Pointer t)
base_with named (Nullable t) = Some (Nullable t)
base_with named (Slice t) = Some (Slice t)
base_with named (Array n t) = Some (Array n t)
base_with named (Struct ns ts) = Some (Struct ns ts)
base_with named (Tuple ts) = Some (Tuple ts)
base_with named (Union ts) = Some (Union ts)
base_with named (Error t) = base_with named t
base_with named (Named d) = named d

-- u is what is left of the type, once names and error marks are followed until neither is left
abbrev pub IsBase : Store → Tree → Tree → Type 0
IsBase s t u = (n : ℕ) × (following base_with (meaning_of s) n t ≡ Some u)

-- whether the type bears an error mark, or names one that does
abbrev pub error_with : (ℕ → Option Bool) → Tree → Option Bool
error_with named (Scalar k) = Some false
error_with named (Pointer t) = Some false
error_with named (Nullable t) = Some false
error_with named (Slice t) = Some false
error_with named (Array n t) = Some false
error_with named (Struct ns ts) = Some false
error_with named (Tuple ts) = Some false
error_with named (Union ts) = Some false
error_with named (Error t) = Some true
error_with named (Named d) = named d

-- the type is an error type where b is true, and none where b is false
abbrev pub IsError : Store → Tree → Bool → Type 0
IsError s t b = (n : ℕ) × (following error_with (meaning_of s) n t ≡ Some b)

-- ---- size, alignment and offsets

abbrev pub bytes : ℕ → ℕ → Option Extent
bytes size align = Some (record { size = size; align = align })

abbrev pub scalar_extent : Keyword → Option Extent
scalar_extent Void = bytes 0 1
scalar_extent Never = None
scalar_extent Opaque = None
scalar_extent BoolWord = bytes 1 1
scalar_extent Rune = bytes 4 4
scalar_extent Str = bytes 24 8
scalar_extent I8 = bytes 1 1
scalar_extent I16 = bytes 2 2
scalar_extent I32 = bytes 4 4
scalar_extent I64 = bytes 8 8
scalar_extent U8 = bytes 1 1
scalar_extent U16 = bytes 2 2
scalar_extent U32 = bytes 4 4
scalar_extent U64 = bytes 8 8
scalar_extent Int = bytes 4 4
scalar_extent Uint = bytes 4 4
scalar_extent Size = bytes 8 8

-- n rounded up to a multiple of a
abbrev pub round_up : ℕ → ℕ → ℕ
round_up n a = (n + (a - 1)) / a * a

abbrev pub greatest_size : List Extent → ℕ
greatest_size [] = 0
greatest_size (x ∷ xs) = max x.size (greatest_size xs)

abbrev pub greatest_align : List Extent → ℕ
greatest_align [] = 1
greatest_align (x ∷ xs) = max x.align (greatest_align xs)

-- the end of fields that begin at a place, each at the next multiple of its alignment
abbrev pub fields_end : ℕ → List Extent → ℕ
fields_end at [] = at
fields_end at (x ∷ xs) = fields_end (round_up at x.align + x.size) xs

-- where field k of them begins
abbrev pub field_start : ℕ → List Extent → ℕ → Option ℕ
field_start at [] k = None
field_start at (x ∷ xs) zero = Some (round_up at x.align)
field_start at (x ∷ xs) (suc k) = field_start (round_up at x.align + x.size) xs k

-- a struct or tuple: the fields in order, and the end rounded up
abbrev pub fields_extent : List Extent → Extent
fields_extent xs = record { size = round_up (fields_end 0 xs) (greatest_align xs); align = greatest_align xs }

-- a union: the tag in the first four bytes, the payload behind it at a multiple of the greatest alignment of a member
abbrev pub payload_start : List Extent → ℕ
payload_start xs = round_up 4 (greatest_align xs)

abbrev pub union_extent : List Extent → Extent
union_extent xs =
    record { size = round_up (payload_start xs + greatest_size xs) (max 4 (greatest_align xs)); align = max 4 (greatest_align xs) }

abbrev mutual
  pub extent_with : (ℕ → Option Extent) → Tree → Option Extent
  extent_with named (Scalar k) = scalar_extent k
  extent_with named (Pointer t) = bytes 8 8
  extent_with named (Nullable t) = bytes 8 8
  extent_with named (Slice t) = bytes 24 8
  extent_with named (Array n t) = option_map (λ x. record { size = n * x.size; align = x.align }) (extent_with named t)
  extent_with named (Struct ns ts) = option_map fields_extent (extents_with named ts)
  extent_with named (Tuple ts) = option_map fields_extent (extents_with named ts)
  extent_with named (Union ts) = option_map union_extent (extents_with named ts)
  extent_with named (Error t) = extent_with named t
  extent_with named (Named d) = named d

  pub extents_with : (ℕ → Option Extent) → Trees → Option (List Extent)
  extents_with named none = Some []
  extents_with named (more t ts) = option_and_then (λ x. option_map (λ xs. x ∷ xs) (extents_with named ts)) (extent_with named t)

-- the type has this extent
abbrev pub HasExtent : Store → Tree → Extent → Type 0
HasExtent s t x = (n : ℕ) × (following extent_with (meaning_of s) n t ≡ Some x)

-- the types have these extents
abbrev pub HaveExtents : Store → Trees → List Extent → Type 0
HaveExtents s none xs = xs ≡ []
HaveExtents s (more t ts) xs = (x : Extent) × (rest : List Extent) × (xs ≡ x ∷ rest) × HasExtent s t x × HaveExtents s ts rest
