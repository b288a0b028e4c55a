-- What a type is, by its id in a store: functions of the store and the id, which speak of ids and rows alone. A union is a set of types,
-- and only the ids of one store put its members into an order: so whatever speaks of types that a program makes speaks of ids.
use Rattle.std.specs.Prelude.{ℕ, zero, suc, ◌*◌, ◌==◌, nat_eq, Bool, true, false, List, [], length, map, position, slice_get, Some, None, Option, is_some, option_map, option_and_then}
use Rattle.std.specs.Option.{unwrap_or}
use Rattle.hare_types.specs.declared.extent.Extent.{Extent}
use Rattle.hare_types.specs.declared.lists.Field.{Field}
use Rattle.hare_types.specs.declared.row.Row.{Row}
use Rattle.hare_types.specs.declared.row.Row.TheVariants as row
use Rattle.hare_types.specs.Store.{Store, sized_of, definition_of}
use Rattle.hare_types.specs.Layout.{bytes, scalar_extent, fields_extent, union_extent, field_start, payload_start}
use Rattle.hare_types.specs.ByValue.{scalar_size}
use Rattle.hare_types.specs.Kept.{parts_of, all_known}
use Rattle.hare_types.specs.Bases.{base_over}

-- the row of the type, where the store has it
abbrev pub row_at : Store → ℕ → Option Row
row_at s t = slice_get s.rows t

-- ---- following rows

-- What comes of a type, where `rule` says it of one row from what comes of other types. At most n rows one behind another are followed.
abbrev pub found_within : {A : Type 0} → Store → ((ℕ → Option A) → ℕ → Row → Option A) → ℕ → ℕ → Option A
found_within s rule zero t = None
found_within s rule (suc n) t = option_and_then (rule (found_within s rule n) t) (row_at s t)

-- No way that comes to an end goes twice through one row: so as many rows as the store has are all that need be followed.
abbrev pub found : {A : Type 0} → Store → ((ℕ → Option A) → ℕ → Row → Option A) → ℕ → Option A
found s rule = found_within s rule (length s.rows)

-- ---- base, error mark and size

-- What is left of the type once names and error marks are followed until neither is left. None where that comes to a name that is not
-- defined.
abbrev pub base_at : Store → ℕ → Option ℕ
base_at s = found s (base_over (definition_of s))

-- an error mark, or a name of what has one
abbrev pub error_over : (ℕ → Option ℕ) → (ℕ → Option Bool) → ℕ → Row → Option Bool
error_over definition ks t (row.Scalar k) = Some false
error_over definition ks t (row.Pointer i) = Some false
error_over definition ks t (row.Nullable i) = Some false
error_over definition ks t (row.Slice i) = Some false
error_over definition ks t (row.Array n i) = Some false
error_over definition ks t (row.Struct fs) = Some false
error_over definition ks t (row.Tuple is) = Some false
error_over definition ks t (row.Union is) = Some false
error_over definition ks t (row.Error i) = Some true
error_over definition ks t (row.Named d) = option_and_then ks (definition d)

-- Whether the type is an error type: it bears an error mark, or names one that does. None where that comes to a name that is not defined.
abbrev pub marked_at : Store → ℕ → Option Bool
marked_at s = found s (error_over (definition_of s))

-- the type is known to be an error type
abbrev pub is_error_at : Store → ℕ → Bool
is_error_at s t = unwrap_or (marked_at s t) false

-- never and opaque have no size, an error type as much as its inner type, and of a name its declaration says it
abbrev pub sized_over : (ℕ → Option Bool) → (ℕ → Option Bool) → ℕ → Row → Option Bool
sized_over sized ks t (row.Scalar k) = Some (is_some (scalar_size k))
sized_over sized ks t (row.Pointer i) = Some true
sized_over sized ks t (row.Nullable i) = Some true
sized_over sized ks t (row.Slice i) = Some true
sized_over sized ks t (row.Array n i) = Some true
sized_over sized ks t (row.Struct fs) = Some true
sized_over sized ks t (row.Tuple is) = Some true
sized_over sized ks t (row.Union is) = Some true
sized_over sized ks t (row.Error i) = ks i
sized_over sized ks t (row.Named d) = sized d

-- Whether values of the type have a size. Of a name this is known once it is declared, before it is defined, and None until then.
abbrev pub sized_at : Store → ℕ → Option Bool
sized_at s = found s (sized_over (sized_of s))

-- values of the type are known to have a size
abbrev pub has_size_at : Store → ℕ → Bool
has_size_at s t = unwrap_or (sized_at s t) false

-- ---- layout

-- the bytes of a row, from those of the types that it holds by value
abbrev pub bytes_over : (ℕ → Option ℕ) → (ℕ → Option Extent) → ℕ → Row → Option Extent
bytes_over definition ks t (row.Scalar k) = scalar_extent k
bytes_over definition ks t (row.Pointer i) = bytes 8 8
bytes_over definition ks t (row.Nullable i) = bytes 8 8
bytes_over definition ks t (row.Slice i) = bytes 24 8
bytes_over definition ks t (row.Array n i) = option_map (λ x. record { size = n * x.size; align = x.align }) (ks i)
bytes_over definition ks t (row.Struct fs) = option_map fields_extent (all_known ks (map (λ f. f.ty) fs))
bytes_over definition ks t (row.Tuple is) = option_map fields_extent (all_known ks is)
bytes_over definition ks t (row.Union is) = option_map union_extent (all_known ks is)
bytes_over definition ks t (row.Error i) = ks i
bytes_over definition ks t (row.Named d) = option_and_then ks (definition d)

-- How many bytes a value of the type takes, and of what its address is a multiple. None where the type is or holds by value never, opaque
-- or a name that is not defined. Sizes have no bound.
abbrev pub extent_at : Store → ℕ → Option Extent
extent_at s = found s (bytes_over (definition_of s))

-- its size in bytes, and 0 where it has no extent
abbrev pub size_at : Store → ℕ → ℕ
size_at s t = unwrap_or (option_map (λ x. x.size) (extent_at s t)) 0

-- its alignment, and 1 where it has no extent
abbrev pub align_at : Store → ℕ → ℕ
align_at s t = unwrap_or (option_map (λ x. x.align) (extent_at s t)) 1

-- ---- parts

-- the types of a struct's fields, a tuple's components or a union's members, in order; of the row itself, names and error marks not
-- followed
abbrev pub parts_at : Store → ℕ → List ℕ
parts_at s t = unwrap_or (option_map parts_of (row_at s t)) []

-- the fields of a struct
abbrev pub fields_in : Row → List Field
fields_in (row.Struct fs) = fs
fields_in (row.Scalar k) = []
fields_in (row.Pointer i) = []
fields_in (row.Nullable i) = []
fields_in (row.Slice i) = []
fields_in (row.Array n i) = []
fields_in (row.Tuple is) = []
fields_in (row.Union is) = []
fields_in (row.Error i) = []
fields_in (row.Named d) = []

-- the place of the first field of a struct that has the name with this number
abbrev pub field_in : ℕ → Row → Option ℕ
field_in name r = position (λ f. f.name == name) (fields_in r)

-- the same of the row itself, names and error marks not followed
abbrev pub field_at : Store → ℕ → ℕ → Option ℕ
field_at s t name = option_and_then (field_in name) (row_at s t)

-- the types of the fields of a struct, or of the components of a tuple
abbrev pub fields_of : Row → Option (List ℕ)
fields_of (row.Struct fs) = Some (map (λ f. f.ty) fs)
fields_of (row.Tuple is) = Some is
fields_of (row.Scalar k) = None
fields_of (row.Pointer i) = None
fields_of (row.Nullable i) = None
fields_of (row.Slice i) = None
fields_of (row.Array n i) = None
fields_of (row.Union is) = None
fields_of (row.Error i) = None
fields_of (row.Named d) = None

-- the members of a union
abbrev pub members_of : Row → Option (List ℕ)
members_of (row.Union is) = Some is
members_of (row.Scalar k) = None
members_of (row.Pointer i) = None
members_of (row.Nullable i) = None
members_of (row.Slice i) = None
members_of (row.Array n i) = None
members_of (row.Struct fs) = None
members_of (row.Tuple is) = None
members_of (row.Error i) = None
members_of (row.Named d) = None

-- the types of the fields or components of the type, names and error marks followed
abbrev pub fields_at : Store → ℕ → Option (List ℕ)
fields_at s t = option_and_then (λ b. option_and_then fields_of (row_at s b)) (base_at s t)

-- the members of the union that is the base of the type, in ascending order of their ids
abbrev pub members_at : Store → ℕ → Option (List ℕ)
members_at s t = option_and_then (λ b. option_and_then members_of (row_at s b)) (base_at s t)

-- where field or component k of the type begins, counted from 0, names and error marks followed
abbrev pub offset_at : Store → ℕ → ℕ → Option ℕ
offset_at s t k = option_and_then (λ xs. field_start 0 xs k) (option_and_then (all_known (extent_at s)) (fields_at s t))

-- where the payload of the union begins that is the base of the type: its tag lies in the first four bytes
abbrev pub payload_at : Store → ℕ → Option ℕ
payload_at s t = option_map payload_start (option_and_then (all_known (extent_at s)) (members_at s t))

-- the tag of the type: 1 plus its place in the list of the types that have tags
abbrev pub tag_at : Store → ℕ → Option ℕ
tag_at s t = option_map suc (position (nat_eq t) s.listed)
