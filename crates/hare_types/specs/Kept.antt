-- Extents that are kept beside the rows of a store.
use Rattle.std.specs.Prelude.{◌≡◌, ℕ, suc, ◌≤◌, ◌*◌, min, nat_eq, List, [], ◌∷◌, length, map, slice_get, slice_index_or, Some, None, Option, option_map, option_and_then}
use Rattle.std.specs.Map.{lookup}
use Rattle.hare_types.specs.declared.declared.Declared.{Declared}
use Rattle.hare_types.specs.declared.extent.Extent.{Extent}
use Rattle.hare_types.specs.declared.row.Row.{Row}
use Rattle.hare_types.specs.declared.row.Row.TheVariants as row
use Rattle.hare_types.specs.Trees.{Tree}
use Rattle.hare_types.specs.Store.{Store, tree_at}
use Rattle.hare_types.specs.Layout.{bytes, scalar_extent, fields_extent, union_extent, HasExtent}

-- the type with this id has this extent
abbrev pub LiesIn : Store → ℕ → Extent → Type 0
LiesIn s t x = (u : Tree) × (tree_at s t ≡ Some u) × HasExtent s u x

-- What is told of an extent. Sizes have no bound, and one of more than 2^40 bytes is told as 2^40 + 1.
abbrev pub told : Extent → Extent
told x = record { size = min x.size 1099511627777; align = x.align }

-- x is what is told of the extent of the type with this id
abbrev pub IsTold : Store → ℕ → Extent → Type 0
IsTold s t x = (y : Extent) × LiesIn s t y × (x ≡ told y)

-- x is what is told of the extent of the type
abbrev pub IsToldOf : Store → Tree → Extent → Type 0
IsToldOf s u x = (y : Extent) × HasExtent s u y × (x ≡ told y)

-- numbers that no sum overflows
pub record IsBounded (x : Extent) : Type 0 where
  pub size : x.size ≤ 1099511627777
  pub low : 1 ≤ x.align
  pub high : x.align ≤ 8

-- ---- of rows

-- the types that a struct, tuple or union holds, in order
abbrev pub parts_of : Row → List ℕ
parts_of (row.Struct fs) = map (λ f. f.ty) fs
parts_of (row.Tuple is) = is
parts_of (row.Union is) = is
parts_of _ = []

-- the extent that is kept of an id
abbrev pub known : List (Option Extent) → ℕ → Option Extent
known ks i = slice_index_or ks i None

-- what is entered as the definition of a name
abbrev pub defined : List (ℕ × Declared) → ℕ → Option ℕ
defined es d = option_and_then (λ e. e.definition) (lookup (nat_eq d) es)

-- the extents that are kept of ids, where of each there is one
abbrev pub all_known : (ℕ → Option Extent) → List ℕ → Option (List Extent)
all_known ks [] = Some []
all_known ks (i ∷ is) = option_and_then (λ x. option_map (λ xs. x ∷ xs) (all_known ks is)) (ks i)

-- what follows for a row from what is kept of the types that it holds by value
abbrev pub extent_over : (ℕ → Option ℕ) → (ℕ → Option Extent) → Row → Option Extent
extent_over definition ks (row.Scalar k) = scalar_extent k
extent_over definition ks (row.Pointer i) = bytes 8 8
extent_over definition ks (row.Nullable i) = bytes 8 8
extent_over definition ks (row.Slice i) = bytes 24 8
extent_over definition ks (row.Array n i) = option_map (λ x. told (record { size = n * x.size; align = x.align })) (ks i)
extent_over definition ks (row.Struct fs) = option_map (λ xs. told (fields_extent xs)) (all_known ks (map (λ f. f.ty) fs))
extent_over definition ks (row.Tuple is) = option_map (λ xs. told (fields_extent xs)) (all_known ks is)
extent_over definition ks (row.Union is) = option_map (λ xs. told (union_extent xs)) (all_known ks is)
extent_over definition ks (row.Error i) = ks i
extent_over definition ks (row.Named d) = option_and_then ks (definition d)

-- ---- of stores

-- what is kept can be summed up
abbrev pub AreBounded : List (Option Extent) → Type 0
AreBounded ks = (i : ℕ) (x : Extent) → known ks i ≡ Some x → IsBounded x

-- beside each row stands nothing, or what is told of its extent
pub record KeepsExtents (s : Store) (ks : List (Option Extent)) : Type 0 where
  pub as_many : length ks ≡ length s.rows
  pub bounded : AreBounded ks
  pub sound : (i : ℕ) (x : Extent) → known ks i ≡ Some x → IsTold s i x

-- nothing follows for row i that is not kept
abbrev pub IsSettled : List Row → List (ℕ × Declared) → List (Option Extent) → ℕ → Type 0
IsSettled rows es ks i = (r : Row) → slice_get rows i ≡ Some r → known ks i ≡ None → extent_over (defined es) (known ks) r ≡ None

-- how many of these are not kept
abbrev pub unknown : {A : Type 0} → List (Option A) → ℕ
unknown [] = 0
unknown (None ∷ ks) = suc (unknown ks)
unknown (Some x ∷ ks) = unknown ks

-- the row has no extent, whatever other rows have: never and opaque, and a name that is not defined
abbrev pub IsInert : List (ℕ × Declared) → Row → Type 0
IsInert es (row.Scalar k) = scalar_extent k ≡ None
IsInert es (row.Named d) = defined es d ≡ None
IsInert es _ = ⊥
