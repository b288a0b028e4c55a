-- How the bytes of types lie: what alignments there are, and that parts lie within their wholes.
use Rattle.std.specs.Prelude.{◌≡◌, ◌↔◌, ℕ, ◌+◌, ◌*◌, ◌<◌, ◌≤◌, List, length, slice_get, Contains, Some, ◌⊎◌}
use Rattle.hare_types.specs.declared.extent.Extent.{Extent}
use Rattle.hare_types.specs.declared.row.Row.{Row}
use Rattle.hare_types.specs.declared.row.Row.TheVariants as row
use Rattle.hare_types.specs.Store.{Store}
use Rattle.hare_types.specs.Sound.{IsStore}
use Rattle.hare_types.specs.Kept.{LiesIn}
use Rattle.hare_types.specs.Waiting.{NeedsRow}
use Rattle.hare_types.specs.ByIds.{row_at, extent_at, fields_at, members_at, offset_at, payload_at}
use Rattle.hare_layout.specs.Small.{IsSmall}

-- ---- alignments

abbrev pub IsMultiple : ℕ → ℕ → Type 0
IsMultiple n a = (k : ℕ) × (n ≡ k * a)

abbrev pub IsAlignment : ℕ → Type 0
IsAlignment a = (a ≡ 1) ⊎ ((a ≡ 2) ⊎ ((a ≡ 4) ⊎ (a ≡ 8)))

pub record IsAligned (x : Extent) : Type 0 where
  pub align : IsAlignment x.align
  pub size : IsMultiple x.size x.align

-- an alignment is 1, 2, 4 or 8, and a size is a multiple of the alignment
abbrev pub TypesAreAligned : Type 0
TypesAreAligned = (s : Store) (t : ℕ) (x : Extent) → extent_at s t ≡ Some x → IsAligned x

-- ---- fields and components

-- field or component k of the type begins at `start`, and has this extent
pub record HasField (s : Store) (t k start : ℕ) (x : Extent) : Type 0 where
  pub types : List ℕ
  pub type : ℕ
  pub fields : fields_at s t ≡ Some types
  pub field : slice_get types k ≡ Some type
  pub extent : extent_at s type ≡ Some x
  pub begins : offset_at s t k ≡ Some start

-- where the fields or components lie in a type of this extent
pub record FieldsLieIn (s : Store) (t : ℕ) (whole : Extent) : Type 0 where
  -- each has its place
  pub placed : (types : List ℕ) (k : ℕ) → fields_at s t ≡ Some types → k < length types
      → (start : ℕ) × (x : Extent) × HasField s t k start x
  -- within the whole
  pub within : (k start : ℕ) (x : Extent) → HasField s t k start x → start + x.size ≤ whole.size
  -- aligned where the whole is
  pub aligned : (k start : ℕ) (x : Extent) → HasField s t k start x → IsMultiple start x.align × IsMultiple whole.align x.align
  -- in order and without overlap: each ends before the later ones begin
  pub ordered : (j k first later : ℕ) (x y : Extent) → j < k → HasField s t j first x → HasField s t k later y → first + x.size ≤ later

abbrev pub FieldsLieWithin : Type 0
FieldsLieWithin = (s : Store) (t : ℕ) (whole : Extent) → extent_at s t ≡ Some whole → FieldsLieIn s t whole

-- ---- payloads

-- where a payload lies in a union of this extent that has these as its members
pub record PayloadLiesIn (s : Store) (t : ℕ) (whole : Extent) (members : List ℕ) : Type 0 where
  pub start : ℕ
  pub begins : payload_at s t ≡ Some start
  -- behind the tag
  pub behind : 4 ≤ start
  pub within : start ≤ whole.size
  -- there is room for each member, the largest too, and each is aligned where the whole is
  pub member : (i : ℕ) → Contains members i
      → (x : Extent) × (extent_at s i ≡ Some x) × (start + x.size ≤ whole.size) × IsMultiple start x.align × IsMultiple whole.align x.align

abbrev pub PayloadsLieWithin : Type 0
PayloadsLieWithin = (s : Store) (t : ℕ) (whole : Extent) (members : List ℕ) → extent_at s t ≡ Some whole → members_at s t ≡ Some members →
    PayloadLiesIn s t whole members

-- ---- small types

-- the extent of the type with this id rests on that of p: an element, a field, a component, a member, what bears the error mark, what the
-- name is defined to be
abbrev pub IsPart : Store → ℕ → ℕ → Type 0
IsPart s t p = (r : Row) × (row_at s t ≡ Some r) × NeedsRow s.declared r p

-- where a type is small, and what then is too
pub record IsSmallWith (s : Store) (t : ℕ) : Type 0 where
  -- it has an extent of at most 67,108,864 bytes
  pub size : IsSmall s t ↔ ((x : Extent) × LiesIn s t x × (x.size ≤ 67108864))
  -- each part of it, but for the items of an array that has none
  pub parts : IsSmall s t → (p : ℕ) → IsPart s t p → IsSmall s p ⊎ (row_at s t ≡ Some (row.Array 0 p))

abbrev pub SmallTypes : Type 0
SmallTypes = (s : Store) → IsStore s → (t : ℕ) → IsSmallWith s t
