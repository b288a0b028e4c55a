-- Types whose size can be told, and their parts.
use Rattle.std.specs.Prelude.{◌≡◌, ◌≤◌, ℕ, List, [], slice_get, Some, unwrap_or, IsSome}
use Rattle.hare_types.specs.declared.extent.Extent.{Extent}
use Rattle.hare_types.specs.declared.row.Row.{Row}
use Rattle.hare_types.specs.Store.{Store}
use Rattle.hare_types.specs.ByIds.{extent_at, fields_of, offset_at}

-- The type has no more than the 67,108,864 bytes that each type has which a program may spell. What it holds by value has no more then.
pub record Fits (s : Store) (t : ℕ) : Type 0 where
  pub extent : Extent
  pub at : extent_at s t ≡ Some extent
  pub few : extent.size ≤ 67108864

-- The base of the type is a struct or tuple that has a part with so many before it.
abbrev pub HasPart : Store → ℕ → ℕ → Type 0
HasPart s t k = IsSome (offset_at s t k)

-- the types of the fields of a struct, or of the components of a tuple; none of another row
abbrev pub parts_in : Row → List ℕ
parts_in r = unwrap_or (fields_of r) []

-- the type has no more bytes than that, where it has an extent
abbrev pub IsFew : Store → ℕ → Type 0
IsFew s t = (x : Extent) → extent_at s t ≡ Some x → x.size ≤ 67108864

-- each part of the row is such
abbrev pub AreFew : Store → Row → Type 0
AreFew s r = (i p : ℕ) → slice_get (parts_in r) i ≡ Some p → IsFew s p

-- what no sum of so many overflows
pub record IsModest (x : Extent) : Type 0 where
  pub size : x.size ≤ 67108864
  pub low : 1 ≤ x.align
  pub high : x.align ≤ 8
