-- The places of fields that are kept beside the rows of a store.
use Rattle.std.specs.Prelude.{◌≡◌, ℕ, Bool, ◌==◌, ◌&&◌, List, slice_get, Option, option_and_then}
use Rattle.std.specs.Map.{lookup}
use Rattle.hare_types.specs.declared.fields.FieldName.{FieldName}
use Rattle.hare_types.specs.declared.row.Row.{Row}
use Rattle.hare_types.specs.ByIds.{field_in}

abbrev pub same_name : FieldName → FieldName → Bool
same_name a b = (a.of == b.of) && (a.name == b.name)

-- the place that is entered of the field of struct t with the name of this number
abbrev pub place_of : List (FieldName × ℕ) → ℕ → ℕ → Option ℕ
place_of es t name = lookup (same_name (record { of = t; name = name })) es

-- the places of the fields of these rows are entered, and no others
abbrev pub KeepsFields : List Row → List (FieldName × ℕ) → Type 0
KeepsFields rows es = (t name : ℕ) → place_of es t name ≡ option_and_then (field_in name) (slice_get rows t)
