-- Which values become slices where they are joined to unions. No public clause cites it.
use Rattle.std.specs.Prelude.{◌≡◌, ℕ, Bool, true, false, is_some}
use Rattle.hare_types.specs.declared.coercion.Ty.{Ty}
use Rattle.hare_types.specs.declared.coercion.Ty.TheVariants as ty
use Rattle.hare_types.specs.declared.row.Row.{Row}
use Rattle.hare_types.specs.declared.row.Row.TheVariants as row
use Rattle.hare_types.specs.Store.{Store}
use Rattle.hare_types.specs.Trees.{Tree}
use Rattle.hare_types.specs.Assign.{IsIn, items_fit, value_at}
use Rattle.hare_typed.specs.Coercions.{inner_to, element_by}

abbrev pub is_array_row : Row → Bool
is_array_row (row.Array n t) = true
is_array_row _ = false

abbrev pub joins_as_slice : Store → Ty → ℕ → Bool
joins_as_slice s f u = is_some (element_by s (inner_to s f u).row (inner_to s f u).to)

-- a value that has a type of the store, or an array of no items
abbrev pub IsArray : Store → Ty → Type 0
IsArray s (ty.Of t) = Unit {0}
IsArray s (ty.Iconst v) = ⊥
IsArray s ty.Null = ⊥
IsArray s ty.Empty = Unit {0}

-- it is told of a value whether it may become a slice
abbrev pub TellsArray : Store → Ty → Bool → Type 0
TellsArray s f true = IsIn s f × IsArray s f
TellsArray s f false = (t : Tree) → items_fit (value_at s f) t ≡ false
