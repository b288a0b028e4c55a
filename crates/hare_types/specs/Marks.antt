-- Rows with error marks, and whether declared types have a size.
use Rattle.std.specs.Prelude.{ℕ, Bool, nat_eq, List, Some, None, Option, option_map}
use Rattle.std.specs.Map.{lookup}
use Rattle.hare_types.specs.declared.declared.Declared.{Declared}
use Rattle.hare_types.specs.declared.row.Row.{Row}
use Rattle.hare_types.specs.declared.row.Row.TheVariants as row

-- the type that is marked
abbrev pub marked_in : Row → Option ℕ
marked_in (row.Error j) = Some j
marked_in (row.Scalar k) = None
marked_in (row.Pointer j) = None
marked_in (row.Nullable j) = None
marked_in (row.Slice j) = None
marked_in (row.Array n j) = None
marked_in (row.Struct fs) = None
marked_in (row.Tuple js) = None
marked_in (row.Union js) = None
marked_in (row.Named d) = None

-- what is entered of the size of a name
abbrev pub sized_in : List (ℕ × Declared) → ℕ → Option Bool
sized_in es d = option_map (λ e. e.sized) (lookup (nat_eq d) es)
