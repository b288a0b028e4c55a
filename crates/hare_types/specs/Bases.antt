-- What is left of a type without names and error marks.
use Rattle.std.specs.Prelude.{◌≡◌, ℕ, Some, Option, option_and_then}
use Rattle.hare_types.specs.declared.row.Row.{Row}
use Rattle.hare_types.specs.declared.row.Row.TheVariants as row
use Rattle.hare_types.specs.Trees.{Tree}
use Rattle.hare_types.specs.Store.{Store, tree_at}
use Rattle.hare_types.specs.Layout.{IsBase}

-- the type with id b is what is left of the type with id t, once names and error marks are followed until neither is left
abbrev pub IsBaseOf : Store → ℕ → ℕ → Type 0
IsBaseOf s t b = (u : Tree) × (v : Tree) × (tree_at s t ≡ Some u) × (tree_at s b ≡ Some v) × IsBase s u v

-- what follows for row i from the bases that are kept of others: a row without a name and an error mark is its own base
abbrev pub base_over : (ℕ → Option ℕ) → (ℕ → Option ℕ) → ℕ → Row → Option ℕ
base_over definition bs i (row.Scalar k) = Some i
base_over definition bs i (row.Pointer j) = Some i
base_over definition bs i (row.Nullable j) = Some i
base_over definition bs i (row.Slice j) = Some i
base_over definition bs i (row.Array n j) = Some i
base_over definition bs i (row.Struct fs) = Some i
base_over definition bs i (row.Tuple js) = Some i
base_over definition bs i (row.Union js) = Some i
base_over definition bs i (row.Error j) = bs j
base_over definition bs i (row.Named d) = option_and_then bs (definition d)
