-- What a store of types is, what it says of a declaration, and how it grows.
use Rattle.std.specs.Prelude.{◌≡◌, ℕ, Bool, List, [], ◌∷◌, ◌++◌, slice_get, Some, None, Option, option_map, option_and_then, nat_eq}
use Rattle.std.specs.Map.{lookup}
use Rattle.hare_types.specs.declared.row.Row.{Row}
use Rattle.hare_types.specs.declared.declared.Declared.{Declared}
use Rattle.hare_types.specs.Numbering.{Continues}
use Rattle.hare_types.specs.Trees.{Tree}
use Rattle.hare_types.specs.Rows.{trees}

pub record Store : Type 0 where
  pub names : List (List ℕ)  -- spellings, by the numbers of their names
  pub rows : List Row  -- rows, by the ids of their types
  pub declared : List (ℕ × Declared)  -- what was entered of each declared type
  pub listed : List ℕ  -- the types that have tags, in the order of their tags

abbrev pub empty : Store
empty = record { names = []; rows = []; declared = []; listed = [] }

-- the tree for which an id stands
abbrev pub tree_at : Store → ℕ → Option Tree
tree_at s t = slice_get (trees s.rows) t

-- ---- declarations

-- whether the named type has a size, where it is declared
abbrev pub sized_of : Store → ℕ → Option Bool
sized_of s d = option_map (λ e. e.sized) (lookup (nat_eq d) s.declared)

-- the id of what the name is defined to be, where it is defined
abbrev pub definition_of : Store → ℕ → Option ℕ
definition_of s d = option_and_then (λ e. e.definition) (lookup (nat_eq d) s.declared)

-- the tree of what the name is defined to be
abbrev pub meaning_of : Store → ℕ → Option Tree
meaning_of s d = option_and_then (tree_at s) (definition_of s d)

-- the store with one more declaration
abbrev pub with_declared : Store → ℕ → Bool → Store
with_declared s d sized = record s { declared = s.declared ++ (d, record { sized = sized; definition = None }) ∷ [] }

-- ---- growth

-- new has all that old has, under the same numbers
pub record Extends (old new : Store) : Type 0 where
  pub names : Continues old.names new.names
  pub rows : Continues old.rows new.rows
  pub listed : Continues old.listed new.listed
  pub sized : (d : ℕ) (b : Bool) → sized_of old d ≡ Some b → sized_of new d ≡ Some b
  pub defined : (d t : ℕ) → definition_of old d ≡ Some t → definition_of new d ≡ Some t
