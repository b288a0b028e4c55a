-- What is said of types by their ids is what is said of the trees for which the ids stand.
use Rattle.std.specs.Prelude.{◌≡◌, ◌↔◌, ℕ, ◌+◌, Bool, List, slice_get, Some, Contains}
use Rattle.hare_types.specs.declared.extent.Extent.{Extent}
use Rattle.hare_types.specs.declared.row.Row.{Row}
use Rattle.hare_types.specs.declared.row.Row.TheVariants as row
use Rattle.hare_types.specs.Trees.{Tree, Same}
use Rattle.hare_types.specs.Rows.{Ascends, tree_of, trees}
use Rattle.hare_types.specs.Store.{Store, tree_at}
use Rattle.hare_types.specs.Sound.{IsStore}
use Rattle.hare_types.specs.ByValue.{has_size}
use Rattle.hare_types.specs.Layout.{IsError}
use Rattle.hare_types.specs.Kept.{LiesIn}
use Rattle.hare_types.specs.Bases.{IsBaseOf}
use Rattle.hare_types.specs.ByIds.{row_at, base_at, marked_at, sized_at, extent_at, members_at, tag_at}
use Rattle.hare_types.specs.Unions.{id_of, ascending}

pub record MeanTrees (s : Store) : Type 0 where
  pub tree : (t : ℕ) (r : Row) → row_at s t ≡ Some r → tree_at s t ≡ Some (tree_of (trees s.rows) r)
  pub there : (t : ℕ) (u : Tree) → tree_at s t ≡ Some u → (r : Row) × (row_at s t ≡ Some r)
  -- equal ids exactly for equal types
  pub type : (i j : ℕ) (t u : Tree) → tree_at s i ≡ Some t → tree_at s j ≡ Some u → (i ≡ j) ↔ Same t u
  pub base : (t b : ℕ) → (base_at s t ≡ Some b) ↔ IsBaseOf s t b
  pub marked : (t : ℕ) (b : Bool) → (marked_at s t ≡ Some b) ↔ ((u : Tree) × (tree_at s t ≡ Some u) × IsError s u b)
  pub sized : (t : ℕ) (b : Bool) → (sized_at s t ≡ Some b) ↔ ((u : Tree) × (tree_at s t ≡ Some u) × (has_size s u ≡ Some b))
  pub extent : (t : ℕ) (x : Extent) → (extent_at s t ≡ Some x) ↔ LiesIn s t x
  pub members : (t : ℕ) (is : List ℕ) → (members_at s t ≡ Some is) ↔ ((b : ℕ) × IsBaseOf s t b × (row_at s b ≡ Some (row.Union is)))
  pub id : (r : Row) (t : ℕ) → (id_of s r ≡ Some t) ↔ (row_at s t ≡ Some r)
  pub tag : (t n : ℕ) → (tag_at s t ≡ Some n) ↔ ((k : ℕ) × (n ≡ k + 1) × (slice_get s.listed k ≡ Some t))

abbrev pub IdsMeanTrees : Type 0
IdsMeanTrees = (s : Store) → IsStore s → MeanTrees s

-- these are the same ids, in ascending order, each once
pub record IsAscending (is : List ℕ) : Type 0 where
  pub ascends : Ascends (ascending is)
  pub same : (i : ℕ) → Contains (ascending is) i ↔ Contains is i

abbrev pub IdsAscend : Type 0
IdsAscend = (is : List ℕ) → IsAscending is
