-- The definitions of reduction over ids, as the code meets them. No public clause cites it.
use Rattle.std.specs.Prelude.{◌≡◌, ◌≢◌, ℕ, ◌<◌, Bool, true, false, List, length, slice_get, Contains, All, Option, Some, None, ◌⊎◌}
use Rattle.hare_types.specs.declared.row.Row.TheVariants as row
use Rattle.hare_types.specs.declared.row.Scalar.TheVariants as keyword
use Rattle.hare_types.specs.Trees.{Tree, Trees, Scalar, Union}
use Rattle.hare_types.specs.Rows.{tree_in, trees}
use Rattle.hare_types.specs.Store.{Store, tree_at}
use Rattle.hare_types.specs.ByValue.{has_size}
use Rattle.hare_types.specs.Layout.{IsBase}
use Rattle.hare_layout.specs.declared.spelled.Spelled.{Spelled}
use Rattle.hare_layout.specs.Reduction.{IsMember, is_spread, Adds}

-- the type `never`
abbrev pub never : Tree
never = Scalar keyword.Never

-- these are the ids of the types that a member of type t brings
pub record AreBrought (s : Store) (spread : Bool) (t : Tree) (js : List ℕ) : Type 0 where
  pub sound : (j : ℕ) → Contains js j → (u : Tree) × (tree_at s j ≡ Some u) × Adds s spread t u
  pub whole : (u : Tree) → Adds s spread t u → (j : ℕ) × Contains js j × (tree_at s j ≡ Some u)
  pub union : spread ≡ true → (ts : Trees) × IsBase s t (Union ts)
  pub flat : (j : ℕ) (is : List ℕ) → Contains js j → slice_get s.rows j ≢ Some (row.Union is)

-- u is left of the first n members
abbrev pub IsLeftBelow : Store → Spelled → ℕ → Tree → Type 0
IsLeftBelow s r n u = (k : ℕ) × (t : Tree) × (k < n) × IsMember s r k t × Adds s (is_spread r k) t u × (u ≢ Scalar keyword.Never)

-- these are the ids of the types that are left of the first n members
pub record AreLeftBelow (s : Store) (r : Spelled) (n : ℕ) (js : List ℕ) : Type 0 where
  pub sound : (j : ℕ) → Contains js j → (u : Tree) × (tree_at s j ≡ Some u) × IsLeftBelow s r n u
  pub whole : (u : Tree) → IsLeftBelow s r n u → (j : ℕ) × Contains js j × (tree_at s j ≡ Some u)
  pub flat : (j : ℕ) (is : List ℕ) → Contains js j → slice_get s.rows j ≢ Some (row.Union is)

-- whether it is known that something has no size
abbrev pub is_unsized : Option Bool → Bool
is_unsized None = false
is_unsized (Some true) = false
is_unsized (Some false) = true

-- whether it is known that the type with this id has no size
abbrev pub unsized_at : Store → ℕ → Bool
unsized_at s i = is_unsized (has_size s (tree_in (trees s.rows) i))

-- the type's base is no union
abbrev pub IsNoUnion : Store → Tree → Type 0
IsNoUnion s t = (ts : Trees) → ¬ IsBase s t (Union ts)

-- these are ids of the store
abbrev pub AreIds : Store → List ℕ → Type 0
AreIds s is = All (λ i. i < length s.rows) is

-- new has what old has, and those of the types that are not never
pub record Gains (s : Store) (old new types : List ℕ) : Type 0 where
  pub kept : (j : ℕ) → Contains old j → Contains new j
  pub gained : (j : ℕ) → Contains types j → tree_at s j ≢ Some (Scalar keyword.Never) → Contains new j
  pub only : (j : ℕ) → Contains new j → Contains old j ⊎ (Contains types j × (tree_at s j ≢ Some (Scalar keyword.Never)))
