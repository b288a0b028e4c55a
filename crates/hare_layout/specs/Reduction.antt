-- What a type that is spelled in a program is reduced to. Spelled, a union may have members that are spread, that are unnamed unions
-- themselves, that are never, and that stand twice; reduced, it is a set of at least two types, none of them never or an unnamed union.
use Rattle.std.specs.Prelude.{◌≡◌, ◌≢◌, ℕ, Bool, true, false, List, [], ◌∷◌, slice_get, slice_index_or, Contains, Option, Some, None, IsSome, MatchOption}
use Rattle.hare_tree.specs.declared.place.Place.{Place}
use Rattle.hare_types.specs.declared.row.Row.{Row}
use Rattle.hare_types.specs.declared.row.Row.TheVariants as row
use Rattle.hare_types.specs.declared.row.Scalar.TheVariants as keyword
use Rattle.hare_types.specs.Trees.{Tree, Trees, Scalar, Pointer, Nullable, Slice, Array, Struct, Tuple, Union, Error, Named, SomeTree}
use Rattle.hare_types.specs.Rows.{Ascends, tree_of, trees}
use Rattle.hare_types.specs.Store.{Store, tree_at}
use Rattle.hare_types.specs.Layout.{IsBase}
use Rattle.hare_layout.specs.declared.spelled.Spelled.{Spelled}

-- ---- what is written

-- the members of a union, as written
abbrev pub written : Row → Option (List ℕ)
written (row.Union is) = Some is
written (row.Scalar k) = None
written (row.Pointer i) = None
written (row.Nullable i) = None
written (row.Slice i) = None
written (row.Array n i) = None
written (row.Struct fs) = None
written (row.Tuple is) = None
written (row.Error i) = None
written (row.Named d) = None

-- member k of the union is this type
abbrev pub IsMember : Store → Spelled → ℕ → Tree → Type 0
IsMember s r k t = (is : List ℕ) × (i : ℕ) × (written r.row ≡ Some is) × (slice_get is k ≡ Some i) × (tree_at s i ≡ Some t)

-- whether member k is spread: one of which nothing is said is not
abbrev pub is_spread : Spelled → ℕ → Bool
is_spread r k = slice_index_or r.spreads k false

-- where member k stands: one of which nothing is said stands where the type does
abbrev pub place_of : Spelled → Place → ℕ → Place
place_of r place k = slice_index_or r.places k place

-- ---- what is left

-- a written member that is not spread brings its own members, where it is an unnamed union, and else itself
abbrev pub Brings : Tree → Tree → Type 0
Brings (Union ts) u = SomeTree (λ t. t ≡ u) ts
Brings (Scalar k) u = Scalar k ≡ u
Brings (Pointer t) u = Pointer t ≡ u
Brings (Nullable t) u = Nullable t ≡ u
Brings (Slice t) u = Slice t ≡ u
Brings (Array n t) u = Array n t ≡ u
Brings (Struct ns ts) u = Struct ns ts ≡ u
Brings (Tuple ts) u = Tuple ts ≡ u
Brings (Error t) u = Error t ≡ u
Brings (Named d) u = Named d ≡ u

-- One that is spread brings the members of the union that is its base: names and error marks are followed.
abbrev pub Spreads : Store → Tree → Tree → Type 0
Spreads s t u = (ts : Trees) × IsBase s t (Union ts) × SomeTree (λ m. m ≡ u) ts

abbrev pub Adds : Store → Bool → Tree → Tree → Type 0
Adds s true t u = Spreads s t u
Adds s false t u = Brings t u

-- u is left in the union: one of its members brings it, and it is not never
abbrev pub IsLeft : Store → Spelled → Tree → Type 0
IsLeft s r u = (k : ℕ) × (t : Tree) × IsMember s r k t × Adds s (is_spread r k) t u × (u ≢ Scalar keyword.Never)

-- the spelled type is a union, and these are the ids of the types that are left in it, in ascending order: each once
pub record AreLeft (s : Store) (r : Spelled) (is : List ℕ) : Type 0 where
  pub union : IsSome (written r.row)
  pub ascend : Ascends is
  pub sound : (i : ℕ) → Contains is i → (u : Tree) × (tree_at s i ≡ Some u) × IsLeft s r u
  pub whole : (u : Tree) → IsLeft s r u → (i : ℕ) × Contains is i × (tree_at s i ≡ Some u)

-- ---- the reduced type

-- the type of which these are the members: one alone is itself, and there is none of no member
abbrev pub type_of : Store → List ℕ → Option Tree
type_of s [] = None
type_of s (i ∷ []) = tree_at s i
type_of s (i ∷ j ∷ is) = Some (tree_of (trees s.rows) (row.Union (i ∷ j ∷ is)))

-- The spelled type is reduced to u: a union to what is left in it, and any other type is so already.
abbrev pub IsReducedTo : Store → Spelled → Tree → Type 0
IsReducedTo s r u = MatchOption (written r.row) (tree_of (trees s.rows) r.row ≡ u)
    (λ _. (is : List ℕ) × AreLeft s r is × (type_of s is ≡ Some u))
