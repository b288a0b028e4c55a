-- Nodes of written types, and their coercions: each goes to its own type.
use Rattle.std.specs.Prelude.{◌≡◌, ◌⊎◌, ℕ, ◌<◌, Bool, true, false, ◌||◌, List, [], ◌∷◌, map, length, slice_get, Some}
use Rattle.hare_tree.specs.declared.kind.Kind.{Kind}
use Rattle.hare_tree.specs.declared.kind.Kind.TheVariants as ki
use Rattle.hare_tree.specs.Levels.{is_type}
use Rattle.hare_types.specs.declared.coercion.Coercion.{Coercion}
use Rattle.hare_types.specs.declared.coercion.Ty.{Ty}
use Rattle.hare_types.specs.declared.coercion.Ty.TheVariants as ty
use Rattle.hare_types.specs.Store.{Store}
use Rattle.hare_typed.specs.Typed.{TypedNode, TypedNodes, marked, typed_none, typed_more, typed_nodes, mark_of}
use Rattle.hare_typed.specs.Order.{check_order_each}
use Rattle.hare_rules.specs.Context.{own_type}
use Rattle.hare_rules.specs.Flow.{Flow}
use Rattle.hare_find.specs.Lengths.{is_length}
use Rattle.hare_seen.specs.Sizes.{FitsNode, IsLargeNode}
use Rattle.hare_whole.specs.Declared.{before_type}

-- ---- kinds

-- what stands round written types: a field, a spread, and what is left out or a comma at the end
abbrev pub is_around : Kind → Bool
is_around ki.StructField = true
is_around ki.Spread = true
is_around ki.None = true
is_around ki.TrailingComma = true
is_around _ = false

-- all that a written type is made of: types, what stands round them, and lengths
abbrev pub is_written : Kind → Bool
is_written k = is_type k || is_length k || is_around k

-- ---- nodes in check order

-- all that stand in the kids of a node
abbrev pub nodes_in : List TypedNode → List TypedNode
nodes_in xs = check_order_each (typed_nodes xs)

-- the type, where it is one, is in the store
abbrev pub IsIn : Store → Ty → Type 0
IsIn s a = (u : ℕ) → a ≡ ty.Of u → u < length s.rows

abbrev pub StandsIn : Store → TypedNode → Type 0
StandsIn s y = IsIn s (own_type y)

-- the first of some nodes that is too large
abbrev pub IsFirst : Store → List TypedNode → TypedNode → Type 0
IsFirst f [] y = ⊥
IsFirst f (z ∷ zs) y = ((z ≡ y) × IsLargeNode f z) ⊎ (FitsNode f z × IsFirst f zs y)

-- ---- coercions

abbrev pub coercions_of : List TypedNode → List Coercion
coercions_of ys = map (λ y. (mark_of y).coerce) ys

-- what has been seen behind nodes with these coercions: types bind nothing, and nothing is yielded in them
abbrev pub seen_of : List Coercion → Flow
seen_of cs = record before_type { coercions = cs }

-- under the number of each node stands its coercion
abbrev mutual
  pub HasOwn : List Coercion → TypedNode → Type 0
  HasOwn cs (marked h m ts) = (slice_get cs m.node ≡ Some m.coerce) × HaveOwn cs ts

  pub HaveOwn : List Coercion → TypedNodes → Type 0
  HaveOwn cs typed_none = Unit {0}
  HaveOwn cs (typed_more t ts) = HasOwn cs t × HaveOwn cs ts
