-- Which written types are too large. A type may turn out to be so once a name that it holds by value is defined.
use Rattle.std.specs.Prelude.{◌≡◌, ℕ, ◌<◌, Bool, true, false, List, ◌∷◌, ◌++◌, length, flat_map, Option, Some, None, option_map, Contains}
use Rattle.hare_tree.specs.declared.kind.Kind.{Kind}
use Rattle.hare_tree.specs.declared.kind.Kind.TheVariants as ki
use Rattle.hare_tree.specs.declared.place.Place.{Place}
use Rattle.hare_tree.specs.declared.place.Fault.{Fault}
use Rattle.hare_types.specs.declared.coercion.Ty.TheVariants as ty
use Rattle.hare_types.specs.declared.row.Row.{Row}
use Rattle.hare_types.specs.declared.row.Row.TheVariants as row
use Rattle.hare_types.specs.Store.{Store}
use Rattle.hare_types.specs.ByIds.{row_at, extent_at}
use Rattle.hare_typed.specs.Typed.{TypedNode}
use Rattle.hare_typed.specs.Numbers.{kind_of}
use Rattle.hare_typed.specs.Order.{check_order}
use Rattle.hare_rules.specs.declared.row_id.RowId.{RowId}
use Rattle.hare_rules.specs.declared.row_id.RowId.TheVariants as rows
use Rattle.hare_rules.specs.Aggregates.{is_small}
use Rattle.hare_rules.specs.Context.{own_type}

-- ---- one type

-- no more bytes than a type may have, as far as they are known
abbrev pub is_small_at : Store → ℕ → Bool
is_small_at s u = is_small (option_map (λ x. x.size) (extent_at s u))

-- The row that asks whether a written type of this kind is small, where it stands in the store as this row. What is left of a union may be
-- one member alone: that has been looked at where it is written.
abbrev pub size_row_by : Kind → Option Row → Option RowId
size_row_by ki.TypeArray r = Some rows.ArrayTypeSmall
size_row_by ki.TypeStruct r = Some rows.FieldsSmall
size_row_by ki.TypeTuple r = Some rows.FieldsSmall
size_row_by ki.TypeUnion (Some (row.Union is)) = Some rows.UnionSmall
size_row_by _ r = None

abbrev pub size_row : Store → Kind → ℕ → Option RowId
size_row s k u = size_row_by k (row_at s u)

-- where a row asks for it, the type is small
abbrev pub FitsAs : Store → Kind → ℕ → Type 0
FitsAs s k u = (r : RowId) → size_row s k u ≡ Some r → is_small_at s u ≡ true

-- ---- nodes of typed trees

abbrev pub FitsNode : Store → TypedNode → Type 0
FitsNode s y = (u : ℕ) → own_type y ≡ ty.Of u → FitsAs s (kind_of y) u

-- a row asks for it, and the type is known to be too large
pub record IsLargeNode (s : Store) (y : TypedNode) : Type 0 where
  pub id : ℕ
  pub row : RowId
  pub type : own_type y ≡ ty.Of id
  pub asks : size_row s (kind_of y) id ≡ Some row
  pub large : is_small_at s id ≡ false

-- ---- written types of a declaration, each a tree

-- their nodes in check order
abbrev pub nodes_of_types : List TypedNode → List TypedNode
nodes_of_types ts = flat_map check_order ts

abbrev pub AllFit : Store → List TypedNode → Type 0
AllFit s ts = (y : TypedNode) → Contains (nodes_of_types ts) y → FitsNode s y

-- each type that stands at a node is in the store
abbrev pub StandIn : Store → List TypedNode → Type 0
StandIn s ts = (y : TypedNode) (u : ℕ) → Contains (nodes_of_types ts) y → own_type y ≡ ty.Of u → u < length s.rows

-- the first node in check order that is too large, behind so many others
pub record IsFirstLarge (s : Store) (ts : List TypedNode) (order : ℕ) (y : TypedNode) : Type 0 where
  pub before : List TypedNode
  pub behind : List TypedNode
  pub nodes : nodes_of_types ts ≡ before ++ y ∷ behind
  pub count : length before ≡ order
  pub fit : (x : TypedNode) → Contains before x → FitsNode s x
  pub large : IsLargeNode s y

-- the fault of a type that is too large, at its place
abbrev pub too_large : Place → Fault
too_large p = record { number = 18; place = p }
