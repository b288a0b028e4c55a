-- Nodes of written types whose bytes are not known, and what is kept of them.
use Rattle.std.specs.Prelude.{◌≡◌, ◌⊎◌, ℕ, ◌<◌, true, false, cond, ◌&&◌, List, length, Option, Some, None, is_some, is_none, option_map, filter_map, Contains}
use Rattle.std.specs.List.{enumerate_from}
use Rattle.hare_tree.specs.declared.kind.Kind.{Kind}
use Rattle.hare_types.specs.declared.coercion.Ty.{Ty}
use Rattle.hare_types.specs.declared.coercion.Ty.TheVariants as ty
use Rattle.hare_types.specs.Store.{Store}
use Rattle.hare_types.specs.ByIds.{extent_at}
use Rattle.hare_typed.specs.Typed.{TypedNode}
use Rattle.hare_typed.specs.Numbers.{kind_of}
use Rattle.hare_rules.specs.declared.row_id.RowId.{RowId}
use Rattle.hare_rules.specs.Context.{own_type, place_of}
use Rattle.hare_seen.specs.Sizes.{size_row, is_small_at}
use Rattle.hare_waits.specs.declared.waiting.Waiting.{Waiting}

-- the node has this type, a row asks for its size, and its bytes are not known
pub record IsUnmeasured (s : Store) (y : TypedNode) (u : ℕ) : Type 0 where
  pub row : RowId
  pub type : own_type y ≡ ty.Of u
  pub asks : size_row s (kind_of y) u ≡ Some row
  pub unknown : extent_at s u ≡ None

-- what is kept of the node of a declaration that has so many nodes before it
abbrev pub kept_of : (decl order : ℕ) → TypedNode → (type : ℕ) → Waiting
kept_of m o y u = record { decl = m; order = o; place = place_of y; ty = u }

-- ---- all nodes of some types

abbrev pub unmeasured_as : Store → Kind → Ty → Option ℕ
unmeasured_as s k (ty.Of u) = cond (is_some (size_row s k u) && is_none (extent_at s u)) (Some u) None
unmeasured_as s k (ty.Iconst n) = None
unmeasured_as s k ty.Null = None
unmeasured_as s k ty.Empty = None

-- the type of a node whose bytes are not known, where a row asks for its size
abbrev pub unmeasured_type : Store → TypedNode → Option ℕ
unmeasured_type s y = unmeasured_as s (kind_of y) (own_type y)

-- what is kept of these nodes, of which the first has so many before it
abbrev pub unmeasured : Store → (decl order : ℕ) → List TypedNode → List Waiting
unmeasured s m o ys = filter_map (λ e. option_map (kept_of m e.0 e.1) (unmeasured_type s e.1)) (enumerate_from o ys)

-- each type that stands at one of these nodes is in the store
abbrev pub AreIn : Store → List TypedNode → Type 0
AreIn s ys = (y : TypedNode) (u : ℕ) → Contains ys y → own_type y ≡ ty.Of u → u < length s.rows

-- ---- the first of those that are kept

-- it stands in an earlier declaration, or before the other in check order
abbrev pub ComesBefore : Waiting → Waiting → Type 0
ComesBefore v w = (v.decl < w.decl) ⊎ ((v.decl ≡ w.decl) × (v.order < w.order))

-- the first of these that is too large, where there is one
abbrev pub IsFirstOf : Store → List Waiting → Option Waiting → Type 0
IsFirstOf s ws None = (w : Waiting) → Contains ws w → is_small_at s w.ty ≡ true
IsFirstOf s ws (Some f) = Contains ws f × (is_small_at s f.ty ≡ false) ×
    ((w : Waiting) → Contains ws w → is_small_at s w.ty ≡ false → ¬ ComesBefore w f)
