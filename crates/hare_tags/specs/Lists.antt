-- The types that get tags, as they are put one behind another. No public clause cites it.
use Rattle.std.specs.Prelude.{ℕ, List, [], ◌∷◌, ◌++◌, Bool, true, false, not, ◌==◌, nat_eq, cond, flat_map, if◌then◌else◌, Some}
use Rattle.std.specs.List.{list_any}
use Rattle.hare_tree.specs.declared.kind.Kind.{Kind}
use Rattle.hare_tree.specs.declared.kind.Kind.TheVariants as ki
use Rattle.hare_types.specs.declared.coercion.Ty.{Ty}
use Rattle.hare_types.specs.declared.row.Row.{Row}
use Rattle.hare_types.specs.declared.row.Row.TheVariants as row
use Rattle.hare_types.specs.declared.row.Scalar.TheVariants as keyword
use Rattle.hare_types.specs.Store.{Store}
use Rattle.hare_typed.specs.Typed.{TypedNode, TypedNodes, mark_of}
use Rattle.hare_typed.specs.Order.{check_order_each}
use Rattle.hare_typed.specs.Numbers.{kind_of}
use Rattle.hare_rules.specs.Words.{id_in, is_word, row_in, nomem}
use Rattle.hare_whole.specs.Tags.{ids_of, member_listed, written_in, allocated_by, allocated_in, bodies_by}

-- a list of types with one more, unless it is there
abbrev pub with_tag : List ℕ → ℕ → List ℕ
with_tag ts t = if list_any (λ u. u == t) ts then ts else ts ++ t ∷ []

-- ---- written members

abbrev pub is_never_row : Row → Bool
is_never_row r = is_word keyword.Never (Some r)

-- the type of a member, unless it is never
abbrev pub unless_never : Store → Ty → List ℕ
unless_never s a = cond (not (is_word keyword.Never (row_in s a))) (ids_of (id_in a)) []

-- what a tree lists itself, where it is a member
abbrev pub listed_if : Store → (is_member : Bool) → Kind → Ty → List ℕ
listed_if s is_member k a = cond is_member (member_listed s k a) []

-- ---- allocations

abbrev pub is_function : Kind → Bool
is_function ki.Fn = true
is_function _ = false

abbrev pub is_nomem_row : Row → Bool
is_nomem_row (row.Named d) = nat_eq d nomem
is_nomem_row _ = false

abbrev pub allocated_among : Store → TypedNodes → List ℕ
allocated_among s ts = flat_map (λ u. allocated_by s (kind_of u) (mark_of u).ty) (check_order_each ts)

-- those of the body of a function; of other declarations none
abbrev pub body_types : Store → TypedNode → List ℕ
body_types s d = flat_map (allocated_in s) (bodies_by (kind_of d) d)

-- ---- all

abbrev pub types_of : Store → List TypedNode → List ℕ
types_of s ds = flat_map (written_in s false) ds ++ flat_map (body_types s) ds
