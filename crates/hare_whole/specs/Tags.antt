-- The list of the types that have tags. It begins with the types that are written as members of unions, and goes on with those of the
-- unions that allocations give.
use Rattle.std.specs.Prelude.{ℕ, List, [], ◌∷◌, ◌++◌, Bool, true, false, not, ◌&&◌, ◌==◌, cond, filter, Option, Some, None}
use Rattle.std.specs.Option.{unwrap_or}
use Rattle.std.specs.List.{flat_map}
use Rattle.hare_tree.specs.declared.kind.Kind.{Kind}
use Rattle.hare_tree.specs.declared.kind.Kind.TheVariants as ki
use Rattle.hare_types.specs.declared.coercion.Ty.{Ty}
use Rattle.hare_types.specs.declared.row.Row.TheVariants as row
use Rattle.hare_types.specs.declared.row.Scalar.TheVariants as keyword
use Rattle.hare_types.specs.Store.{Store}
use Rattle.hare_types.specs.Unions.{id_of}
use Rattle.hare_typed.specs.Typed.{TypedNode, TypedNodes, marked, typed_none, typed_more, mark_of}
use Rattle.hare_typed.specs.Order.{check_order}
use Rattle.hare_typed.specs.Numbers.{kind_of, body_of}
use Rattle.hare_rules.specs.Words.{id_in, is_word, row_in, members_in, nomem}

-- ---- written members

-- A member that is itself a union in parentheses is not listed, but its own members are; a spread lists nothing.
abbrev pub is_listed_kind : Kind → Bool
is_listed_kind ki.TypeUnion = false
is_listed_kind ki.Spread = false
is_listed_kind _ = true

abbrev pub ids_of : Option ℕ → List ℕ
ids_of None = []
ids_of (Some t) = t ∷ []

-- what a member lists itself; never lists nothing
abbrev pub member_listed : Store → Kind → Ty → List ℕ
member_listed s k a = cond (is_listed_kind k && not (is_word keyword.Never (row_in s a))) (ids_of (id_in a)) []

abbrev pub is_union : Kind → Bool
is_union ki.TypeUnion = true
is_union _ = false

-- the types that are written as members in a tree, in the order of the source, where the tree is itself a member or not
abbrev mutual
  pub written_in : Store → (is_member : Bool) → TypedNode → List ℕ
  written_in s is_member (marked h m ts) = cond is_member (member_listed s h.kind m.ty) [] ++ written_among s (is_union h.kind) ts

  pub written_among : Store → (are_members : Bool) → TypedNodes → List ℕ
  written_among s are_members typed_none = []
  written_among s are_members (typed_more t ts) = written_in s are_members t ++ written_among s are_members ts

-- ---- allocations

-- the id of `rt::nomem`
abbrev pub nomem_id : Store → Option ℕ
nomem_id s = id_of s (row.Named nomem)

abbrev pub is_id : Option ℕ → ℕ → Bool
is_id None t = false
is_id (Some u) t = t == u

-- of the union that an allocation gives, the other member and then `rt::nomem`
abbrev pub allocation_listed : Store → Ty → List ℕ
allocation_listed s a = filter (λ t. not (is_id (nomem_id s) t)) (unwrap_or (members_in s a) []) ++ ids_of (nomem_id s)

abbrev pub allocated_by : Store → Kind → Ty → List ℕ
allocated_by s ki.Alloc a = allocation_listed s a
allocated_by s ki.Append a = allocation_listed s a
allocated_by s _ a = []

-- in check order
abbrev pub allocated_in : Store → TypedNode → List ℕ
allocated_in s t = flat_map (λ u. allocated_by s (kind_of u) (mark_of u).ty) (check_order t)

abbrev pub bodies_by : Kind → TypedNode → List TypedNode
bodies_by ki.Fn d = body_of d
bodies_by _ d = []

-- ---- the list

-- each once, where it stands first
abbrev pub once : List ℕ → List ℕ
once [] = []
once (t ∷ ts) = t ∷ filter (λ u. not (u == t)) (once ts)

-- the types that have tags, of the declarations of a program
abbrev pub tag_list : Store → List TypedNode → List ℕ
tag_list s ds =
    once (flat_map (written_in s false) ds ++ flat_map (λ d. flat_map (allocated_in s) (bodies_by (kind_of d) d)) ds)
