-- What a well-typed tree is, and which fault of a body is the first: by recursion over the finished tree. What the tree carries is
-- looked at, and nothing is inferred.
use Rattle.std.specs.Prelude.{◌≡◌, List, [], ◌∷◌, ◌++◌, map, Some, None, ◌⊎◌, IsTrue}
use Rattle.hare_tree.specs.declared.place.Fault.{Fault}
use Rattle.hare_tree.specs.declared.form.Sort.{Sort}
use Rattle.hare_tree.specs.declared.form.Sort.TheVariants as so
use Rattle.hare_tree.specs.Shape.{is_shaped}
use Rattle.hare_tree.specs.Node.{Head, Node, Nodes, branch, none, more}
use Rattle.hare_types.specs.declared.coercion.Coercion.{Coercion}
use Rattle.hare_typed.specs.Typed.{TypedNode, TypedNodes, Mark, marked, typed_none, typed_more, typed_nodes, mark_of}
use Rattle.hare_typed.specs.Erased.{erase, erase_each}
use Rattle.hare_typed.specs.Order.{check_order}
use Rattle.hare_rules.specs.declared.row_id.RowId.{RowId}
use Rattle.hare_rules.specs.Context.{Setting, Context}
use Rattle.hare_rules.specs.Above.{Above, over_kid}
use Rattle.hare_rules.specs.Flow.{Flow, meaning_of, flow_before, flow_after, context, all_settled}
use Rattle.hare_rules.specs.Settles.{same}
use Rattle.hare_rules.specs.Types.{type_of}
use Rattle.hare_rules.specs.Rows.{first_failing, fault_of}
use Rattle.hare_rules.specs.Values.{value_of}

-- the coercions of a tree, in check order
abbrev pub coercions : TypedNode → List Coercion
coercions t = map (λ u. (mark_of u).coerce) (check_order t)

-- a tree without its coercions: these are settled one by one, also behind the node itself
abbrev mutual
  pub bare : TypedNode → TypedNode
  bare (marked h m ts) = marked h (record m { coerce = same m.ty }) (typed_nodes (bare_each ts))

  pub bare_each : TypedNodes → List TypedNode
  bare_each typed_none = []
  bare_each (typed_more t ts) = bare t ∷ bare_each ts

-- what has been seen behind a finished tree, and behind the kids of a node that are left
abbrev mutual
  pub behind : Setting → Above → TypedNode → Flow → Flow
  behind w a (marked h m ts) f = flow_after w a h (bare_each ts) (behind_each w a h [] ts f)

  pub behind_each : Setting → Above → Head → List TypedNode → TypedNodes → Flow → Flow
  behind_each w a h xs typed_none f = f
  behind_each w a h xs (typed_more t ts) f =
      behind_each w a h (xs ++ bare t ∷ []) ts (behind w (over_kid w a h xs (erase t) (erase_each ts)) t (flow_before w a h xs f))

-- A node meets its whole list, and carries the type, the number, the meaning and the constant that follow from its context.
pub record Carries (c : Context) (m : Mark) : Type 0 where
  pub rows : first_failing c ≡ None
  pub type : type_of c ≡ Some m.ty
  pub node : m.node ≡ c.node
  pub meaning : m.meaning ≡ meaning_of c.setting c.head
  pub value : m.value ≡ value_of c

-- Each node of the tree does, in the context that the finished tree gives it.
abbrev mutual
  pub AllCarry : Setting → Above → TypedNode → Flow → Type 0
  AllCarry w a (marked h m ts) f = EachCarries w a h [] ts f × Carries (context w a h (bare_each ts) (behind_each w a h [] ts f)) m

  pub EachCarries : Setting → Above → Head → List TypedNode → TypedNodes → Flow → Type 0
  EachCarries w a h xs typed_none f = Unit {0}
  EachCarries w a h xs (typed_more t ts) f =
      AllCarry w (over_kid w a h xs (erase t) (erase_each ts)) t (flow_before w a h xs f)
      × EachCarries w a h (xs ++ bare t ∷ []) ts (behind w (over_kid w a h xs (erase t) (erase_each ts)) t (flow_before w a h xs f))

-- bodies and values of declarations are expressions
abbrev pub expression : Sort
expression = so.Level 1

-- The tree is well typed: without what checking found it is shaped as an expression, its nodes carry what they should, and its
-- coercions are those that are settled.
pub record IsWell (w : Setting) (a : Above) (f : Flow) (tt : TypedNode) : Type 0 where
  pub shaped : IsTrue (is_shaped expression (erase tt))
  pub carries : AllCarry w a tt f
  pub coerced : f.coercions ++ coercions tt ≡ all_settled (behind w a tt f)

-- The first node in check order that fails its list stands in the tree, with this context, and this is the first row that it fails. It
-- stands in a kid, where the nodes before it have types that meet their lists; or it is the root, where all kids have.
abbrev mutual
  pub FailsIn : Setting → Above → Node → Flow → RowId → Context → Type 0
  FailsIn w a (branch h ts) f r c =
      EachFails w a h [] ts f r c
      ⊎ ((xs : TypedNodes) × (erase_each xs ≡ ts) × EachCarries w a h [] xs f ×
      (c ≡ context w a h (bare_each xs) (behind_each w a h [] xs f)) × (first_failing c ≡ Some r))

  pub EachFails : Setting → Above → Head → List TypedNode → Nodes → Flow → RowId → Context → Type 0
  EachFails w a h xs none f r c = ⊥
  EachFails w a h xs (more t ts) f r c =
      FailsIn w (over_kid w a h xs t ts) t (flow_before w a h xs f) r c
      ⊎ ((x : TypedNode)
      × (erase x ≡ t)
      × AllCarry w (over_kid w a h xs t ts) x (flow_before w a h xs f)
      × EachFails w a h (xs ++ bare x ∷ []) ts (behind w (over_kid w a h xs t ts) x (flow_before w a h xs f)) r c)

-- the tree is well typed and erases to the body, and no other is
pub record IsTheTree (w : Setting) (a : Above) (f : Flow) (t : Node) (tt : TypedNode) : Type 0 where
  pub well : IsWell w a f tt
  pub erases : erase tt ≡ t
  pub only : (u : TypedNode) → erase u ≡ t → IsWell w a f u → u ≡ tt

-- This is the fault of the first row that fails at the first node that fails; no other row and no tree is.
pub record IsTheFault (w : Setting) (a : Above) (f : Flow) (t : Node) (e : Fault) : Type 0 where
  pub row : RowId
  pub at : Context
  pub fails : FailsIn w a t f row at
  pub is : e ≡ fault_of row at
  pub only : (r : RowId) (c : Context) → FailsIn w a t f r c → fault_of r c ≡ e
  pub unwell : (u : TypedNode) → erase u ≡ t → ¬ IsWell w a f u
