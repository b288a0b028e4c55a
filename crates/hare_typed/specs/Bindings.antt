-- The bindings of a declaration, which are numbered in the order in which their trees begin.
use Rattle.std.specs.Prelude.{ℕ, ◌+◌, Bool, true, false, if◌then◌else◌}
use Rattle.hare_tree.specs.declared.kind.Kind.{Kind}
use Rattle.hare_tree.specs.declared.kind.Kind.TheVariants as kind
use Rattle.hare_typed.specs.Typed.{TypedNode, TypedNodes, marked, typed_none, typed_more}

-- parameters, `let` and `const`, the binding of a loop over elements, and the `let` of a case
abbrev pub begins_binding : Kind → Bool
begins_binding kind.Param = true
begins_binding kind.Let = true
begins_binding kind.Const = true
begins_binding kind.Binding = true
begins_binding kind.PatternLet = true
begins_binding _ = false

abbrev pub own_bindings : Kind → ℕ
own_bindings k = if begins_binding k then 1 else 0

abbrev mutual
  -- the bindings that begin in a tree
  pub bindings_in : TypedNode → ℕ
  bindings_in (marked h m ts) = own_bindings h.kind + bindings_in_each ts

  pub bindings_in_each : TypedNodes → ℕ
  bindings_in_each typed_none = 0
  bindings_in_each (typed_more t ts) = bindings_in t + bindings_in_each ts
