-- Coercions that are settled when the tree of a node is done: of single kids, and of all nodes of a tree by their numbers.
use Rattle.std.specs.Prelude.{ℕ, zero, suc, List, [], ◌∷◌, slice_index_or}
use Rattle.hare_types.specs.declared.coercion.Coercion.{Coercion}
use Rattle.hare_typed.specs.Typed.{TypedNode, TypedNodes, marked, typed_none, typed_more}

-- the tree with this coercion at its root
abbrev pub with_coercion : Coercion → TypedNode → TypedNode
with_coercion r (marked h m ts) = marked h (record m { coerce = r }) ts

-- the trees with this coercion at the root of that with so many before it; where there is none, as they are
abbrev pub settled_at : ℕ → Coercion → List TypedNode → List TypedNode
settled_at n r [] = []
settled_at zero r (t ∷ ts) = with_coercion r t ∷ ts
settled_at (suc n) r (t ∷ ts) = t ∷ settled_at n r ts

-- the tree with these coercions, by the numbers of its nodes; a node with a number behind them keeps its own
abbrev mutual
  pub coat : List Coercion → TypedNode → TypedNode
  coat cs (marked h m ts) = marked h (record m { coerce = slice_index_or cs m.node m.coerce }) (coat_each cs ts)

  pub coat_each : List Coercion → TypedNodes → TypedNodes
  coat_each cs typed_none = typed_none
  coat_each cs (typed_more t ts) = typed_more (coat cs t) (coat_each cs ts)
