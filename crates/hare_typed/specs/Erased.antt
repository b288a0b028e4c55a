-- The untyped tree of a typed one: kind, place, text, number, suffix and kids stay, and what checking found is dropped.
use Rattle.std.specs.Prelude.{List, [], ◌∷◌, ◌++◌}
use Rattle.hare_tree.specs.Node.{Head, Node, Nodes, branch, none, more}
use Rattle.hare_typed.specs.Typed.{TypedNode, TypedNodes, marked, typed_none, typed_more}

abbrev mutual
  pub erase : TypedNode → Node
  erase (marked h m ts) = branch h (erase_each ts)

  pub erase_each : TypedNodes → Nodes
  erase_each typed_none = none
  erase_each (typed_more t ts) = more (erase t) (erase_each ts)

-- what an untyped tree says of its nodes, in check order
abbrev mutual
  pub heads : Node → List Head
  heads (branch h ts) = heads_each ts ++ h ∷ []

  pub heads_each : Nodes → List Head
  heads_each none = []
  heads_each (more t ts) = heads t ++ heads_each ts
