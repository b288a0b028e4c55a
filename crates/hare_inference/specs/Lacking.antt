-- Where a store lacks a type: neither is a tree well typed over it, nor has it a first fault. No such store is left by a checker, which
-- puts in each type that it makes.
use Rattle.std.specs.Prelude.{◌≡◌, List, [], ◌∷◌, ◌++◌, None, ◌⊎◌}
use Rattle.hare_tree.specs.Node.{Head, Node, Nodes, branch, none, more}
use Rattle.hare_typed.specs.Typed.{TypedNode, TypedNodes}
use Rattle.hare_typed.specs.Erased.{erase, erase_each}
use Rattle.hare_rules.specs.Context.{Setting, Context}
use Rattle.hare_rules.specs.Above.{Above, over_kid}
use Rattle.hare_rules.specs.Flow.{Flow, flow_before, context}
use Rattle.hare_rules.specs.Types.{type_of}
use Rattle.hare_rules.specs.Rows.{first_failing}
use Rattle.hare_rules.specs.Finished.{bare, bare_each, behind, behind_each, AllCarry, EachCarries}

-- The first node in check order that has no type stands in the tree, with this context: it meets its list, and the store lacks the type of
-- what it gives. It stands in a kid, where the nodes before it have types that meet their lists; or it is the root, where all kids have.
abbrev mutual
  pub LacksIn : Setting → Above → Node → Flow → Context → Type 0
  LacksIn w a (branch h ts) f c =
      EachLacks w a h [] ts f c
      ⊎ ((xs : TypedNodes) × (erase_each xs ≡ ts) × EachCarries w a h [] xs f × (c ≡ context w a h (bare_each xs)
      (behind_each w a h [] xs f))
      × (first_failing c ≡ None) × (type_of c ≡ None))

  pub EachLacks : Setting → Above → Head → List TypedNode → Nodes → Flow → Context → Type 0
  EachLacks w a h xs none f c = ⊥
  EachLacks w a h xs (more t ts) f c =
      LacksIn w (over_kid w a h xs t ts) t (flow_before w a h xs f) c
      ⊎ ((x : TypedNode)
      × (erase x ≡ t)
      × AllCarry w (over_kid w a h xs t ts) x (flow_before w a h xs f)
      × EachLacks w a h (xs ++ bare x ∷ []) ts (behind w (over_kid w a h xs t ts) x (flow_before w a h xs f)) c)
