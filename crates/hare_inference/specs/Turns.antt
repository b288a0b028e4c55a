-- A node's turn: the tree in hand behind it is the node with its own coercion, over the kids with those that the node settles of them.
use Rattle.std.specs.Prelude.{◌≡◌, [], Some}
use Rattle.hare_tree.specs.Node.{Head}
use Rattle.hare_typed.specs.Typed.{TypedNode, TypedNodes, Mark, marked, typed_nodes}
use Rattle.hare_typed.specs.Coats.{coat}
use Rattle.hare_rules.specs.Context.{Setting, Context}
use Rattle.hare_rules.specs.Above.{Above}
use Rattle.hare_rules.specs.Settles.{settled_kids}
use Rattle.hare_rules.specs.Flow.{Flow, context, settled_type}
use Rattle.hare_rules.specs.Finished.{bare, bare_each, behind, behind_each, AllCarry}

-- the node of this context with this mark, when its turn is over
abbrev pub turned : Context → Mark → TypedNode
turned c m = marked c.head (record m { coerce = settled_type c (Some m.ty) }) (typed_nodes (settled_kids c))

-- All else that has been settled stays: what stands below the kids, and a kid of which the node settles nothing.
abbrev pub TurnsSettle : Type 0
TurnsSettle =
    (w : Setting) (a : Above) (h : Head) (m : Mark) (ts : TypedNodes) (f : Flow)
    → AllCarry w a (marked h m ts) f
    → coat (behind w a (marked h m ts) f).coercions (bare (marked h m ts)) ≡ turned (context w a h (bare_each ts)
    (behind_each w a h [] ts f)) m
