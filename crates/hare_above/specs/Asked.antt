-- What a node asks of its next kid, as the definition has it, of what the walk has in hand.
use Rattle.std.specs.Prelude.{◌≡◌, ◌+◌, List, length, map, drop, slice_get, Some}
use Rattle.hare_tree.specs.declared.kind.Kind.{Kind}
use Rattle.hare_tree.specs.Node.{Nodes, head, nodes_of}
use Rattle.hare_types.specs.Store.{Store}
use Rattle.hare_types.specs.Later.{IsLater}
use Rattle.hare_typed.specs.Typed.{TypedNode, typed_nodes}
use Rattle.hare_rules.specs.declared.hint.Hint.{Hint}
use Rattle.hare_rules.specs.declared.declared.DeclType.{DeclType}
use Rattle.hare_rules.specs.Context.{Setting, Open}
use Rattle.hare_rules.specs.Above.{hint_of, unless_bare}
use Rattle.hare_rules.specs.Finished.{bare}
use Rattle.rule_judge.specs.Defined.{IsDefined, IsDefinedHint, AreDefinedTrees}
use Rattle.hare_above.specs.declared.asking.Asking.{Asking}
use Rattle.hare_above.specs.Frames.{opens}
use Rattle.hare_above.specs.Ready.{AreDefinedOpens, IsKnown}

-- The program over a later store: its declarations are these, and whatever paths mean.
pub record IsProgram (s : Store) (ds : List DeclType) (w : Setting) : Type 0 where
  pub later : IsLater s w.store
  pub decls : w.decls ≡ ds

-- the same for each store
pub record AreDeclared (ds : List DeclType) (w : Store → Setting) : Type 0 where
  pub store : (s : Store) → (w s).store ≡ s
  pub decls : (s : Store) → (w s).decls ≡ ds

-- ---- a node and its next kid

abbrev pub done_in : Asking → List TypedNode
done_in q = map bare q.done.now

-- the kids behind the next one
abbrev pub rest_in : Asking → Nodes
rest_in q = nodes_of (drop (length q.done.now + 1) q.kids.now)

abbrev pub labels_in : Asking → List Open
labels_in q = opens q.labels.now q.hints.now

-- what a node of this kind would ask, where nothing is said of bare parts
abbrev pub asked_as : Setting → Asking → Kind → Hint
asked_as w q k = hint_of w (head q.node.now) q.own q.values (labels_in q) q.result (done_in q) q.kid.now (rest_in q) k

abbrev pub asked : Setting → Asking → Hint
asked w q = unless_bare (head q.kid.now).kind (asked_as w q (head q.node.now).kind)

-- the kid is the next one, and each type in hand mentions no name that is not defined
pub record IsAsking (s : Store) (decls : List DeclType) (q : Asking) : Type 0 where
  pub next : slice_get q.kids.now (length q.done.now) ≡ Some q.kid.now
  pub hints : length q.hints.now ≡ length q.labels.now
  pub own : IsDefinedHint s q.own
  pub values : IsDefinedHint s q.values
  pub result : IsDefined s q.result
  pub labels : AreDefinedOpens s (labels_in q)
  pub done : AreDefinedTrees s (typed_nodes q.done.now)
  pub known : IsKnown s decls
