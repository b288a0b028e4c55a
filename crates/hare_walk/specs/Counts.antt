-- How many nodes are finished and how many bindings have begun, as a walk goes on.
use Rattle.std.specs.Prelude.{◌≡◌, ◌+◌, Bool, true, false, List}
use Rattle.hare_tree.specs.declared.kind.Kind.{Kind}
use Rattle.hare_tree.specs.declared.kind.Kind.TheVariants as ki
use Rattle.hare_tree.specs.Node.{Head, Node, Nodes}
use Rattle.hare_typed.specs.Typed.{TypedNode}
use Rattle.hare_typed.specs.Erased.{erase}
use Rattle.hare_typed.specs.Bindings.{own_bindings, bindings_in}
use Rattle.hare_rules.specs.Above.{Above, trees_in, trees_of, bindings_of, number_above}
use Rattle.hare_walk.specs.declared.counts.Counts.{Counts}
use Rattle.hare_walk.specs.declared.counts.At.{At}

-- a tree of this kind stands round kids of its own as a label: a jump can mean it
abbrev pub is_labelled : Kind → Bool
is_labelled ki.For = true
is_labelled ki.ForEach = true
is_labelled ki.Block = true
is_labelled ki.Case = true
is_labelled ki.SwitchCase = true
is_labelled _ = false

-- what is counted where a tree begins over which this stands
pub record IsBegun (a : Above) (c : Counts) : Type 0 where
  pub nodes : c.nodes ≡ a.begins
  pub bindings : c.bindings ≡ a.first

-- what is counted behind these kids of a node
pub record IsAmong (a : Above) (h : Head) (xs : List TypedNode) (c : Counts) : Type 0 where
  pub nodes : c.nodes ≡ a.begins + trees_of xs
  pub bindings : c.bindings ≡ a.first + own_bindings h.kind + bindings_of xs

-- what is counted behind a tree, of what was counted before it
pub record IsBehind (c : Counts) (x : TypedNode) (d : Counts) : Type 0 where
  pub nodes : d.nodes ≡ c.nodes + trees_in (erase x)
  pub bindings : d.bindings ≡ c.bindings + bindings_in x

-- where the next kid of a node stands, behind these; and the number that the node gets, where it is a label
pub record IsAt (a : Above) (h : Head) (xs : List TypedNode) (t : Node) (rest : Nodes) (at : At) : Type 0 where
  pub begins : at.begins ≡ a.begins + trees_of xs
  pub first : at.first ≡ a.first + own_bindings h.kind + bindings_of xs
  pub number : is_labelled h.kind ≡ true → at.number ≡ number_above a xs t rest
