-- What is seen behind a node's turn.
use Rattle.std.specs.Prelude.{◌≡◌, ℕ, List, slice_set, Option, Some, None}
use Rattle.hare_tree.specs.Node.{Head}
use Rattle.hare_types.specs.Store.{Store}
use Rattle.hare_typed.specs.Typed.{TypedNode}
use Rattle.hare_rules.specs.Context.{Setting, Context, Entry}
use Rattle.hare_rules.specs.Above.{Above}
use Rattle.hare_rules.specs.Flow.{Flow}
use Rattle.hare_walk.specs.Walks.{AreInHand}
use Rattle.hare_find.specs.declared.yields.Levels.{Levels}
use Rattle.hare_find.specs.Levels.{AreLevels}

-- the context is that of a node with this head and these kids
pub record HasKids (c : Context) (h : Head) (xs : List TypedNode) : Type 0 where
  pub head : c.head ≡ h
  pub kids : c.kids ≡ xs

-- this is known of the binding with a number, where anything more is known of it
abbrev pub bound_to : Option Entry → ℕ → List Entry → List Entry
bound_to None n ls = ls
bound_to (Some e) n ls = slice_set ls n e

-- Over the node stands this, so many bindings begin before it, values go so from it and to it, and its kids carry what is settled.
pub record Closes (w : Store → Setting) (a : Above) (h : Head) (xs : List TypedNode) (f : Flow) (begun : ℕ) (ways : Levels) : Type 0 where
  pub store : (l : Store) → (w l).store ≡ l
  pub first : a.first ≡ begun
  pub levels : AreLevels a.inside.labels h ways
  pub hand : AreInHand f xs
