-- What a walk from right to left has met that leaves nodes. No public clause cites this.
use Rattle.std.specs.Prelude.{◌≡◌, ℕ, List, [], ◌∷◌, ◌++◌, Bool, false, not, flat_map, reverse}
use Rattle.hare_tree.specs.declared.kind.Kind.{Kind}
use Rattle.hare_tree.specs.declared.kind.Kind.TheVariants as kind
use Rattle.hare_typed.specs.Typed.{TypedNode, head_of}
use Rattle.hare_typed.specs.Copies.{Exit, way_of, exit_by, ends_at}
use Rattle.hare_costs.specs.declared.leaving.Way.{Way}
use Rattle.hare_costs.specs.declared.leaving.Way.TheVariants as way
use Rattle.hare_costs.specs.declared.leaving.Leaving.{Leaving}

-- a kind of node that goes this way
abbrev pub kind_by : Way → Kind
kind_by way.Return = kind.Return
kind_by way.Break = kind.Break
kind_by way.Yield = kind.Yield

-- the one exit that was met
abbrev pub exit_of : Leaving → List Exit
exit_of l = exit_by (way_of (kind_by l.way)) l.label.now

-- what a node itself leaves with
abbrev pub own_exit : TypedNode → List Exit
own_exit t = exit_by (way_of (head_of t).kind) (head_of t).text

-- what was met, in the order of the source
abbrev pub met : List Leaving → List Exit
met ls = flat_map exit_of (reverse ls)

-- These exits have been met, and put behind the others.
pub record Meets (old new : List Leaving) (es : List Exit) : Type 0 where
  pub fresh : List Leaving
  pub grows : new ≡ old ++ fresh
  pub are : met fresh ≡ es

abbrev pub first_is : (Exit → Bool) → List Exit → Bool
first_is p [] = false
first_is p (e ∷ es) = p e

-- whether an exit goes no further than a node of this kind and label
abbrev pub ends : Kind → List ℕ → Leaving → Bool
ends k own l = first_is (ends_at k own) (exit_of l)

abbrev pub leaves : Kind → List ℕ → Leaving → Bool
leaves k own l = not (ends k own l)
