-- What a walk looks at itself.
use Rattle.std.specs.Prelude.{◌≡◌, ℕ, true, List, map, slice_get, Option, Some, None}
use Rattle.hare_tree.specs.declared.kind.Kind.TheVariants as ki
use Rattle.hare_tree.specs.declared.place.Fault.{Fault}
use Rattle.hare_tree.specs.declared.place.Place.{Place}
use Rattle.hare_tree.specs.declared.stop.Stop.{Stop}
use Rattle.hare_tree.specs.declared.stop.Stop.TheVariants.{Fault as Refused, Memory}
use Rattle.hare_tree.specs.declared.token.Meaning.TheVariants as means
use Rattle.hare_tree.specs.Node.{Head}
use Rattle.hare_types.specs.Store.{Store}
use Rattle.hare_types.specs.Later.{IsLater}
use Rattle.hare_typed.specs.Typed.{TypedNode}
use Rattle.hare_rules.specs.declared.declared.Local.{Local}
use Rattle.hare_rules.specs.declared.hint.Hint.{Hint}
use Rattle.hare_rules.specs.declared.hint.Hint.TheVariants as hint
use Rattle.hare_rules.specs.declared.judged.Case.{Case}
use Rattle.hare_rules.specs.declared.row_id.RowId.TheVariants as asked
use Rattle.hare_rules.specs.Context.{Context, Entry, Given, Known}
use Rattle.hare_rules.specs.Control.{block_meant, hint_of_open}
use Rattle.hare_rules.specs.Joined.{void_fits}
use Rattle.hare_rules.specs.Judged.{IsRefusal}
use Rattle.hare_rules.specs.Rows.{holds}
use Rattle.hare_told.specs.Told.{has_judge, told_label}

-- the node is a path at this place, which means a local of which this is known
pub record MeansLocal (c : Context) (n : ℕ) (p : Place) (o : Option Entry) : Type 0 where
  pub kind : c.head.kind ≡ ki.Path
  pub place : c.head.place ≡ p
  pub meaning : c.meaning ≡ means.Local n
  pub role : has_judge c.inside.role ≡ true
  pub entry : slice_get c.locals n ≡ o

-- the local has a type
abbrev pub IsKnownAt : Context → ℕ → Type 0
IsKnownAt c n = (l : Local) × (slice_get c.locals n ≡ Some (Known l))

-- where a fault is told, it is that of the first row that the node fails
abbrev pub IsRefusedBy : Context → Stop Fault → Type 0
IsRefusedBy c (Refused e) = IsRefusal c e
IsRefusedBy c Memory = Unit {0}

-- ---- a `yield`

-- where a type is asked for, and the value is the void of a `yield` without one, void fits that type in each later store
abbrev pub IsVoidTaken : Store → Hint → Given → Type 0
IsVoidTaken s h g = g.ty ≡ None → (t : ℕ) → h ≡ hint.Of t → (f : Store) → IsLater s f → void_fits f t ≡ true

-- the node is a `yield` with this head and these kids, told of with the labels round it, and of what it means this is asked
pub record IsYield (c : Context) (q : Case) (h : Head) (xs : List TypedNode) (i : Hint) : Type 0 where
  pub kind : h.kind ≡ ki.Yield
  pub head : c.head ≡ h
  pub kids : c.kids ≡ xs
  pub labels : q.inside.labels ≡ map told_label c.inside.labels
  pub deferred : q.inside.deferred ≡ c.inside.deferred
  pub role : has_judge c.inside.role ≡ true
  pub hint : hint_of_open (block_meant h.text c.inside.labels) ≡ i

-- it means a block or a case, which stands inside the same deferred expression
pub record MeansInside (c : Context) : Type 0 where
  pub target : holds asked.YieldTarget c ≡ true
  pub inside : holds asked.YieldInside c ≡ true
