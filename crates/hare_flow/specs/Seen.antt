-- What has been seen, as the rules have it.
use Rattle.std.specs.Prelude.{List, map}
use Rattle.hare_types.specs.declared.coercion.Coercion.{Coercion}
use Rattle.hare_rules.specs.Context.{Entry, Later, Known, Odd, Given}
use Rattle.hare_rules.specs.Settles.{Settled as SettledIn}
use Rattle.hare_rules.specs.Flow.{Flow, Yielded}
use Rattle.hare_flow.specs.declared.seen.Binding.{Binding}
use Rattle.hare_flow.specs.declared.seen.Binding.TheVariants as bound
use Rattle.hare_flow.specs.declared.yields.Handed.{Handed}
use Rattle.hare_flow.specs.declared.yields.Yield.{Yield}
use Rattle.hare_flow.specs.declared.coercions.Settled.{Settled}

abbrev pub entry_of : Binding → Entry
entry_of bound.Later = Later
entry_of (bound.Known l) = Known l
entry_of (bound.Odd p) = Odd p

abbrev pub given_of : Handed → Given
given_of g = record { place = g.place; ty = g.ty; node = g.node }

abbrev pub yielded_of : Yield → Yielded
yielded_of y = record { level = y.level; given = given_of y.handed }

abbrev pub settled_of : Settled → SettledIn
settled_of s = record { node = s.node; coercion = s.coercion }

abbrev pub flow_of : List Binding → List Yield → List Coercion → List Settled → Flow
flow_of bs ys cs ss = record { locals = map entry_of bs; yields = map yielded_of ys; coercions = cs; late = map settled_of ss }
