-- The values that come together in a node: of branches, of cases, or what was yielded to it, and then its end.
use Rattle.std.specs.Prelude.{ℕ, Bool, true, false, not, cond, ◌&&◌, nat_lt, List, [], ◌∷◌, drop, find, length, map, Option, Some, None, option_map}
use Rattle.hare_tree.specs.declared.place.Place.{Place}
use Rattle.hare_types.specs.Store.{Store}
use Rattle.hare_typed.specs.Typed.{TypedNode}
use Rattle.hare_typed.specs.Order.{tree_from_front}
use Rattle.hare_rules.specs.declared.judged.Yielded.{Yielded}
use Rattle.hare_rules.specs.Words.{is_never, has_default}
use Rattle.hare_rules.specs.Context.{Context, Given, store_of, is_there, own_type, place_of}
use Rattle.hare_rules.specs.Joined.{first_lacking, first_misfit, void_fits}
use Rattle.hare_rules.specs.Control.{is_open, branches, block_values, case_values}
use Rattle.rule_judge.specs.declared.turn.Turn.{Turn}
use Rattle.rule_judge.specs.Turns.{yields_in}
use Rattle.rule_join.specs.declared.values.Source.{Source}
use Rattle.rule_join.specs.declared.values.Source.TheVariants as source

-- ---- as the table has them

-- the values of one source
abbrev pub together : Source → Context → List Given
together source.Branches c = branches c
together source.Yields c = block_values c
together source.Cases c = case_values c

abbrev pub place_in : Given → Place
place_in g = g.place

-- where the first value stands that goes on, where it lacks a default
abbrev pub lacking : Source → Context → Option Place
lacking v c = option_map place_in (first_lacking (store_of c) c.hint (together v c))

-- where the first value stands that does not fit the type of all
abbrev pub misfit : Source → Context → Option Place
misfit v c = option_map place_in (first_misfit (store_of c) c.hint (together v c))

-- ---- as a judge is told of them

-- what a branch or a case hands to the node
abbrev pub handed : TypedNode → Yielded
handed x = record { place = place_of x; ty = own_type x }

abbrev pub two_branches : Bool → List TypedNode → List Yielded
two_branches true xs = handed (tree_from_front 1 xs) ∷ handed (tree_from_front 2 xs) ∷ []
two_branches false xs = []

-- the values but the end
abbrev pub listed : Source → List TypedNode → List Yielded → List Yielded
listed source.Branches xs ys = two_branches (is_there (tree_from_front 2 xs)) xs
listed source.Yields xs ys = ys
listed source.Cases xs ys = map handed (drop 1 xs)

abbrev pub listed_in : Source → Turn → List Yielded
listed_in v t = listed v t.kids.now (yields_in t)

-- the end is one of the values: something was yielded, and it is reached
abbrev pub ends : Source → Context → Bool
ends source.Branches c = false
ends source.Yields c = nat_lt 0 (length c.yields) && is_open c
ends source.Cases c = false

-- the first that goes on
abbrev pub going : Store → List Yielded → Option Yielded
going s ys = find (λ y. not (is_never s y.ty)) ys

abbrev pub place_told : Yielded → Place
place_told y = y.place

abbrev pub if_lacking : Bool → Yielded → Option Yielded
if_lacking true y = None
if_lacking false y = Some y

-- the value, where it has no default
abbrev pub without_default : Option Yielded → Option Yielded
without_default None = None
without_default (Some y) = if_lacking (has_default y.ty) y

-- where the end stands, where it is one of the values and void may not be assigned to the type
abbrev pub end_misfit : Source → Context → ℕ → Option Place
end_misfit v c to = cond (ends v c && not (void_fits (store_of c) to)) (Some c.head.place) None
