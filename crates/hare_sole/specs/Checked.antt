-- Over one store the phases behind names have one first fault, and none where none of them finds one.
use Rattle.std.specs.Prelude.{◌≡◌, ℕ, List}
use Rattle.hare_tree.specs.declared.place.Fault.{Fault}
use Rattle.hare_types.specs.Store.{Store}
use Rattle.hare_typed.specs.Typed.{TypedNode}
use Rattle.hare_depends.specs.Order.{IsOrder}
use Rattle.hare_whole.specs.Listing.{Listing, saids}
use Rattle.hare_whole.specs.Judged.{IsFinal, AreTyped, AreFaultless, IsFaultOfPhases}
use Rattle.hare_whole.specs.Limits.{AreWithinLimits, IsLimitFault}

-- no phase behind names finds a fault: all declarations and bodies have been judged, these are their typed trees, and they pass no limit
pub record AreChecked (paths : List (List ℕ)) (p : Listing) (s : Store) (ds : List TypedNode) (entry : ℕ) : Type 0 where
  pub final : IsFinal p s
  pub faultless : AreFaultless p s
  pub typed : AreTyped p s ds
  pub limits : AreWithinLimits paths s ds entry

-- These phases have at most one first fault, and none where none of them finds one.
abbrev pub PhaseFaultsAreOne : Type 0
PhaseFaultsAreOne =
    (paths : List (List ℕ)) (p : Listing) (s : Store) (f g : Fault)
    → IsFaultOfPhases paths p s f
    → IsFaultOfPhases paths p s g
    → f ≡ g

abbrev pub CheckedOrFaulty : Type 0
CheckedOrFaulty =
    (paths : List (List ℕ)) (p : Listing) (s : Store) (ds : List TypedNode) (entry : ℕ) (f : Fault)
    → AreChecked paths p s ds entry
    → ¬ IsFaultOfPhases paths p s f

-- where all declarations and bodies have been judged, with these trees, no fault is left but one of limits
abbrev pub LimitsAreLeft : Type 0
LimitsAreLeft =
    (paths : List (List ℕ)) (p : Listing) (s : Store) (ds : List TypedNode) (f : Fault)
    → AreFaultless p s
    → AreTyped p s ds
    → IsFaultOfPhases paths p s f
    → IsLimitFault paths s ds f

-- declarations that have an order have one list of typed trees
abbrev pub TypedTreesAreOne : Type 0
TypedTreesAreOne =
    (p : Listing) (s : Store) (order : List ℕ) (ds es : List TypedNode)
    → IsOrder (saids p) order
    → AreTyped p s ds
    → AreTyped p s es
    → ds ≡ es
