-- Where the faults of rows stand.
use Rattle.std.proofs.Common.{◌≡◌, Bool, true, false, not, cond, List, [], ◌∷◌, Option, Some, None, refl, ap, sym, ◌∙◌}
use Rattle.std.specs.Prelude.{slice_get, is_none, option_map}
use Rattle.hare_tree.specs.declared.place.Place.{Place}
use Rattle.hare_typed.specs.Typed.{TypedNode}
use Rattle.hare_typed.specs.Order.{tree_from_front}
use Rattle.hare_rules.specs.Context.{own_type, place_of, place_or}
use Rattle.hare_rules.specs.Words.{has_default}
use Rattle.hare_rules.specs.Aggregates.{but_last, unless_default}

-- at the tree that is found
pub told_place : (o : Option TypedNode) (p : Place) → option_map place_of o ≡ cond (is_none o) None (Some (place_or p o))
told_place None p = refl
told_place (Some x) p = refl

-- at the first item of an array
pub item_place : (h : Bool) (xs : List TypedNode) (p : Place)
    → cond (is_none (cond h None (unless_default (slice_get (but_last (but_last xs)) 0)))) None (Some (place_of (tree_from_front 0 xs)))
    ≡ cond (is_none (cond h None (unless_default (slice_get (but_last (but_last xs)) 0)))) None
    (Some (place_or p (cond h None (unless_default (slice_get (but_last (but_last xs)) 0)))))
item_place true xs p = refl
item_place false [] p = refl
item_place false (x ∷ []) p = refl
item_place false (x ∷ y ∷ []) p = refl
item_place false (x ∷ y ∷ z ∷ zs) p = by (has_default (own_type x))
  where
    by : (b : Bool) → cond (is_none (cond (not b) (Some x) None)) None (Some (place_of x)) ≡
        cond (is_none (cond (not b) (Some x) None)) None (Some (place_or p (cond (not b) (Some x) None)))
    by true = refl
    by false = refl
