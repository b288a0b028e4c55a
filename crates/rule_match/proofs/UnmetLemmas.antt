-- The kind that is judged, and where the faults of its rows stand.
use Rattle.std.proofs.Common.{◌≡◌, true, cond, Option, Some, None, refl}
use Rattle.std.specs.Prelude.{is_none, option_map}
use Rattle.hare_tree.specs.declared.kind.Kind.{Kind}
use Rattle.hare_tree.specs.declared.kind.Kind.TheVariants as ki
use Rattle.hare_tree.specs.declared.place.Place.{Place}
use Rattle.hare_typed.specs.Typed.{TypedNode}
use Rattle.hare_rules.specs.Context.{place_of, place_or}
use Rattle.hare_rules.specs.Control.{pattern_kid, place_of_pattern}
use Rattle.rule_match.specs.Kinds.{judges}

pub is_match : (k : Kind) → judges k ≡ true → k ≡ ki.Match
is_match ki.Match e = refl
is_match _ e = absurd cc

-- at the pattern of the case that is found
pub told_pattern : (o : Option TypedNode) (p : Place)
    → option_map (λ x. place_of (pattern_kid x)) o ≡ cond (is_none o) None (Some (place_of_pattern p o))
told_pattern None p = refl
told_pattern (Some x) p = refl

-- at the case itself
pub told_case : (o : Option TypedNode) (p : Place) → option_map place_of o ≡ cond (is_none o) None (Some (place_or p o))
told_case None p = refl
told_case (Some x) p = refl
