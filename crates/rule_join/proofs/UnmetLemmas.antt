-- Where the faults of rows stand.
use Rattle.std.proofs.Common.{◌≡◌, cond, Option, Some, None, refl}
use Rattle.std.specs.Prelude.{is_none, option_map}
use Rattle.hare_tree.specs.declared.place.Place.{Place}
use Rattle.hare_rules.specs.Context.{Given}
use Rattle.hare_rules.specs.Rows.{place_of_given}
use Rattle.rule_join.specs.Together.{place_in}

-- at the value that is found
pub told_given : (o : Option Given) (p : Place) → option_map place_in o ≡ cond (is_none o) None (Some (place_of_given p o))
told_given None p = refl
told_given (Some g) p = refl
