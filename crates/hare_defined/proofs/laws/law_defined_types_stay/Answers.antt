use Rattle.hare_defined.proofs.StayLemmas.{defined_types_stay}
use Rattle.hare_defined.proofs.laws.law_defined_types_stay.Goals as goal

pub returns : goal.returns
returns c = defined_types_stay
