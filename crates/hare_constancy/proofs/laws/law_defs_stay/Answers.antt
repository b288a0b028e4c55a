use Rattle.hare_constancy.proofs.Agreement.{defs_stay_in_agreement}
use Rattle.hare_constancy.proofs.laws.law_defs_stay.Goals as goal

pub returns : goal.returns
returns c = defs_stay_in_agreement
