use Rattle.hare_assign.proofs.ChoiceLemmas.{firsts_stay}
use Rattle.hare_assign.proofs.laws.law_firsts_stay.Goals as goal

pub returns : goal.returns
returns c = firsts_stay
