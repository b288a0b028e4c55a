use Rattle.hare_agree.proofs.Agreed.{values_are_enough}
use Rattle.hare_agree.proofs.laws.law_values_are_enough.Goals as goal

pub returns : goal.returns
returns c = values_are_enough
