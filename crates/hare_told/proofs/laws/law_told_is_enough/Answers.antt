use Rattle.hare_told.proofs.Verdicts.{told_is_enough}
use Rattle.hare_told.proofs.laws.law_told_is_enough.Goals as goal

pub returns : goal.returns
returns c = told_is_enough
