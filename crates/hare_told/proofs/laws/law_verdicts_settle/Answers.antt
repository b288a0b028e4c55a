use Rattle.hare_told.proofs.Settling.{verdicts_settle}
use Rattle.hare_told.proofs.laws.law_verdicts_settle.Goals as goal

pub returns : goal.returns
returns c = verdicts_settle
