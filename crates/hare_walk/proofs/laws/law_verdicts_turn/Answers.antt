use Rattle.hare_walk.proofs.Verdicts.{verdicts_turn}
use Rattle.hare_walk.proofs.laws.law_verdicts_turn.Goals as goal

pub returns : goal.returns
returns c = verdicts_turn
