use Rattle.hare_turns.proofs.AllSteps.Told.{stages_are_known}
use Rattle.hare_turns.proofs.known.law_stages_are_known.Goals as goal

pub returns : goal.returns
returns c = stages_are_known
