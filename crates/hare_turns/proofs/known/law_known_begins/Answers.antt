use Rattle.hare_turns.proofs.AllSteps.Told.{known_begins}
use Rattle.hare_turns.proofs.known.law_known_begins.Goals as goal

pub returns : goal.returns
returns c = known_begins
