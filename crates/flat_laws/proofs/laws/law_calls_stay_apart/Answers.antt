use Rattle.flat_laws.proofs.StackLemmas.{calls_stay_apart}
use Rattle.flat_laws.proofs.laws.law_calls_stay_apart.Goals as goal

pub returns : goal.returns
returns c = calls_stay_apart
