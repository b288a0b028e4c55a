use Rattle.flat_laws.proofs.NameLemmas.{runtime_is_not_taken}
use Rattle.flat_laws.proofs.laws.law_runtime_is_not_taken.Goals as goal

pub returns : goal.returns
returns c = runtime_is_not_taken
