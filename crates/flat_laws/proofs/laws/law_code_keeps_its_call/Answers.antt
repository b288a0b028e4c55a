use Rattle.flat_laws.proofs.CountLemmas.{keeps_its_call}
use Rattle.flat_laws.proofs.laws.law_code_keeps_its_call.Goals as goal

pub returns : goal.returns
returns c = keeps_its_call
