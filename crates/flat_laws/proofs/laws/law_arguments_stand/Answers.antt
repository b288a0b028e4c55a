use Rattle.flat_laws.proofs.StartLemmas.{arguments_stand}
use Rattle.flat_laws.proofs.laws.law_arguments_stand.Goals as goal

pub returns : goal.returns
returns c = arguments_stand
