use Rattle.flat_laws.proofs.StartLemmas.{globals_stand}
use Rattle.flat_laws.proofs.laws.law_globals_stand.Goals as goal

pub returns : goal.returns
returns c = globals_stand
