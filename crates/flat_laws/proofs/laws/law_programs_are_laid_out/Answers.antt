use Rattle.flat_laws.proofs.StartLemmas.{programs_are_laid_out}
use Rattle.flat_laws.proofs.laws.law_programs_are_laid_out.Goals as goal

pub returns : goal.returns
returns c = programs_are_laid_out
