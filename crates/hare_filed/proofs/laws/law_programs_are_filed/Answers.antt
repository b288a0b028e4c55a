use Rattle.hare_filed.proofs.FiledLemmas.{programs_are_filed}
use Rattle.hare_filed.proofs.laws.law_programs_are_filed.Goals as goal

pub returns : goal.returns
returns c = programs_are_filed
