use Rattle.flat_laws.proofs.NameLemmas.{functions_are_found}
use Rattle.flat_laws.proofs.laws.law_functions_are_found.Goals as goal

pub returns : goal.returns
returns c = functions_are_found
