use Rattle.il_code.proofs.UniqueModules.{print_is_injective}
use Rattle.il_code.proofs.laws.law_print.Goals as goal

pub returns : goal.returns
returns c = print_is_injective
