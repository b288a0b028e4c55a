use Rattle.il_code.proofs.Budgets.{ends_stay}
use Rattle.il_code.proofs.laws.law_ends.Goals as goal

pub returns : goal.returns
returns c = ends_stay
