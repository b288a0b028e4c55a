use Rattle.il_code.proofs.Budgets.{budgets_are_reached}
use Rattle.il_code.proofs.laws.law_budget.Goals as goal

pub returns : goal.returns
returns c = budgets_are_reached
