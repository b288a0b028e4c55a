use Rattle.il_code.proofs.FaultsAndRules.{faults_are_the_rules}
use Rattle.il_code.proofs.laws.law_faults.Goals as goal

pub returns : goal.returns
returns c = faults_are_the_rules
