use Rattle.rule_types.proofs.ToldLemmas.{types_are_told}
use Rattle.rule_types.proofs.laws.law_types_are_told.Goals as goal

pub returns : goal.returns
returns c = types_are_told
