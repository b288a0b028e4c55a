use Rattle.hare_constancy.proofs.Ready.Whole.{asked_values_are_ready, declared_values_are_ready, well_values_are_ready}
use Rattle.hare_constancy.proofs.laws.law_values_are_ready.Goals as goal

pub returns-clause-asked : goal.returns-clause-asked
returns-clause-asked c = asked_values_are_ready

pub returns-clause-declared : goal.returns-clause-declared
returns-clause-declared c = declared_values_are_ready

pub returns-clause-finished : goal.returns-clause-finished
returns-clause-finished c = well_values_are_ready
