use Rattle.hare_constancy.proofs.Well.Whole.{well_trees_are_met, asked_trees_are_met}
use Rattle.hare_constancy.proofs.laws.law_well_trees_are_met.Goals as goal

pub returns-clause-well : goal.returns-clause-well
returns-clause-well c = well_trees_are_met

pub returns-clause-asked : goal.returns-clause-asked
returns-clause-asked c = asked_trees_are_met
