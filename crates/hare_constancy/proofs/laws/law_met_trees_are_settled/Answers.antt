use Rattle.hare_constancy.proofs.Trees.{met_trees_are_settled}
use Rattle.hare_constancy.proofs.laws.law_met_trees_are_settled.Goals as goal

pub returns : goal.returns
returns c = met_trees_are_settled
