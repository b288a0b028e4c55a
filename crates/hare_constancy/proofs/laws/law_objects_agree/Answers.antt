use Rattle.hare_constancy.proofs.Coherent.Values.{asked_trees_are_coherent}
use Rattle.hare_constancy.proofs.laws.law_objects_agree.Goals as goal

pub returns : goal.returns
returns c = asked_trees_are_coherent
