use Rattle.hare_unit.proofs.WholeProgram.Names.{names-once}
use Rattle.hare_unit.proofs.laws.law_names_are_one.Goals as goal

pub returns : goal.returns
returns c = names-once c.law_one_early_fault.ensures.trees
