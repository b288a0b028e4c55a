use Rattle.hare_decl.proofs.SourceTrees.Sources.{sources_fit, sources_stand_over_tokens}
use Rattle.hare_decl.proofs.laws.law_trees_of_sources.Goals as goal

pub returns-clause-fit : goal.returns-clause-fit
returns-clause-fit c = sources_fit

pub returns-clause-stand : goal.returns-clause-stand
returns-clause-stand c = sources_stand_over_tokens
