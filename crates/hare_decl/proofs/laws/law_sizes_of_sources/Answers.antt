use Rattle.hare_decl.proofs.SourceTrees.Sources.{sources_have_few_nodes, sources_have_few_texts}
use Rattle.hare_decl.proofs.laws.law_sizes_of_sources.Goals as goal

pub returns-clause-nodes : goal.returns-clause-nodes
returns-clause-nodes c = sources_have_few_nodes

pub returns-clause-texts : goal.returns-clause-texts
returns-clause-texts c = sources_have_few_texts
