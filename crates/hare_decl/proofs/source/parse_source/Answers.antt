use Rattle.hare_decl.proofs.OneAnswer.Once.{only_source, only_source_fault}
use Rattle.hare_decl.proofs.source.parse_source.Goals as goal

pub returns-clause-only_tree : goal.returns-clause-only_tree
returns-clause-only_tree c = only_source c.args.file c.args.src.now c.source_of.result c.source_of.ensures.ok c.source_of.ensures.err

pub returns-clause-only_fault : goal.returns-clause-only_fault
returns-clause-only_fault c = only_source_fault c.args.file c.args.src.now c.source_of.result c.source_of.ensures.ok c.source_of.ensures.err
