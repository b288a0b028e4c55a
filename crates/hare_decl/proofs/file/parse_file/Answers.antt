use Rattle.hare_decl.proofs.OneAnswer.Once.{only_tree, only_fault}
use Rattle.hare_decl.proofs.file.parse_file.Goals as goal

pub returns-clause-only_tree : goal.returns-clause-only_tree
returns-clause-only_tree c = only_tree c.args.file c.args.t.now c.file_of.result c.file_of.ensures.ok c.file_of.ensures.err

pub returns-clause-only_fault : goal.returns-clause-only_fault
returns-clause-only_fault c = only_fault c.args.file c.args.t.now c.file_of.result c.file_of.ensures.ok c.file_of.ensures.err
