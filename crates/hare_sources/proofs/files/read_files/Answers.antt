use Rattle.hare_sources.proofs.OnceLemmas.{only-trees, only-fault}
use Rattle.hare_sources.proofs.files.read_files.Goals as goal

pub returns-clause-only_trees : goal.returns-clause-only_trees
returns-clause-only_trees c = only-trees c.args.srcs.now c.files_of.result c.files_of.ensures.ok c.files_of.ensures.err

pub returns-clause-only_fault : goal.returns-clause-only_fault
returns-clause-only_fault c = only-fault c.args.srcs.now c.files_of.result c.files_of.ensures.ok c.files_of.ensures.err
