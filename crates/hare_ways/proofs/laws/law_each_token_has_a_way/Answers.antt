use Rattle.hare_ways.proofs.Counted.{trees_have_ways, files_have_ways}
use Rattle.hare_ways.proofs.laws.law_each_token_has_a_way.Goals as goal

pub returns-clause-trees : goal.returns-clause-trees
returns-clause-trees c = trees_have_ways

pub returns-clause-files : goal.returns-clause-files
returns-clause-files c = files_have_ways
