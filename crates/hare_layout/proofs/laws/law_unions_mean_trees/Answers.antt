use Rattle.hare_layout.proofs.UnionLemmas.{unions_mean}
use Rattle.hare_layout.proofs.laws.law_unions_mean_trees.Goals as goal

pub returns : goal.returns
returns c = unions_mean
