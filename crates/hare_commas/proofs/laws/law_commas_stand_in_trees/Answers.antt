use Rattle.hare_commas.proofs.WholeFiles.Files.{commas-stand-in-trees}
use Rattle.hare_commas.proofs.laws.law_commas_stand_in_trees.Goals as goal

pub returns : goal.returns
returns c = commas-stand-in-trees
