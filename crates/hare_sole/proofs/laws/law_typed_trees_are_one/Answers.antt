use Rattle.hare_sole.proofs.OneProgram.Phases.{trees_are_one}
use Rattle.hare_sole.proofs.laws.law_typed_trees_are_one.Goals as goal

pub returns : goal.returns
returns c =
    trees_are_one
    (record { exact = c.law_inference_is_exact.ensures; tree = c.law_one_tree.ensures; enough = c.law_values_are_enough.ensures })
