use Rattle.hare_joined.proofs.FinishedTrees.Together.{finished_are_typed}
use Rattle.hare_joined.proofs.laws.law_finished_are_typed.Goals as goal

pub returns : goal.returns
returns c = finished_are_typed c.law_ends_are_judged.ensures c.law_values_are_enough.ensures c.law_inference_is_exact.ensures
