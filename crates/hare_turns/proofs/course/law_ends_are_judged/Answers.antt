use Rattle.hare_turns.proofs.AllSteps.Over.{ends_are_judged}
use Rattle.hare_turns.proofs.course.law_ends_are_judged.Goals as goal

pub returns : goal.returns
returns c = ends_are_judged c.law_ids_mean_trees.ensures c.law_types_stay.ensures c.law_bytes_follow_definitions.ensures
