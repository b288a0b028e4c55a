use Rattle.hare_turns.proofs.OneStep.Done.{done_stops}
use Rattle.hare_turns.proofs.steps.law_done_stops.Goals as goal

pub returns : goal.returns
returns c =
    done_stops c.law_ids_mean_trees.ensures c.law_types_stay.ensures c.law_inference_is_exact.ensures c.law_bytes_follow_definitions.ensures
    c.law_seen_stores_are_stores.ensures
