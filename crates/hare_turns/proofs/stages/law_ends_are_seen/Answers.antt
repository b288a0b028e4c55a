use Rattle.hare_turns.proofs.LaterStores.Ends.{ends_are_seen}
use Rattle.hare_turns.proofs.stages.law_ends_are_seen.Goals as goal

pub returns : goal.returns
returns c = ends_are_seen c.law_ids_mean_trees.ensures c.law_bytes_follow_definitions.ensures c.law_seen_stores_are_stores.ensures
