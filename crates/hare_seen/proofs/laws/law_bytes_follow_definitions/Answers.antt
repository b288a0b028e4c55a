use Rattle.hare_seen.proofs.MeasureLemmas.{measures}
use Rattle.hare_seen.proofs.laws.law_bytes_follow_definitions.Goals as goal

pub returns : goal.returns
returns c = measures c.law_ids_mean_trees.ensures c.law_types_stay.ensures
