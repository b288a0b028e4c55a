use Rattle.hare_types.proofs.MeaningsLemmas.{ids_ascend}
use Rattle.hare_types.proofs.laws.law_ids_ascend.Goals as goal

pub returns : goal.returns
returns c = ids_ascend
