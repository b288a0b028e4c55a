use Rattle.hare_turns.proofs.LaterStores.Judged.{stages_stay}
use Rattle.hare_turns.proofs.stages.law_stages_stay.Goals as goal

pub returns : goal.returns
returns c = stages_stay c.law_types_stay.ensures c.law_bytes_follow_definitions.ensures
