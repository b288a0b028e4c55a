use Rattle.hare_turns.proofs.LaterStores.Judged.{bodies_stop}
use Rattle.hare_turns.proofs.course.law_bodies_stop.Goals as goal

pub returns : goal.returns
returns c = bodies_stop c.law_stages_stay.ensures c.law_ends_are_seen.ensures
