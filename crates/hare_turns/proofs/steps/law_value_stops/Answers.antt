use Rattle.hare_turns.proofs.OneStep.Faults.{value_stops}
use Rattle.hare_turns.proofs.steps.law_value_stops.Goals as goal

pub returns : goal.returns
returns c = value_stops c.law_ends_are_seen.ensures
