use Rattle.hare_turns.proofs.OneStep.Faults.{types_stop}
use Rattle.hare_turns.proofs.steps.law_types_stop.Goals as goal

pub returns : goal.returns
returns c = types_stop c.law_ends_are_seen.ensures
