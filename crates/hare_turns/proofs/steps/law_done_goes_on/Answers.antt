use Rattle.hare_turns.proofs.OneStep.Done.{done_goes_on}
use Rattle.hare_turns.proofs.steps.law_done_goes_on.Goals as goal

pub returns : goal.returns
returns c = done_goes_on c.law_types_stay.ensures c.law_bytes_follow_definitions.ensures c.law_ends_are_seen.ensures
