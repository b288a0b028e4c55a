use Rattle.hare_turns.proofs.OneStep.Passed.{types_go_on}
use Rattle.hare_turns.proofs.steps.law_types_go_on.Goals as goal

pub returns : goal.returns
returns c = types_go_on c.law_types_stay.ensures c.law_values_are_enough.ensures c.law_ends_are_seen.ensures
