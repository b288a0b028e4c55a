use Rattle.hare_turns.proofs.OneStep.Passed.{value_goes_on}
use Rattle.hare_turns.proofs.steps.law_value_goes_on.Goals as goal

pub returns : goal.returns
returns c = value_goes_on c.law_values_are_enough.ensures c.law_ends_are_seen.ensures
