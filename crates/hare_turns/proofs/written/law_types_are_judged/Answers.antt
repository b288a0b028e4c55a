use Rattle.hare_turns.proofs.OneStep.WrittenTypes.{types_are_judged}
use Rattle.hare_turns.proofs.written.law_types_are_judged.Goals as goal

pub returns : goal.returns
returns c = types_are_judged c.law_types_stay.ensures c.law_bytes_follow_definitions.ensures
