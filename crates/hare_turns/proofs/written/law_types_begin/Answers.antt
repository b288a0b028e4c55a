use Rattle.hare_turns.proofs.OneStep.WrittenTypes.{types_begin}
use Rattle.hare_turns.proofs.written.law_types_begin.Goals as goal

pub returns : goal.returns
returns c = types_begin
