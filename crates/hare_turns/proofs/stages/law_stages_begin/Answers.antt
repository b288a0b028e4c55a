use Rattle.hare_turns.proofs.AllSteps.InOrder.{stages_begin}
use Rattle.hare_turns.proofs.stages.law_stages_begin.Goals as goal

pub returns : goal.returns
returns c = stages_begin
