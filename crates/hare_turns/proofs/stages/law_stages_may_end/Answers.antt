use Rattle.hare_turns.proofs.AllSteps.Over.{stages_may_end}
use Rattle.hare_turns.proofs.stages.law_stages_may_end.Goals as goal

pub returns : goal.returns
returns c = stages_may_end
