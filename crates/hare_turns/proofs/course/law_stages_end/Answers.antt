use Rattle.hare_turns.proofs.AllSteps.InOrder.{stages_end}
use Rattle.hare_turns.proofs.course.law_stages_end.Goals as goal

pub returns : goal.returns
returns c = stages_end
