use Rattle.hare_turns.proofs.AllSteps.InOrder.{steps_go_together}
use Rattle.hare_turns.proofs.course.law_steps_go_together.Goals as goal

pub returns : goal.returns
returns c = steps_go_together
