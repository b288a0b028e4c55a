use Rattle.hare_turns.proofs.AllSteps.InOrder.{steps_stop}
use Rattle.hare_turns.proofs.course.law_steps_stop.Goals as goal

pub returns : goal.returns
returns c = steps_stop
