use Rattle.il_acts.proofs.Answering.{exit_done}
use Rattle.il_acts.proofs.call.exit.Goals as goal

pub returns-clause-done : goal.returns-clause-done
returns-clause-done c = λ k. exit_done k c.args.status
