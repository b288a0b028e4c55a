use Rattle.il_acts.proofs.Answering.{nargs_done}
use Rattle.il_acts.proofs.call.nargs.Goals as goal

pub returns-clause-done : goal.returns-clause-done
returns-clause-done c = nargs_done c.args.arguments c.from.result c.from.ensures
