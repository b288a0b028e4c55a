use Rattle.std.proofs.Common.{arith}
use Rattle.il_acts.proofs.Answering.{arg_done, arg_bad}
use Rattle.il_acts.proofs.call.arg.Goals as goal

pub returns-then-i-count-clause-done : goal.returns-then-i-count-clause-done
returns-then-i-count-clause-done c = arg_done c.args.arguments c.args.i (omega (arith, c.from-count.ensures, c.if-i-count.true))

pub returns-else-i-count-clause-done : goal.returns-else-i-count-clause-done
returns-else-i-count-clause-done c = arg_bad c.args.arguments c.args.i (omega (arith, c.from-count.ensures, c.if-i-count.false))
