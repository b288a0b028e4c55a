use Rattle.il_emit.proofs.LineRuns.Outcomes.{operations_agree}
use Rattle.il_emit.proofs.op.law_operations_agree.Goals as goal

pub returns : goal.returns
returns c = operations_agree
