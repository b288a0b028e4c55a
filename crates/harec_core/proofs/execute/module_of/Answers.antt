use Rattle.harec_core.proofs.CausesOfAnswers.Executing.{text_refusal}
use Rattle.harec_core.proofs.execute.module_of.Goals as goal

pub returns-in_ok-line-in-Err-Fault-clause-err : goal.returns-in_ok-line-in-Err-Fault-clause-err
returns-in_ok-line-in-Err-Fault-clause-err c =
    let has = rw c.in-Err-Fault.field-0-is at c.in-Err-Fault.ensures.err in
    text_refusal c.args.path.now c.args.text.now c.in-Err-Fault.fault c.in_ok-line-in-Err-Fault.line has c.in_ok-line-in-Err-Fault.ensures
