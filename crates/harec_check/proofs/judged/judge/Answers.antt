use Rattle.harec_check.proofs.JudgeLemmas.{judge_stops}
use Rattle.harec_check.proofs.judged.judge.Goals as goal

pub returns-in-Err-Fault-clause-err : goal.returns-in-Err-Fault-clause-err
returns-in-Err-Fault-clause-err c =
    let first = rw (c.in-Err-Fault.field-0-is, c.in_ok-copied.ensures) at c.in-Err-Fault.ensures.err in
    let only = rw (c.in-Err-Fault.field-0-is, c.in_ok-copied.ensures) at c.in-Err-Fault.ensures.only_fault in
    judge_stops _ _ _ _ first only c.refused.ensures
