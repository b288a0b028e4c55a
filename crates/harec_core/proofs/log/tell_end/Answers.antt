use Rattle.std.proofs.Common.{[], ◌++◌, codes, refl, ◌∙◌}
use Rattle.harec_core.specs.Log.{told}
use Rattle.harec_core.proofs.CausesOfAnswers.Causes.{silent}
use Rattle.harec_core.proofs.log.tell_end.Goals as goal

pub returns-in-Exit-clause-line : goal.returns-in-Exit-clause-line
returns-in-Exit-clause-line g c = λ abort h. rw c.in-Exit.is ([], refl, told (silent _ _))

pub returns-in-Abort-clause-line : goal.returns-in-Abort-clause-line
returns-in-Abort-clause-line g c = λ abort h.
    let (m, r, stands, is) = rw c.in-Abort.is at h in
    let text = c.abort_text.ensures.value m r stands ∙ is in
    rw c.in-Abort.is (abort ++ codes "\n", refl, rw text at c.report_abort.ensures)

pub returns-in-Fault-clause-line : goal.returns-in-Fault-clause-line
returns-in-Fault-clause-line g c = λ abort h. rw c.in-Fault.is (_, refl, c.report_undefined.ensures)

pub returns-in-StackFull-clause-line : goal.returns-in-StackFull-clause-line
returns-in-StackFull-clause-line g c = λ abort h. rw c.in-StackFull.is (_, refl, c.report.ensures)

pub returns-in-Spent-clause-line : goal.returns-in-Spent-clause-line
returns-in-Spent-clause-line g c = λ abort h. rw c.in-Spent.is (_, refl, c.report_spent.ensures)

pub returns-in-ReadFault-clause-line : goal.returns-in-ReadFault-clause-line
returns-in-ReadFault-clause-line g c = λ abort h. rw c.in-ReadFault.is (_, refl, c.report-in-ReadFault.ensures)

pub returns-in-WriteFault-clause-line : goal.returns-in-WriteFault-clause-line
returns-in-WriteFault-clause-line g c = λ abort h. rw c.in-WriteFault.is (_, refl, c.report-in-WriteFault.ensures)

pub returns-in-Memory-clause-line : goal.returns-in-Memory-clause-line
returns-in-Memory-clause-line g c = λ abort h. rw c.in-Memory.is (_, refl, c.report-in-Memory.ensures)
