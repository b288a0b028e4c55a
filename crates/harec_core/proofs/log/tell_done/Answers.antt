use Rattle.std.proofs.Common.{[], refl}
use Rattle.harec_core.specs.Log.{told}
use Rattle.harec_core.proofs.CausesOfAnswers.Causes.{silent}
use Rattle.harec_core.proofs.log.tell_done.Goals as goal

pub returns-in-Accepted-clause-line : goal.returns-in-Accepted-clause-line
returns-in-Accepted-clause-line g c = λ abort h. rw c.in-Accepted.is ([], refl, told (silent _ _))

pub returns-in-Ended-clause-line : goal.returns-in-Ended-clause-line
returns-in-Ended-clause-line g c = λ abort h. rw c.in-Ended.is (c.tell_end.ensures.line abort (rw c.in-Ended.is at h))

pub returns-in-RefusedText-clause-line : goal.returns-in-RefusedText-clause-line
returns-in-RefusedText-clause-line g c = λ abort h.
    rw c.in-RefusedText.is (_, rw c.in-RefusedText.is at h, rw c.bytes.ensures at c.report.ensures)

pub returns-in-Cut-clause-line : goal.returns-in-Cut-clause-line
returns-in-Cut-clause-line g c = λ abort h. rw c.in-Cut.is (_, refl, c.report-in-Cut.ensures)
