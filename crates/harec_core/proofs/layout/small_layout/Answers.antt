use Rattle.harec_core.proofs.CausesOfAnswers.Layouts.{HasLayout-given, HasNoLayout-given, refused_layout}
use Rattle.harec_core.proofs.layout.small_layout.Goals as goal

pub returns-in-Ok-clause-ok : goal.returns-in-Ok-clause-ok
returns-in-Ok-clause-ok c =
    let given = c.in-Ok.ensures in
    HasLayout-given c.args.src.now c.requires.small _ given.ok given.only_text given.only_fault

pub returns-in-Err-Fault-clause-err : goal.returns-in-Err-Fault-clause-err
returns-in-Err-Fault-clause-err c =
    let given = c.in-Err-Fault.ensures in
    let is = c.in-Err-Fault.field-0-is in
    refused_layout _ _ _ _
    (HasNoLayout-given c.args.src.now c.requires.small c.in-Err-Fault.fault (rw is at given.err) (λ t l. rw is at (given.only_text t l))
    (λ f h. rw is at (given.only_fault f h))) c.refused.ensures
