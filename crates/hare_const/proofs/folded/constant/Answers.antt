use Rattle.hare_const.proofs.FoldedLemmas.{refused_later}
use Rattle.hare_const.proofs.folded.constant.Goals as goal

pub returns-in-Ok : goal.returns-in-Ok
returns-in-Ok c = c.in-Ok.ensures.ok.1

pub returns-in-Err-Fault : goal.returns-in-Err-Fault
returns-in-Err-Fault c =
    refused_later c.args.s.now c.args.own c.args.t.now c.declarations-law.ensures.sound (c.is_settled.ensures.0 c.if-not-is_settled.false)
    (c.in_ok-is_coherent.ensures.0 c.if-not-branch.false)
    c.in-Err-Fault.field-0 c.in-Err-Fault.field-0-0 c.in-Err-Fault.field-0-is c.in-Err-Fault.ensures.err
