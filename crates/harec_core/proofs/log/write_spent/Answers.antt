use Rattle.harec_core.proofs.EndsOfRuns.Sent.{Writes-err, cut_behind, cut_in_front, sent_both}
use Rattle.harec_core.proofs.log.write_spent.Goals as goal

pub returns-in_err-write : goal.returns-in_err-write
returns-in_err-write g c = Writes-err _ _ _ c.from_residual.ensures.0 (cut_in_front _ _ _ _ _ _ c.in_err-write.ensures)

pub returns-in_err-write_two : goal.returns-in_err-write_two
returns-in_err-write_two g c =
    let units = rw (c.as_bytes.ensures.value, c.format.ensures.text) at c.in_err-write_two.ensures in
    Writes-err _ _ _ c.from_residual-in_err-write_two.ensures.0 (cut_behind _ _ _ _ _ _ _ _ c.in_ok-write.ensures units)

pub returns : goal.returns
returns g c =
    let units = rw (c.as_bytes.ensures.value, c.format.ensures.text) at c.in_ok-write_two.ensures in
    sent_both _ _ _ _ _ _ _ _ c.in_ok-write.ensures units
