use Rattle.harec_core.proofs.EndsOfRuns.Sent.{Writes-err, cut_behind, cut_in_front}
use Rattle.harec_core.proofs.log.write_two.Goals as goal

pub returns-in_err-write : goal.returns-in_err-write
returns-in_err-write g c = Writes-err _ _ _ c.from_residual.ensures.0 (cut_in_front _ _ _ _ _ _ c.in_err-write.ensures)

pub returns-in_err-write-2 : goal.returns-in_err-write-2
returns-in_err-write-2 g c =
    Writes-err _ _ _ c.from_residual-in_err-write-2.ensures.0 (cut_behind _ _ _ _ _ _ _ _ c.in_ok-write.ensures c.in_err-write-2.ensures)
