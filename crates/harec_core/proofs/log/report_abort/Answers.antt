use Rattle.harec_core.proofs.log.report_abort.Goals as goal

pub returns : goal.returns
returns g c = c.answered.ensures _ _ c.write_two.ensures
