use Rattle.harec_core.specs.Log.{told, failed}
use Rattle.harec_core.proofs.log.answered.Goals as goal

pub returns-in-Ok : goal.returns-in-Ok
returns-in-Ok c = λ line log w. told (rw c.in-Ok.is at w)

pub returns-in-Err : goal.returns-in-Err
returns-in-Err c = λ line log w. failed (rw c.in-Err.is at w)
