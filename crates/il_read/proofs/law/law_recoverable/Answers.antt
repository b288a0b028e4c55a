use Rattle.il_read.proofs.Validity.{IsRecoverable-valid}
use Rattle.il_read.proofs.law.law_recoverable.Goals as goal

pub returns : goal.returns
returns c = IsRecoverable-valid
