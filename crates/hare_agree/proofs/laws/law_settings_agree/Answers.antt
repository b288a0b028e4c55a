use Rattle.hare_agree.proofs.Agreed.{settings_agree}
use Rattle.hare_agree.proofs.laws.law_settings_agree.Goals as goal

pub returns : goal.returns
returns c = settings_agree
