use Rattle.hare_waits.proofs.StayLemmas.{awaited-later}
use Rattle.hare_waits.proofs.laws.law_waits_stay.Goals as goal

pub returns : goal.returns
returns c = λ s f q js a l. awaited-later s f l q js a
