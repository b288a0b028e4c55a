use Rattle.hare_layout.proofs.StableLemmas.{judgements_stay}
use Rattle.hare_layout.proofs.laws.law_judgements_stay.Goals as goal

pub returns : goal.returns
returns c = judgements_stay
