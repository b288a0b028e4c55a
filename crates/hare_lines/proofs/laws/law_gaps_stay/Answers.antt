use Rattle.hare_lines.proofs.LayoutLaws.Again.{gaps_stay}
use Rattle.hare_lines.proofs.laws.law_gaps_stay.Goals as goal

pub returns : goal.returns
returns c = gaps_stay
