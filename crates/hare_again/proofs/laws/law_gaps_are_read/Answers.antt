use Rattle.hare_again.proofs.PartsOfLayouts.Gaps.{gaps-are-read}
use Rattle.hare_again.proofs.laws.law_gaps_are_read.Goals as goal

pub returns : goal.returns
returns c = gaps-are-read
