use Rattle.hare_again.proofs.WholeLayouts.LaidOut.{layouts-are-laid-out}
use Rattle.hare_again.proofs.laws.law_layouts_are_laid_out.Goals as goal

pub returns : goal.returns
returns c = layouts-are-laid-out
