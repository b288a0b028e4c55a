use Rattle.hare_again.proofs.WholeLayouts.LaidOut.{layouts-have-parts}
use Rattle.hare_again.proofs.laws.law_layouts_have_parts.Goals as goal

pub returns : goal.returns
returns c = layouts-have-parts
