use Rattle.hare_lines.proofs.LayoutLaws.Once.{sources_have_one_layout}
use Rattle.hare_lines.proofs.laws.law_one_layout.Goals as goal

pub returns : goal.returns
returns c = sources_have_one_layout
