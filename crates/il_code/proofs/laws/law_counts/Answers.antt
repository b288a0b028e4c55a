use Rattle.il_code.proofs.Steps.{done_is_kept}
use Rattle.il_code.proofs.laws.law_counts.Goals as goal

pub returns : goal.returns
returns c = done_is_kept
