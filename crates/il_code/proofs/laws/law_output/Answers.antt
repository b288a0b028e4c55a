use Rattle.il_code.proofs.Steps.{output_grows}
use Rattle.il_code.proofs.laws.law_output.Goals as goal

pub returns : goal.returns
returns c = output_grows
