use Rattle.il_code.proofs.Inputs.{input_is_taken}
use Rattle.il_code.proofs.laws.law_input.Goals as goal

pub returns : goal.returns
returns c = input_is_taken
