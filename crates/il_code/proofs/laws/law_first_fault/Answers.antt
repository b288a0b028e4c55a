use Rattle.il_code.proofs.FirstFaults.{first_fault_is_one}
use Rattle.il_code.proofs.laws.law_first_fault.Goals as goal

pub returns : goal.returns
returns c = first_fault_is_one
