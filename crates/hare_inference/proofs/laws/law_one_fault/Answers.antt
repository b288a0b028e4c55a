use Rattle.hare_inference.proofs.Decided.{one_fault}
use Rattle.hare_inference.proofs.laws.law_one_fault.Goals as goal

pub returns : goal.returns
returns c = one_fault
