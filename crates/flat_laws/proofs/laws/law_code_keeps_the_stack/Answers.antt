use Rattle.flat_laws.proofs.StackLemmas.{keeps_the_stack}
use Rattle.flat_laws.proofs.laws.law_code_keeps_the_stack.Goals as goal

pub returns : goal.returns
returns c = keeps_the_stack
