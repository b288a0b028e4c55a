use Rattle.hare_names.proofs.OrderLemmas.{bindings_ascend}
use Rattle.hare_names.proofs.laws.law_bindings_ascend.Goals as goal

pub returns : goal.returns
returns c = bindings_ascend
