use Rattle.hare_typed.proofs.OrderLemmas.{orders_agree}
use Rattle.hare_typed.proofs.laws.law_orders_agree.Goals as goal

pub returns : goal.returns
returns c = orders_agree
