use Rattle.hare_depends.proofs.OrderLemmas.{circle_faults_are_one, orders_are_one, orders_have_no_circles}
use Rattle.hare_depends.proofs.laws.law_one_order.Goals as goal

pub returns-clause-fault : goal.returns-clause-fault
returns-clause-fault c = circle_faults_are_one

pub returns-clause-order : goal.returns-clause-order
returns-clause-order c = orders_are_one

pub returns-clause-circles : goal.returns-clause-circles
returns-clause-circles c = orders_have_no_circles
