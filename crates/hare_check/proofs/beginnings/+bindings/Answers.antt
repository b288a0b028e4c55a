use Rattle.std.proofs.Common.{arith}
use Rattle.hare_check.proofs.Walks.Bindings.{bindings-next, bindings-none}
use Rattle.hare_check.proofs.beginnings.+bindings.Goals as goal

pub count_in_each-loop-i-preserved : goal.count_in_each-loop-i-preserved
count_in_each-loop-i-preserved t c =
    let k = bindings-next c.args.kids.now c.loop-i.i c.in-Some.kid.now c.in-Some.ensures.found in
    omega (arith, k)

pub count_in_each-returns : goal.count_in_each-returns
count_in_each-returns t c =
    let k = bindings-none c.args.kids.now c.loop-i.i (omega arith) in
    omega (arith, k)
