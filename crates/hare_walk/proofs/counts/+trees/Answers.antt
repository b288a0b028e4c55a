use Rattle.std.proofs.Common.{arith}
use Rattle.hare_walk.proofs.Counted.{trees-next, trees-none}
use Rattle.hare_walk.proofs.counts.+trees.Goals as goal

pub count_trees-loop-i-preserved : goal.count_trees-loop-i-preserved
count_trees-loop-i-preserved t c =
    let k = trees-next c.args.kids.now c.loop-i.i c.in-Some.kid.now c.in-Some.ensures.found in
    omega (arith, k)

pub count_trees-returns : goal.count_trees-returns
count_trees-returns t c =
    let k = trees-none c.args.kids.now c.loop-i.i (omega arith) in
    omega (arith, k)
