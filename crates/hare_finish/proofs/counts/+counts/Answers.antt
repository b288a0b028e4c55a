use Rattle.std.proofs.Common.{◌<◌, arith}
use Rattle.hare_typed.specs.Typed.{typed_nodes, size_of, sizes_of}
use Rattle.hare_typed.proofs.KidLemmas.{kid_size}
use Rattle.hare_finish.proofs.OneByOne.Counts.{trees-next, trees-none}
use Rattle.hare_finish.proofs.counts.+counts.Goals as goal

pub count_each-count_tree-requires : goal.count_each-count_tree-requires
count_each-count_tree-requires t c =
    let h : size_of c.in-Some.kid.now < sizes_of (typed_nodes c.args.kids.now) =
    kid_size c.args.kids.now c.loop-i.i c.in-Some.kid.now c.in-Some.ensures.found in
    (omega arith, tt)

pub count_each-loop-i-preserved : goal.count_each-loop-i-preserved
count_each-loop-i-preserved t c =
    let k = trees-next c.args.kids.now c.loop-i.i c.in-Some.kid.now c.in-Some.ensures.found in
    omega (arith, k)

pub count_each-returns : goal.count_each-returns
count_each-returns t c =
    let k = trees-none c.args.kids.now c.loop-i.i (omega arith) in
    omega (arith, k)
