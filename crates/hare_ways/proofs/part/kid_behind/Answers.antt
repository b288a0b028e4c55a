use Rattle.std.proofs.Common.{arith}
use Rattle.hare_tree.proofs.TreeKids.KidsFrom.{nodes_from-past}
use Rattle.hare_ways.proofs.part.kid_behind.Goals as goal

pub returns-in-All : goal.returns-in-All
returns-in-All c = rw c.in-All.is (nodes_from-past c.args.kids.now c.len.result (omega arith))

pub returns-in-Listed : goal.returns-in-Listed
returns-in-Listed c = rw c.in-Listed.is (nodes_from-past c.args.kids.now c.len-in-Listed.result (omega arith))
