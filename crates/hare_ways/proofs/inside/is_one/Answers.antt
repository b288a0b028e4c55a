use Rattle.std.proofs.Common.{arith}
use Rattle.hare_ways.proofs.KidLemmas.{one-is, none-is}
use Rattle.hare_ways.proofs.inside.is_one.Goals as goal

pub returns-then-len-from : goal.returns-then-len-from
returns-then-len-from c = none-is c.args.kids.now c.args.from (omega arith)

pub returns : goal.returns
returns c = one-is c.args.kids.now c.args.from c.len-2.result c.len-2.ensures (omega arith)
