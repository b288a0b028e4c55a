use Rattle.std.proofs.Common.{◌-◌, ◌+◌, length, arith}
use Rattle.il_read.specs.Lists.{listed}
use Rattle.il_read.proofs.Loops.{left, listed_kept}
use Rattle.il_read.proofs.list.listed_at.Goals as goal

pub loop-turn-preserved : goal.loop-turn-preserved
loop-turn-preserved g c =
    let i = c.loop-turn._turn in
    let n = length c.args.s.now in
    listed_kept g.T.Construct.reads (listed g.T.Construct.reads n c.args.s.now) c.loop-turn.items c.push.new.self (n - i) (n - (i + 1))
    c.loop-turn.rest.now c.in_ok-item.item c.in_ok-item.more.now c.in-Some.next.now c.loop-turn.invariant (left i n (omega arith))
    c.in_ok-item.ensures c.in-Some.ensures c.in_ok-push.ensures.ok
