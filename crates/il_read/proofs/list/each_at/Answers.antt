use Rattle.std.proofs.Common.{◌≡◌, ◌-◌, ◌+◌, true, length, arith}
use Rattle.il_read.specs.Lists.{each}
use Rattle.il_read.proofs.Loops.{left, each_kept}
use Rattle.il_read.proofs.list.each_at.Goals as goal

pub loop-turn-preserved : goal.loop-turn-preserved
loop-turn-preserved g c =
    let i = c.loop-turn._turn in
    let n = length c.args.s.now in
    let begins : g.T.Repeated.starts c.loop-turn.rest.now ≡ true = cc in
    each_kept g.T.Construct.reads g.T.Repeated.starts (each g.T.Construct.reads g.T.Repeated.starts n c.args.s.now) c.loop-turn.items
    c.push.new.self (n - i) (n - (i + 1)) c.loop-turn.rest.now c.in_ok-item.item c.in_ok-item.more.now c.loop-turn.invariant
    (left i n (omega arith)) begins c.in_ok-item.ensures c.in_ok-push.ensures.ok
