use Rattle.std.proofs.Common.{arith}
use Rattle.hare_flow.proofs.YieldLemmas.{handed_more, handed_end, same_true}
use Rattle.hare_flow.proofs.yields.handed_at.Goals as goal

pub loop-i-preserved : goal.loop-i-preserved
loop-i-preserved c =
    handed_more c.args.level c.args.yields.now c.loop-i.i c.index-yields-i.result c.loop-i-test.true c.index-yields-i.is c.loop-i.found
    c.push.new.self _
    (same_true c.index-yields-i.result.level c.args.level c.if-y-level.false) c.in_ok-push.ensures.ok c.loop-i.invariant

pub returns : goal.returns
returns c = handed_end c.args.level c.args.yields.now c.loop-i.i c.loop-i.found _ (omega arith) c.loop-i.invariant
