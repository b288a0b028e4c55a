use Rattle.std.proofs.Common.{rules}
use Rattle.hare_typed.proofs.RepeatLemmas.{map_moved-more}
use Rattle.hare_typed.proofs.cells.moved_on.Goals as goal

pub loop-r-preserved : goal.loop-r-preserved
loop-r-preserved c =
    map_moved-more c.args.by c.args.repeats.now c.loop-r.out.items _ c.loop-r.r-index c.in-Some-Some.from c.in-Some-Some.to _
    c.loop-r-test.true c.loop-r.invariant (search rules) (search rules) c.in_ok-push.ensures.items
