use Rattle.hare_waits.specs.Held.{holding}
use Rattle.hare_waits.proofs.held.awaited_name.Goals as goal

pub loop-turn-preserved : goal.loop-turn-preserved
loop-turn-preserved c = λ d w. c.loop-turn.invariant d (holding c.loop-turn.at c.in_ok-at.at d c.in_ok-at.ensures w)
