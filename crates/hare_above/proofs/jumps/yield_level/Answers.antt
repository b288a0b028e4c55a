use Rattle.std.proofs.Common.{refl, sym, ap, ◌∙◌, length, ◌≤◌, arith}
use Rattle.hare_rules.specs.Control.{level_from, takes_yield, yield_level}
use Rattle.hare_above.specs.Frames.{opens}
use Rattle.hare_above.proofs.JumpLemmas.{level-next, opens-none}
use Rattle.hare_above.proofs.jumps.yield_level.Goals as goal

pub loop-i-init : goal.loop-i-init
loop-i-init c hs e = refl

pub loop-i-preserved : goal.loop-i-preserved
loop-i-preserved c hs e =
    level-next (takes_yield c.args.name.now) c.args.labels.now hs c.loop-i.i c.in-Some.l.now c.loop-i.nearest c.nearer-nearest.result
    (yield_level c.args.name.now (opens c.args.labels.now hs)) e (sym c.in-Some.ensures) c.nearer-nearest.ensures (c.loop-i.invariant hs e)

pub returns : goal.returns
returns c hs e =
    let past : length c.args.labels.now ≤ c.loop-i.i = omega arith in
    sym (ap (λ x. level_from (takes_yield c.args.name.now) c.loop-i.i x c.loop-i.nearest)
    (opens-none c.args.labels.now hs c.loop-i.i past)) ∙ c.loop-i.invariant hs e
