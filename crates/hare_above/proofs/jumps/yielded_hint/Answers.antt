use Rattle.std.proofs.Common.{refl, sym, ap, ◌∙◌, length, ◌≤◌, arith}
use Rattle.hare_rules.specs.declared.hint.Hint.TheVariants as hint
use Rattle.hare_rules.specs.Control.{takes_yield}
use Rattle.hare_above.specs.Frames.{opens}
use Rattle.hare_above.proofs.JumpLemmas.{last_hint, hint-next, last-meant, opens-none}
use Rattle.hare_above.proofs.jumps.yielded_hint.Goals as goal

pub loop-i-init : goal.loop-i-init
loop-i-init c = refl

pub loop-i-preserved : goal.loop-i-preserved
loop-i-preserved c =
    hint-next (takes_yield c.args.name.now) c.args.labels.now c.args.hints.now c.loop-i.i c.in-Some-Some.l.now c.in-Some-Some.h.now
    c.loop-i.nearest
    c.nearer_hint-nearest.result (last_hint (takes_yield c.args.name.now) hint.None (opens c.args.labels.now c.args.hints.now)) c.requires
    (sym c.in-Some-Some.ensures) (sym c.in-Some-Some.ensures') c.nearer_hint-nearest.ensures c.loop-i.invariant

pub returns : goal.returns
returns c =
    let past : length c.args.labels.now ≤ c.loop-i.i = omega arith in
    sym (ap (last_hint (takes_yield c.args.name.now) c.loop-i.nearest) (opens-none c.args.labels.now c.args.hints.now c.loop-i.i past))
    ∙ c.loop-i.invariant ∙ last-meant (takes_yield c.args.name.now) (opens c.args.labels.now c.args.hints.now)
