use Rattle.std.proofs.Common.{map, take, sym, ap, ◌∙◌, subst}
use Rattle.hare_modules.specs.Order.{TellsFirst}
use Rattle.hare_modules.specs.Takings.{using}
use Rattle.hare_modules.specs.CirclesIn.{IsCircleIn}
use Rattle.hare_modules.proofs.ListLemmas.{map-push}
use Rattle.hare_modules.proofs.CircleLemmas.{circles-on, take-on, Contains-seen}
use Rattle.hare_modules.proofs.circles.follow_all.Goals as goal

pub follow-requires-clause-within : goal.follow-requires-clause-within
follow-requires-clause-within c =
    c.requires.within (using c.used-item.result)
    (Contains-seen using c.args.uses.now c.loop-used.used-index c.used-item.result c.loop-used-test.true c.used-item.is)

pub loop-used-preserved : goal.loop-used-preserved
loop-used-preserved c =
    let us = take c.loop-used.used-index c.args.uses.now in
    let more = ap (map using) (take-on c.args.uses.now c.loop-used.used-index c.used-item.result c.loop-used-test.true c.used-item.is) ∙
    map-push using us c.used-item.result in
    subst (λ vs. TellsFirst (IsCircleIn c.args.forward.now vs) c.in_ok-first.first) (sym more)
    (circles-on c.args.forward.now (map using us) (using c.used-item.result) c.loop-used.first c.in_ok-first.first c.loop-used.invariant
    c.in_ok-first.ensures)
