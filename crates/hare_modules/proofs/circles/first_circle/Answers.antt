use Rattle.std.proofs.Common.{◌≡◌, map, length, sym, ap, ◌∙◌, subst}
use Rattle.hare_modules.specs.Takings.{using}
use Rattle.hare_graph.specs.Ranks.{IsReverse, StaysWithin, AreRanks}
use Rattle.hare_modules.specs.CirclesIn.{AreUsingsWithin, imports_graph}
use Rattle.hare_modules.proofs.CircleLemmas.{imports-reverse, imports-stay, length-imports}
use Rattle.hare_modules.proofs.circles.first_circle.Goals as goal

pub ranks-requires : goal.ranks-requires
ranks-requires c =
    let us = map using c.args.uses.now in
    subst (λ g. IsReverse g c.in_ok-backward.backward) (sym c.in_ok-forward.ensures)
    (subst (λ h. IsReverse (imports_graph c.args.modules us) h) (sym c.in_ok-backward.ensures)
    (imports-reverse c.args.modules us c.requires))

pub follow_all-requires-clause-ranks : goal.follow_all-requires-clause-ranks
follow_all-requires-clause-ranks c = subst (AreRanks c.in_ok-forward.forward) (sym c.as_slice.ensures.value) c.in_ok-ranks.ensures

pub follow_all-requires-clause-stays : goal.follow_all-requires-clause-stays
follow_all-requires-clause-stays c =
    let us = map using c.args.uses.now in
    subst StaysWithin (sym c.in_ok-forward.ensures) (imports-stay c.args.modules us c.requires)

pub follow_all-requires-clause-within : goal.follow_all-requires-clause-within
follow_all-requires-clause-within c =
    let us = map using c.args.uses.now in
    let n : length c.in_ok-forward.forward ≡ c.args.modules =
    ap length c.in_ok-forward.ensures ∙ length-imports c.args.modules us c.requires in
    subst (λ m. AreUsingsWithin m us) (sym n) c.requires
