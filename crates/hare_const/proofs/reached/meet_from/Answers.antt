use Rattle.std.proofs.Common.{◌≡◌, [], ◌∷◌, subst, rules}
use Rattle.hare_typed.specs.Leads.{led_to}
use Rattle.hare_const.specs.Statics.{Adds}
use Rattle.hare_const.proofs.ReachedLemmas.{adds_there}
use Rattle.hare_const.proofs.reached.meet_from.Goals as goal

pub returns-in-Some-clause-order : goal.returns-in-Some-clause-order
returns-in-Some-clause-order c =
    let leads : c.in-Some.n ∷ [] ≡ led_to c.args.cell = search rules in
    subst (λ ns. Adds ns c.args.met.now.order.items c.args.met.now.order.items) leads
    (adds_there c.args.met.now.order.items c.in-Some.n (search rules))
