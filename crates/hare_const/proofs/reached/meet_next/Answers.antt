use Rattle.std.proofs.Common.{subst}
use Rattle.std.specs.Prelude.{OnOk}
use Rattle.std.specs.Ordering.{nat_cmp}
use Rattle.std.specs.BTreeMap.{get}
use Rattle.hare_const.specs.Statics.{led_from, Adds}
use Rattle.hare_const.proofs.ReachedLemmas.{adds_nothing}
use Rattle.hare_const.proofs.reached.meet_next.Goals as goal

pub returns-in-Some-clause-order : goal.returns-in-Some-clause-order
returns-in-Some-clause-order c =
    let met = c.args.met.now.order.items in
    subst (λ o. OnOk c.meet_behind.result (Adds (led_from (get nat_cmp c.args.table.now) o) met c.meet_behind.new.met.order.items))
    c.in-Some.ensures
    c.meet_behind.ensures.order

pub returns-in-None-clause-order : goal.returns-in-None-clause-order
returns-in-None-clause-order c =
    let met = c.args.met.now.order.items in
    subst (λ o. Adds (led_from (get nat_cmp c.args.table.now) o) met met) c.in-None.ensures (adds_nothing met)
