use Rattle.std.proofs.Common.{◌-◌, length, rules}
use Rattle.hare_const.proofs.ReachedLemmas.{newest_there}
use Rattle.hare_const.proofs.reached.is_newest.Goals as goal

pub returns-in-Some : goal.returns-in-Some
returns-in-Some c = λ h. newest_there c.args.met.now.order.items (length c.args.met.now.order.items - 1) c.args.n c.in-Some.newest.now
    (search rules) (search rules)
