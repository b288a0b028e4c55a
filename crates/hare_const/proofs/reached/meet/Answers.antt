use Rattle.std.proofs.Common.{◌≡◌, true, arith}
use Rattle.std.specs.Ordering.{nat_cmp}
use Rattle.std.specs.BTreeSet.{contains}
use Rattle.hare_const.proofs.ReachedLemmas.{met_numbers, adds_again}
use Rattle.hare_const.proofs.reached.meet.Goals as goal

pub returns-in_ok-push-clause-numbers : goal.returns-in_ok-push-clause-numbers
returns-in_ok-push-clause-numbers c =
    met_numbers c.args.met.now.numbers.keys c.args.met.now.order.items c.insert.new.self.keys c.push.new.self.items c.args.n c.requires
    c.in_ok-insert.ensures.keys c.in_ok-push.ensures.items

pub returns-else-branch-clause-order : goal.returns-else-branch-clause-order
returns-else-branch-clause-order c =
    let there : contains nat_cmp c.args.met.now.numbers c.args.n ≡ true = grind (arith, c.in_ok-insert.ensures.added, c.if-branch.false) in
    adds_again c.args.met.now.numbers c.args.met.now.order.items c.args.n c.requires there
