use Rattle.std.proofs.Common.{◌≡◌, ◌+◌, ◌-◌, length, subst, IfOk, arith}
use Rattle.hare_costs.proofs.CostLemmas.{body-last}
use Rattle.hare_costs.proofs.costs.cost_of_body.Goals as goal

pub returns-in-Some : goal.returns-in-Some
returns-in-Some c =
    let last : c.len-count.result - 1 + 1 ≡ length c.f.inside.kids = omega arith in
    let same = body-last c.args.s.now _ _ c.f.inside.kids c.args.f.now (c.len-count.result - 1) c.in-Some.body.now c.f.view_is last
    c.in-Some.ensures.found in
    subst (λ z. IfOk c.cost_of_tree.result (λ a. a ≡ z)) same c.cost_of_tree.ensures.value
