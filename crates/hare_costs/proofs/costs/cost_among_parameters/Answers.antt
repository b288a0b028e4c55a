use Rattle.std.proofs.Common.{◌≡◌, ◌+◌, ◌-◌, ◌∙◌, arith}
use Rattle.hare_costs.proofs.CostLemmas.{cost-parameters}
use Rattle.hare_costs.proofs.costs.cost_among_parameters.Goals as goal

pub loop-i-preserved-in-Some : goal.loop-i-preserved-in-Some
loop-i-preserved-in-Some c =
    let q : c.loop-i.i ≡ (c.loop-i.i - 1) + 1 = omega arith in
    c.plus-all.ensures
    ∙ cost-parameters c.args.s.now c.args.kids.now (c.loop-i.i - 1) c.loop-i.i c.in-Some.t.now _ _ q c.in-Some.ensures.found
    c.cost_as_parameter.ensures c.loop-i.invariant
