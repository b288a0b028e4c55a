use Rattle.std.proofs.Common.{◌≡◌, drop}
use Rattle.hare_costs.proofs.CostLemmas.{parameters_cost}
use Rattle.hare_costs.proofs.costs.cost_among_parameters.Given as goal

-- what those from one on cost that are parameters
abbrev pub invariant-loop-i : goal.invariant-loop-i
invariant-loop-i l = l.all ≡ parameters_cost l.s (drop l.i l.kids)
