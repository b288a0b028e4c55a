use Rattle.hare_limits.proofs.LimitsPassed.Sums.{Summed}
use Rattle.hare_limits.proofs.sums.first_large_sum.Given as goal

-- what the declarations so far have together
abbrev pub invariant-loop-i : goal.invariant-loop-i
invariant-loop-i l = Summed l.s l.decls l.i l.weight l.size
