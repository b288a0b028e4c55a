use Rattle.std.proofs.Common.{◌≡◌, ◌≤◌}
use Rattle.hare_costs.proofs.LeavingLemmas.{kept_so_far}
use Rattle.hare_costs.proofs.leaving.gather_leaving.Given as goal

-- what has been moved and what is left to be moved is what is kept of all
abbrev pub invariant-loop-i : goal.invariant-loop-i
invariant-loop-i l = record {
  behind : l.kept ≤ l.i;
  kept : kept_so_far l.k l.own l.exits l.kept l.i ≡ kept_so_far l.k l.own l.initial.exits l.from l.from;
}
