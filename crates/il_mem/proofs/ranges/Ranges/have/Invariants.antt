use Rattle.std.proofs.Common.{◌-◌, ◌≤◌}
use Rattle.il_mem.specs.Laid.{IsCovered}
use Rattle.il_mem.proofs.ranges.Ranges.have.Given as goal

-- what is reached is covered
abbrev pub invariant-loop-reached : goal.invariant-loop-reached
invariant-loop-reached l = (l.at ≤ l.reached) × IsCovered l.self l.at l.reached

abbrev pub decreases-loop-reached : goal.decreases-loop-reached
decreases-loop-reached l = l.end - l.reached
