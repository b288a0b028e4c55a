use Rattle.std.proofs.Common.{◌≡◌, ◌-◌}
use Rattle.hare_typed.specs.Followed.{reached_within}
use Rattle.hare_const.proofs.measures.reached_within.Given as goal

-- what is reached from here is what is reached from the start
abbrev pub invariant-loop-passed : goal.invariant-loop-passed
invariant-loop-passed l = reached_within (l.most - l.passed) l.s l.at ≡ reached_within l.most l.s l.fn.t
