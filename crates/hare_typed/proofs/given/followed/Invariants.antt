use Rattle.std.proofs.Common.{◌≡◌, ◌+◌, ◌-◌}
use Rattle.hare_typed.specs.Given.{followed, followed_within}
use Rattle.hare_typed.proofs.given.followed.Given as goal

-- the pointers so far, and those that are still followed
abbrev pub invariant-loop-passed : goal.invariant-loop-passed
invariant-loop-passed l = l.passed + followed_within (16 - l.passed) l.s l.at ≡ followed l.s l.fn.t
