use Rattle.std.proofs.Common.{ℕ, ◌<◌}
use Rattle.hare_layout.specs.Admission.{IsBadSpread}
use Rattle.hare_layout.specs.Ids.{AreLeftBelow}
use Rattle.hare_layout.proofs.members_left.members_left.Given as goal

abbrev pub invariant-loop-k : goal.invariant-loop-k
invariant-loop-k l = AreLeftBelow l.s l.r l.k l.left.items × ((j : ℕ) → j < l.k → ¬ IsBadSpread l.s l.r j)
