use Rattle.std.proofs.Common.{◌≡◌}
use Rattle.hare_types.specs.ByIds.{sized_at}
use Rattle.hare_types.specs.Store.{Store}
use Rattle.hare_types.proofs.marks.unmarked.Given as goal

abbrev pub decreases-loop-inner : goal.decreases-loop-inner
decreases-loop-inner l = l.at

abbrev pub invariant-loop-inner : goal.invariant-loop-inner
invariant-loop-inner l = (s : Store) → s.rows ≡ l.rows → sized_at s l.at ≡ sized_at s l.fn.t
