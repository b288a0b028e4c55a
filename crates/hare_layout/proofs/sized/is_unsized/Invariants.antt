use Rattle.std.proofs.Common.{◌≡◌, ◌<◌, length}
use Rattle.hare_layout.specs.Ids.{unsized_at}
use Rattle.hare_layout.proofs.sized.is_unsized.Given as goal

abbrev pub invariant-marks : goal.invariant-marks
invariant-marks l = (l.at < length l.s.rows) × (unsized_at l.s l.at ≡ unsized_at l.s l.fn.t)

abbrev pub decreases-marks : goal.decreases-marks
decreases-marks l = l.at
