use Rattle.std.proofs.Common.{◌≡◌, ◌<◌, ℕ, Some, IsSome}
use Rattle.std.specs.Prelude.{slice_get}
use Rattle.hare_types.specs.Kept.{parts_of}
use Rattle.hare_types.specs.Waiting.{extent_at}
use Rattle.hare_types.proofs.settle.seen_of.Given as goal

abbrev pub invariant-loop-i : goal.invariant-loop-i
invariant-loop-i l = (k p : ℕ) → k < l.i → slice_get (parts_of l.row) k ≡ Some p → IsSome (extent_at l.kept p)
