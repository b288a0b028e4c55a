use Rattle.std.proofs.Common.{◌≡◌, ℕ, ◌<◌, Some}
use Rattle.std.specs.Prelude.{slice_get}
use Rattle.hare_typed.specs.Typed.{TypedNode}
use Rattle.hare_whole.specs.Limits.{IsFramed}
use Rattle.hare_limits.proofs.frames.first_large_frame.Given as goal

-- no frame so far is too large
abbrev pub invariant-loop-i : goal.invariant-loop-i
invariant-loop-i l = (k : ℕ) (d : TypedNode) → k < l.i → slice_get l.decls k ≡ Some d → IsFramed l.s d
