use Rattle.std.proofs.Common.{ℕ, ◌<◌}
use Rattle.hare_depends.specs.Edges.{Returns}
use Rattle.hare_depends.proofs.circles.first_returning.Given as goal

-- none of those so far leads back
abbrev pub invariant-loop-node : goal.invariant-loop-node
invariant-loop-node l = (e : ℕ) → e < l.node → Returns l.forward e → ⊥
