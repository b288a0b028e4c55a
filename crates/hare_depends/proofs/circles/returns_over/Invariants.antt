use Rattle.std.proofs.Common.{ℕ, take}
use Rattle.std.specs.Prelude.{Contains}
use Rattle.hare_graph.specs.Graphs.{Reached}
use Rattle.hare_depends.proofs.circles.returns_over.Given as goal

-- none of those so far leads back
abbrev pub invariant-loop-target : goal.invariant-loop-target
invariant-loop-target l = (x : ℕ) → Contains (take l.target-index l.targets) x → Reached l.forward x l.node → ⊥
