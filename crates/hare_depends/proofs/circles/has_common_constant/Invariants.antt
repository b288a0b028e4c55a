use Rattle.std.proofs.Common.{◌≡◌, ℕ, ◌<◌, true}
use Rattle.hare_graph.specs.Graphs.{IsLabelled}
use Rattle.hare_depends.specs.Sorts.{is_constant}
use Rattle.hare_depends.specs.Dependence.{is_at}
use Rattle.hare_depends.proofs.circles.has_common_constant.Given as goal

-- none of those so far is a def or a global without a type that has both labels
abbrev pub invariant-loop-decl : goal.invariant-loop-decl
invariant-loop-decl l = (e : ℕ) → e < l.decl → is_at is_constant l.saids e ≡ true → IsLabelled l.ahead e → IsLabelled l.behind e → ⊥
