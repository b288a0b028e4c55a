use Rattle.std.proofs.Common.{◌≤◌, length}
use Rattle.std.specs.Prelude.{not}
use Rattle.hx_base.specs.Memory.{in_range}
use Rattle.il_mem.proofs.StackCuts.{Cut}
use Rattle.il_mem.proofs.stack.cut.Given as goal

-- behind the first `k` only what is to go has gone
abbrev pub invariant-loop-k : goal.invariant-loop-k
invariant-loop-k l =
    (l.k ≤ length l.initial.stack.items) × Cut (λ r. not (in_range l.at l.n r.0)) l.initial.stack.items l.k l.stack.items

abbrev pub decreases-loop-k : goal.decreases-loop-k
decreases-loop-k l = l.k
