use Rattle.std.proofs.Common.{◌≡◌, ◌-◌, ◌≤◌, true}
use Rattle.std.specs.Prelude.{bytes_eq}
use Rattle.hx_base.specs.Memory.{Memory, bytes_at}
use Rattle.il_mem.specs.Holds.{HoldsBytes}
use Rattle.il_mem.proofs.copies.same.Given as goal

-- so many bytes are the same
abbrev pub invariant-loop-done : goal.invariant-loop-done
invariant-loop-done l = (l.done ≤ l.n) × ((m : Memory) → HoldsBytes l.pages m →
    bytes_eq (bytes_at m l.a l.done) (bytes_at m l.b l.done) ≡ true)

abbrev pub decreases-loop-done : goal.decreases-loop-done
decreases-loop-done l = l.n - l.done
