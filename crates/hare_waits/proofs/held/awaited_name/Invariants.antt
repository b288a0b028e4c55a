use Rattle.std.proofs.Common.{ℕ}
use Rattle.hare_waits.specs.Held.{WaitsFor}
use Rattle.hare_waits.proofs.held.awaited_name.Given as goal

-- what the type at hand waits for, the first type waits for
abbrev pub invariant-loop-turn : goal.invariant-loop-turn
invariant-loop-turn l = (d : ℕ) → WaitsFor l.s l.at d → WaitsFor l.s l.initial.at d
