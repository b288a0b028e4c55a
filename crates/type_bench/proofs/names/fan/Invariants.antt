use Rattle.std.proofs.Common.{◌≡◌, ◌<◌, ℕ, None}
use Rattle.hare_types.specs.Store.{sized_of}
use Rattle.type_bench.proofs.names.fan.Given as goal

-- the first name and those behind this one are not declared
abbrev pub invariant-loop-n : goal.invariant-loop-n
invariant-loop-n l = (sized_of l.store 0 ≡ None) × ((d : ℕ) → l.n < d → sized_of l.store d ≡ None)
