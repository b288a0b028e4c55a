use Rattle.std.proofs.Common.{◌≡◌, ◌≤◌, ℕ, None}
use Rattle.hare_types.specs.Store.{sized_of}
use Rattle.type_bench.proofs.names.in_chain.Given as goal

-- the names from here on are not declared
abbrev pub invariant-loop-n : goal.invariant-loop-n
invariant-loop-n l = (d : ℕ) → l.n ≤ d → sized_of l.store d ≡ None
