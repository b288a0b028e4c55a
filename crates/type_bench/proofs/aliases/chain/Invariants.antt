use Rattle.std.proofs.Common.{◌≡◌, ◌<◌, ℕ, true, Some, None}
use Rattle.hare_types.specs.Store.{sized_of, definition_of}
use Rattle.type_bench.proofs.aliases.chain.Given as goal

-- this name is declared and not defined, and those behind it are not declared
abbrev pub invariant-loop-n : goal.invariant-loop-n
invariant-loop-n l =
    (sized_of l.store l.n ≡ Some true) × (definition_of l.store l.n ≡ None) × ((d : ℕ) → l.n < d → sized_of l.store d ≡ None)
