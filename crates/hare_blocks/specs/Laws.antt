-- What holds of every program's evaluation.
use Rattle.std.specs.Prelude.{◌≡◌, ℕ, ◌≤◌, List, ◌++◌}
use Rattle.hare_blocks.specs.Trees.{Program}
use Rattle.hare_blocks.specs.Evaluation.{Spent, run}

-- the second list begins with the first
abbrev pub IsPrefix : List ℕ → List ℕ → Type 0
IsPrefix front whole = (more : List ℕ) × (front ++ more ≡ whole)

-- an end that is not Spent, and the output at it, are those of every greater number of turns
abbrev pub MoreTurnsKeepTheEnd : Type 0
MoreTurnsKeepTheEnd = (args : ℕ) (p : Program) (n m : ℕ) → n ≤ m → ¬ ((run args p n).0 ≡ Spent) → run args p m ≡ run args p n

-- the output at a number of turns is a prefix of that at every greater one
abbrev pub MoreTurnsExtendTheOutput : Type 0
MoreTurnsExtendTheOutput = (args : ℕ) (p : Program) (n m : ℕ) → n ≤ m → IsPrefix (run args p n).1 (run args p m).1
