-- Kids one behind another. An outcome that is no value, or no place where one was asked for, is at once the node's own, and no further
-- kid runs.
use Rattle.std.specs.Prelude.{ℕ, zero, suc, List, [], ◌∷◌}
use Rattle.hare_typed.specs.declared.cell.Cell.{Cell}
use Rattle.hare_typed.specs.Scalars.{Pointer}
use Rattle.hare_typed.specs.State.{Scope, AsValue, AsPlace, Outcome, Value, Reached}
use Rattle.hare_typed.specs.Acts.{Act, end, kid}

abbrev pub on_value : (List Cell → Act) → Outcome → Act
on_value k (Value cs) = k cs
on_value k o = end o

abbrev pub on_place : (Pointer → Act) → Outcome → Act
on_place k (Reached p) = k p
on_place k o = end o

-- the value of the kid with so many before it
abbrev pub value : ℕ → Scope → (List Cell → Act) → Act
value i sc k = kid i AsValue sc (on_value k)

-- its place
abbrev pub place : ℕ → Scope → (Pointer → Act) → Act
place i sc k = kid i AsPlace sc (on_place k)

-- the values of so many kids, from one on
abbrev pub values : (from n : ℕ) → Scope → (List (List Cell) → Act) → Act
values i zero sc k = k []
values i (suc n) sc k = value i sc λ c. values (suc i) n sc λ cs. k (c ∷ cs)
