-- What a node does, as data. A node touches what is round it in the ways of Act and in no other, so that what holds of these holds of
-- each kind of node.
use Rattle.std.specs.Prelude.{ℕ, List, Option}
use Rattle.hare_typed.specs.declared.cell.Cell.{Cell}
use Rattle.hare_typed.specs.Typed.{TypedNode}
use Rattle.hare_typed.specs.Scalars.{Pointer}
use Rattle.hare_typed.specs.Objects.{Object}
use Rattle.hare_typed.specs.State.{Memory, Scope, Mode, Outcome}

-- what a loop hands to its next turn: the elements that a `for` over elements goes through, and which comes next
pub record Round : Type 0 where
  pub data_at : Pointer
  pub length : ℕ
  pub next : ℕ

pub data Act : Type 0 where
  end : Outcome → Act
  look : (Memory → Act) → Act  -- goes on by what memory is
  put : Memory → Act → Act  -- memory becomes this
  make : Option ℕ → Object → (ℕ → Act) → Act  -- makes a new object, a static one under its name, and goes on by its number
  tick : ℕ → Act → Act  -- adds to the ticks
  say : List ℕ → Act → Act  -- puts bytes out
  take_in : ℕ → (List ℕ → Act) → Act  -- takes so many bytes of the input, or what is left of it
  kid : ℕ → Mode → Scope → (Outcome → Act) → Act  -- evaluates the kid with so many kids before it
  part : ℕ → ℕ → Mode → Scope → (Outcome → Act) → Act  -- evaluates a kid of a kid, where the kid itself is not evaluated
  within : Act → (Outcome → Act) → Act  -- a scope: all local objects die that were made in it
  turn : TypedNode → Round → Scope → (Outcome → Act) → Act  -- a turn of this loop, with one turn less: Spent where none is left
  call : ℕ → List (List Cell) → (Outcome → Act) → Act  -- a call of the function of this declaration, likewise

-- what is evaluated with one turn less
pub data Task : Type 0 where
  Turn : TypedNode → Round → Task
  Call : ℕ → List (List Cell) → Task
