-- What evaluation goes through, and how it ends.
use Rattle.std.specs.Prelude.{ℕ, List, Option}
use Rattle.hare_tree.specs.declared.place.Place.{Place}
use Rattle.hare_typed.specs.declared.cell.Cell.{Cell}
use Rattle.hare_typed.specs.Scalars.{Pointer}
use Rattle.hare_typed.specs.Objects.{Objects}

-- ---- the state

-- what acts look at and change; of the rest input is only taken, output only added to, and ticks only counted
pub record Memory : Type 0 where
  pub objects : Objects
  pub live : ℕ  -- the bytes that live heap objects take, each rounded up
  pub taken : ℕ  -- the bytes of the heap that were ever taken
  pub stack : ℕ  -- the sum of the frame bounds of the functions under way

pub record State : Type 0 where
  pub memory : Memory
  pub input : List ℕ  -- what is left of it
  pub output : List ℕ  -- all of it so far
  pub ticks : ℕ  -- a measure of the work so far, on which nothing rests

-- ---- scopes

-- where a node is evaluated
pub record Scope : Type 0 where
  pub own : ℕ  -- in which declaration
  pub first : ℕ  -- how many of its bindings begin before the node
  pub locals : List (ℕ × ℕ)  -- which object each binding has that is in scope, by its number, the innermost first

-- whether a node is asked for a value, or for the place of one
pub data Mode : Type 0 where
  AsValue AsPlace : Mode

-- ---- outcomes

-- the label of a loop or block; no bytes where none is written
abbrev pub Label : Type 0
Label = List ℕ

pub data Outcome : Type 0 where
  Value : List Cell → Outcome
  Reached : Pointer → Outcome  -- the place, of a node that is asked for one
  Break : Label → Outcome
  Continue : Label → Outcome
  Yield : Label → Option (List Cell) → Outcome  -- without cells where no value was written
  Return : Option (List Cell) → Outcome
  Exit : ℕ → Outcome
  Abort : (text : List ℕ) → Outcome
  Undefined : (act : ℕ) → Place → Outcome  -- an undefined act by its number, and the place of its node
  Over : Outcome  -- a call or an allocation beyond what any run has room for
  Spent : Outcome  -- no turn was left

abbrev pub Result : Type 0
Result = Outcome × State
