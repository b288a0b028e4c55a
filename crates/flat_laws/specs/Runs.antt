-- What is said of every run of code, and how code may end.
use Rattle.std.specs.Prelude.{ℕ}
use Rattle.flat_code.specs.declared.program.FlatProgram.{FlatProgram}
use Rattle.flat_code.specs.Code.{Code, Codes}
use Rattle.flat_code.specs.State.{State, Flow, Next, Left, Returned, Exit, Abort, Fault, HeapFull, Spent, Result}
use Rattle.flat_code.specs.Evaluation.{flat, flat_begun, flat_below, flats_in}

-- whether the call in which code began is not over for the program: the code goes on, leaves or returns, and does not end the program
abbrev pub GoesOn : Flow → Type 0
GoesOn Next = Unit {0}
GoesOn (Left k) = Unit {0}
GoesOn (Returned v) = Unit {0}
GoesOn (Exit status) = ⊥
GoesOn (Abort text) = ⊥
GoesOn (Fault f) = ⊥
GoesOn HeapFull = ⊥
GoesOn Spent = ⊥

-- This holds of a state and of what code gives in it, for all code of all programs, however many turns are left.
pub record OfAllCode (Holds : State → Result → Type 0) : Type 0 where
  -- of a statement
  pub statement : (p : FlatProgram) (n : ℕ) (c : Code) (s : State) → Holds s (flat p n c s)
  -- of one that has begun, and so has counted
  pub begun :
      (p : FlatProgram) (n : ℕ) (c : Code) (s : State)
      → Holds s (flat_begun p n (flat_below p n) c s)
  -- of the statements of a Seq
  pub statements :
      (p : FlatProgram) (n : ℕ) (cs : Codes) (s : State)
      → Holds s (flats_in p n (flat_below p n) cs s)
  -- of the body of a Loop or of a function, for which there is one turn less
  pub body : (p : FlatProgram) (n : ℕ) (c : Code) (s : State) → Holds s (flat_below p n c s)
