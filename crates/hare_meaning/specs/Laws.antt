-- What more turns change.
use Rattle.std.specs.Prelude.{◌≡◌, ℕ, ◌≤◌, List, ◌++◌}
use Rattle.hare_typed.specs.Typed.{TypedNode}
use Rattle.hare_typed.specs.State.{Mode, Scope, State, Spent}
use Rattle.hare_typed.specs.Interpreter.{Forms, evaluate}
use Rattle.hare_meaning.specs.Code.{Code}
use Rattle.hare_meaning.specs.Run.{run}

-- An outcome other than Spent stays, with all of its state, at every greater number of turns: of any node, whatever the forms are, and of
-- a run.
pub record TurnsKeepOutcomes : Type 0 where
  pub of_nodes : (fs : Forms) (n m : ℕ) (t : TypedNode) (mode : Mode) (sc : Scope) (s : State) → n ≤ m →
      ¬ ((evaluate fs n t mode sc s).0 ≡ Spent) → evaluate fs m t mode sc s ≡ evaluate fs n t mode sc s
  pub of_runs : (c : Code) (args : List (List ℕ)) (input : List ℕ) (n m : ℕ) → n ≤ m →
      ¬ ((run c args input n).0 ≡ Spent) → run c args input m ≡ run c args input n

-- the one list begins the other
abbrev pub IsFront : List ℕ → List ℕ → Type 0
IsFront xs ys = (rest : List ℕ) × (xs ++ rest ≡ ys)

-- The output is a front of that at every greater number of turns.
pub record TurnsExtendOutput : Type 0 where
  pub of_nodes : (fs : Forms) (n m : ℕ) (t : TypedNode) (mode : Mode) (sc : Scope) (s : State) → n ≤ m →
      IsFront (evaluate fs n t mode sc s).1.output (evaluate fs m t mode sc s).1.output
  pub of_runs : (c : Code) (args : List (List ℕ)) (input : List ℕ) (n m : ℕ) → n ≤ m →
      IsFront (run c args input n).1.output (run c args input m).1.output
