-- What it means that flat code does the same as a program of the class.
use Rattle.std.specs.Prelude.{◌≡◌, ℕ, List, length}
use Rattle.flat_code.specs.declared.program.FlatProgram.{FlatProgram}
use Rattle.flat_code.specs.State.{Flow}
use Rattle.flat_code.specs.State as flow
use Rattle.flat_code.specs.Run as flat
use Rattle.hare_blocks.specs.Trees.{Program}
use Rattle.hare_blocks.specs.Evaluation.{End, Exit, Spent, run}

-- ---- ends and output

-- the end of flat code that is the end of a program
abbrev pub flat_end : End → Flow
flat_end (Exit status) = flow.Exit status
flat_end Spent = flow.Spent

-- With the same arguments and the same number of turns, whatever the input and the fill byte, flat code ends as the program does and has
-- put out the same. The input is left as it was.
pub record DoesTheSame (p : Program) (f : FlatProgram) : Type 0 where
  pub ends : (args : List (List ℕ)) (input : List ℕ) (fill n : ℕ) → (flat.run f args input fill n).0 ≡ flat_end (run (length args) p n).0
  pub outputs : (args : List (List ℕ)) (input : List ℕ) (fill n : ℕ) → (flat.run f args input fill n).1.world.output ≡
      (run (length args) p n).1
  pub inputs : (args : List (List ℕ)) (input : List ℕ) (fill n : ℕ) → (flat.run f args input fill n).1.world.input ≡ input
