-- A text of the intermediate language carries a program: it is the text of a valid module, which has the program's shape and does what the
-- program does, within bounds on the stack and the units. `Carries` says so whole. `CarriesBothWays` is what is proved of the texts of
-- today: the shape, and that the machine does what the program does and nothing else.
use Rattle.std.specs.Prelude.{◌≡◌, ℕ, ◌+◌, ◌*◌, ◌<◌, ◌≤◌, ◌⊎◌, List}
use Rattle.il_code.specs.declared.types.Module.{Module}
use Rattle.il_code.specs.Machine.{End, Exit, Abort, Spent}
use Rattle.il_code.specs.MachineLaws.{IsFront, jumps_and_calls}
use Rattle.il_code.specs.Rules.{IsValidText}
use Rattle.il_code.specs.Run.{machine, machine_end, machine_output}
use Rattle.harec_core.specs.Programs.{Outcome, Exits, Aborts, Breaks, Goes, Evaluation, Outline, Measures}
use Rattle.harec_core.specs.Shape.{HasShape, AreWithinFrames, functions_of}
use Rattle.harec_words.specs.Commands.{AreArguments}

-- a program and a run of the machine end alike: both exit with one status, or both abort with one text
abbrev pub EndAlike : Outcome → End → Type 0
EndAlike (Exits status) end = end ≡ Exit status
EndAlike (Aborts text) end = end ≡ Abort text
EndAlike Breaks end = ⊥
EndAlike Goes end = ⊥

-- ---- forward

-- The run of a module with a budget follows a program that stands so, with this output: where the program has ended, the run ends alike
-- with the same output; where it goes on, its output is a front of the run's. Nothing is asked behind what has no meaning.
abbrev pub Follows : (end : End) (output : List ℕ) → Outcome → List ℕ → Type 0
Follows end output (Exits status) expected = EndAlike (Exits status) end × (output ≡ expected)
Follows end output (Aborts text) expected = EndAlike (Aborts text) end × (output ≡ expected)
Follows end output Breaks expected = Unit {0}
Follows end output Goes expected = IsFront expected output

module _ (m : Module) (e : Evaluation) (args : List (List ℕ)) (input : List ℕ) (fill : ℕ) where
  -- with some budget the run follows the program to where it stands after so many turns
  pub record Reaches (turns : ℕ) : Type 0 where
    pub budget : ℕ
    pub follows : Follows (machine_end m args input fill budget) (machine_output m args input fill budget) (e.outcome args input turns)
        (e.output args input turns)

-- the run follows the program at every number of turns, for all arguments, every input and each of the 256 fill bytes
abbrev pub Forward : Module → Evaluation → Type 0
Forward m e = (args : List (List ℕ)) (input : List ℕ) (fill turns : ℕ) → AreArguments args → fill < 256 → Reaches m e args input fill turns

-- ---- back

-- The program stands by what a run has done, after one turn more than the run has done jumps and calls: it did what has no meaning, or the
-- run goes on and its output is a front of the program's, or both have ended alike with the same output.
abbrev pub Backs : (end : End) (output : List ℕ) → Outcome → List ℕ → Type 0
Backs end output outcome told = (outcome ≡ Breaks) ⊎ ((end ≡ Spent) × IsFront output told) ⊎ (EndAlike outcome end × (output ≡ told))

module _ (m : Module) (e : Evaluation) (args : List (List ℕ)) (input : List ℕ) (fill budget : ℕ) where
  pub record IsBacked : Type 0 where
    pub few : jumps_and_calls (machine m args input fill budget) ≤ budget
    pub backs :
        let turns = jumps_and_calls (machine m args input fill budget) + 1 in
        Backs (machine_end m args input fill budget) (machine_output m args input fill budget) (e.outcome args input turns)
        (e.output args input turns)

-- what a run does is what the program does
abbrev pub Back : Module → Evaluation → Type 0
Back m e = (args : List (List ℕ)) (input : List ℕ) (fill budget : ℕ) → AreArguments args → fill < 256 → IsBacked m e args input fill budget

-- ---- units

-- the units with which a run has followed a program that has taken so many ticks
abbrev pub units_for : ℕ → ℕ
units_for ticks = 1024 * ticks + 64

-- the run follows the program within these units
abbrev pub WithinUnits : Module → Evaluation → Measures → Type 0
WithinUnits m e measures =
    (args : List (List ℕ)) (input : List ℕ) (fill turns : ℕ) → AreArguments args → fill < 256
    → (reached : Reaches m e args input fill turns) × (reached.budget ≤ units_for (measures.ticks args input turns))

-- ---- a text carries a program

pub record Carries (text : List ℕ) (e : Evaluation) (o : Outline) (measures : Measures) : Type 0 where
  pub program : Module
  pub valid : IsValidText text program
  pub shape : HasShape o program
  pub forward : Forward program e
  pub back : Back program e
  pub stack : AreWithinFrames measures.frames (functions_of program.items)
  pub units : WithinUnits program e measures

pub record CarriesBothWays (text : List ℕ) (e : Evaluation) (o : Outline) : Type 0 where
  pub program : Module
  pub valid : IsValidText text program
  pub shape : HasShape o program
  pub forward : Forward program e
  pub back : Back program e
