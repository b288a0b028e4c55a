-- What is told of the run of a command: that of the machine of the intermediate language, over the input and the output of the call.
use Rattle.std.specs.Prelude.{◌≡◌, ℕ, ◌⊎◌, List, ◌++◌}
use Rattle.std.specs.Io.KnownBytes.{Consumes}
use Rattle.il_code.specs.declared.types.Module.{Module}
use Rattle.il_code.specs.Machine.{End}
use Rattle.il_code.specs.MachineLaws.{input_of, with_input}
use Rattle.il_code.specs.Run.{Run, end_of, machine, machine_end, machine_output, start}
use Rattle.il_step.specs.declared.end.End.{End as Answer}
use Rattle.il_step.specs.Ends.{answer_of}
use Rattle.il_step.specs.Runs.{Outside, Counts, IsLeft, Leads, Runs, RunsOnAny}
use Rattle.harec_core.specs.Outside.{Received, Sent, IsSent}

-- a module that is run, and with what
pub record Job : Type 0 where
  pub program : Module
  pub args : List (List ℕ)
  pub fill : ℕ
  pub units : ℕ

-- where the machine begins on these bytes of input
abbrev pub begun : Job → List ℕ → Run
begun j bytes = start j.program j.args bytes j.fill

-- where it comes on them, within the units
abbrev pub result_on : Job → List ℕ → Run
result_on j bytes = machine j.program j.args bytes j.fill j.units

-- ---- inputs

-- The module reads nothing: its runs are the same on every input, which they leave as it is.
abbrev pub ReadsNothing : Module → Type 0
ReadsNothing m =
    (args : List (List ℕ)) (input other : List ℕ) (fill n : ℕ)
    → machine m args other fill n ≡ with_input (machine m args input fill n) other

-- The bytes by which a run is told: those that the input has left, as it tells; or any, where the module reads nothing.
abbrev pub IsInputFor : Received → Module → List ℕ → Type 0
IsInputFor input m bytes = IsLeft input.before bytes ⊎ ReadsNothing m

-- ---- ends

-- the input and the output before the call, and behind it
abbrev pub outside_before : Received → Sent → Outside
outside_before input out = record {
  left = input.before;
  written = out.before;
  read_faults = input.faults.before;
  write_faults = out.faults.before;
}

abbrev pub outside_now : Received → Sent → Outside
outside_now input out = record {
  left = input.now;
  written = out.now;
  read_faults = input.faults.now;
  write_faults = out.faults.now;
}

module _ (j : Job) (input : Received) (out : Sent) where
  -- The machine of the definition ends so on these bytes of input. All of its output was written, and what it took was taken.
  pub record EndsOn (end : End) (bytes : List ℕ) : Type 0 where
    pub is : machine_end j.program j.args bytes j.fill j.units ≡ end
    pub sent : IsSent (machine_output j.program j.args bytes j.fill j.units) out
    pub taken : List ℕ
    pub front : taken ++ input_of (result_on j bytes) ≡ bytes
    pub lost : Consumes input.before input.now taken

  -- Whatever the input tells: steps of the machine within the units, each with any input, lead to this end, and what they put out was
  -- written.
  abbrev pub LeadsTo : End → Type 0
  LeadsTo end =
      (bytes : List ℕ) → Leads (λ r. end_of r ≡ end) j.program j.units (begun j bytes) (answer_of end) (outside_before input out)
      (outside_now input out)

  -- what a machine that was begun so answered, whose runs stand where they ended by this predicate
  pub record Answered (Stands : Run → Type 0) (answer : Answer) : Type 0 where
    pub counts : Counts answer (outside_before input out) (outside_now input out)
    pub told :
        (bytes : List ℕ) → IsLeft input.before bytes
        → Runs Stands j.program j.units (begun j bytes) answer (outside_before input out) (outside_now input out)
    pub any :
        (bytes : List ℕ)
        → RunsOnAny Stands j.program j.units (begun j bytes) answer (outside_before input out) (outside_now input out)
