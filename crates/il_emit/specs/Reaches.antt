-- The module does what the program does: at every number of turns its run comes to where the program's run comes.
use Rattle.std.specs.Prelude.{◌≡◌, ℕ, ◌+◌, ◌*◌, ◌<◌, ◌≤◌, ◌⊎◌, List, Option, None, Some}
use Rattle.hx_base.specs.Memory.{SameMemory}
use Rattle.hx_base.specs.Runtime.{World}
use Rattle.flat_code.specs.declared.program.FlatProgram.{FlatProgram}
use Rattle.flat_code.specs.Run.{run}
use Rattle.flat_code.specs.State.{FlatFault, Flow, Result}
use Rattle.flat_code.specs.State as flat
use Rattle.il_code.specs.declared.types.MachineFault.{MachineFault}
use Rattle.il_code.specs.declared.types.MachineFault.TheVariants as fault
use Rattle.il_code.specs.declared.types.Module.{Module}
use Rattle.il_code.specs.Machine.{End, Exit, Abort, Fault, StackFull, stack_size}
use Rattle.il_code.specs.MachineLaws.{jumps_and_calls}
use Rattle.il_code.specs.Run.{machine}

-- ---- what is compared

-- two worlds that no program can tell apart: memory has the same bytes and the same of them are mapped, and all else is equal
pub record SameWorld (w w' : World) : Type 0 where
  pub memory : SameMemory w.memory w'.memory
  pub heap : w.heap ≡ w'.heap
  pub input : w.input ≡ w'.input
  pub output : w.output ≡ w'.output
  pub arguments : w.arguments ≡ w'.arguments

-- the fault of the machine for one of flat code. No well formed program has NoFunction.
abbrev pub fault_for : FlatFault → MachineFault
fault_for flat.Wild = fault.Wild
fault_for flat.Overlap = fault.Overlap
fault_for flat.BadFree = fault.BadFree
fault_for flat.BadArg = fault.BadArg
fault_for flat.ZeroDivisor = fault.ZeroDivisor
fault_for flat.NoFunction = fault.Hlt

-- How the machine ends where a program ends so: a block of the heap that would end too high is a full stack there. Where turns ran out it
-- has not ended. A program ends in none of the last three ways.
abbrev pub end_for : Flow → Option End
end_for (flat.Exit status) = Some (Exit status)
end_for (flat.Abort text) = Some (Abort text)
end_for (flat.Fault f) = Some (Fault (fault_for f))
end_for flat.HeapFull = Some StackFull
end_for flat.Spent = None
end_for flat.Next = None
end_for (flat.Left k) = None
end_for (flat.Returned value) = None

-- ---- the theorem

module _ (m : Module) (args : List (List ℕ)) (input : List ℕ) (fill n : ℕ) where
  -- With some budget the machine stands where the program's run of `n` turns stands: it has the same end, or goes on where turns ran out,
  -- and the world is the same. Where turns ran out it has done at least as many jumps and calls. The budget is just what it has used: at
  -- most four units for each flat step, and one for the frame of `main`.
  pub record Arrives (r : Result) : Type 0 where
    pub budget : ℕ
    pub ended : (machine m args input fill budget).ended ≡ end_for r.0
    pub world : SameWorld r.1.world (machine m args input fill budget).state.world
    pub jumps : r.0 ≡ flat.Spent → n ≤ jumps_and_calls (machine m args input fill budget)
    pub used : (machine m args input fill budget).used ≡ budget
    pub units : budget ≤ 4 * r.1.steps + 1

  -- with some budget the stack is full, and the calls that were active at once in the program's run cost more than the stack holds
  pub record Overflows (r : Result) : Type 0 where
    pub budget : ℕ
    pub ended : (machine m args input fill budget).ended ≡ Some StackFull
    pub cost : stack_size < r.1.most

-- For all arguments, input, fill byte and number of turns.
abbrev pub Reaches : FlatProgram → Module → Type 0
Reaches p m =
    (args : List (List ℕ)) (input : List ℕ) (fill n : ℕ)
    → Arrives m args input fill n (run p args input fill n) ⊎ Overflows m args input fill n (run p args input fill n)
