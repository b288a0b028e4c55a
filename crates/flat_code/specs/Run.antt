-- What a whole program of flat code does within a number of turns.
use Rattle.std.specs.Prelude.{ℕ, ◌%◌, List, [], length, Option, None, Some, codes}
use Rattle.hx_base.specs.Runtime.{World, heap_start, stack_start}
use Rattle.flat_code.specs.declared.program.FlatFn.{FlatFn}
use Rattle.flat_code.specs.declared.program.FlatProgram.{FlatProgram}
use Rattle.flat_code.specs.Shape.{code_of}
use Rattle.flat_code.specs.Addresses.{start_memory}
use Rattle.flat_code.specs.State.{State, Next, Left, Returned, Exit, Abort, Fault, NoFunction, HeapFull, Spent, Result}
use Rattle.flat_code.specs.Evaluation.{flat, entered, function_named}

-- what a program acts on as it begins
abbrev pub start_world : FlatProgram → List (List ℕ) → List ℕ → ℕ → World
start_world p args input fill = record {
  memory = start_memory fill p args;
  heap = record { next = heap_start; blocks = [] };
  input = input;
  output = [];
  arguments = length args;
}

-- a state in which no function has been called
abbrev pub before_calls : World → State
before_calls w = record { world = w; temps = []; frame = stack_start; top = stack_start; steps = 0; cost = 0; most = 0 }

-- how the first call of `main` ends the program: a return exits with its value modulo 256
abbrev pub ended : Result → Result
ended (Next, s) = (Exit 0, s)
ended (Left k, s) = (Exit 0, s)
ended (Returned v, s) = (Exit (v % 256), s)
ended (Exit k, s) = (Exit k, s)
ended (Abort b, s) = (Abort b, s)
ended (Fault f, s) = (Fault f, s)
ended (HeapFull, s) = (HeapFull, s)
ended (Spent, s) = (Spent, s)

-- a run that begins with this function, if there is one. Its call uses no turn.
abbrev pub run_from : FlatProgram → ℕ → State → Option FlatFn → Result
run_from p n s None = (Fault NoFunction, s)
run_from p n s (Some f) = ended (flat p n (code_of f.body) (entered s f []))

-- the run of a program with these arguments, this input and this fill byte, in which `n` turns are left
abbrev pub run : FlatProgram → List (List ℕ) → List ℕ → ℕ → ℕ → Result
run p args input fill n = run_from p n (before_calls (start_world p args input fill)) (function_named p.functions (codes "main"))
