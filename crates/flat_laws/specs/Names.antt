-- What the names of a well formed program call.
use Rattle.std.specs.Prelude.{◌≡◌, ℕ, List, None, Some, Contains}
use Rattle.hx_runtime.specs.Functions.{runtime_function}
use Rattle.hx_runtime.specs.declared.runtime.RuntimeFunction.{RuntimeFunction}
use Rattle.flat_code.specs.declared.program.FlatFn.{FlatFn}
use Rattle.flat_code.specs.declared.program.FlatProgram.{FlatProgram}
use Rattle.flat_code.specs.Evaluation.{function_named}
use Rattle.flat_code.specs.WellFormed.{IsWellFormed}

-- no function of the program has a name of the runtime
abbrev pub RuntimeIsNotTaken : Type 0
RuntimeIsNotTaken =
    (p : FlatProgram) (name : List ℕ) (g : RuntimeFunction)
    → IsWellFormed p
    → runtime_function name ≡ Some g
    → function_named p.functions name ≡ None

-- each function of the program is what its name calls
abbrev pub FunctionsAreFound : Type 0
FunctionsAreFound = (p : FlatProgram) (f : FlatFn) → IsWellFormed p → Contains p.functions f → function_named p.functions f.name ≡ Some f
