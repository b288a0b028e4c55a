-- Which temporaries a function of a program sets, and at which class.
use Rattle.std.specs.Prelude.{ℕ, suc, Bool, true, false, not, ◌&&◌, ◌||◌, List, [], ◌∷◌, Option, None, Some, ◌==◌}
use Rattle.hx_base.specs.declared.Class.{Class}
use Rattle.hx_base.specs.declared.Class.TheVariants.{W, L}
use Rattle.flat_code.specs.declared.program.FlatFn.{FlatFn}
use Rattle.flat_code.specs.declared.program.FlatProgram.{FlatProgram}
use Rattle.flat_code.specs.Code.{Code, Codes, none, more, Seq, Set, Load, Store, Move, If, Loop, Leave, Call, Ret}
use Rattle.flat_code.specs.Shape.{code_of}
use Rattle.flat_code.specs.Evaluation.{function_named}
use Rattle.hx_runtime.specs.Functions.{runtime_result, runtime_function}
use Rattle.hx_runtime.specs.declared.runtime.RuntimeFunction.{RuntimeFunction}

-- ---- classes

abbrev pub same_class : Class → Class → Bool
same_class W W = true
same_class W L = false
same_class L W = false
same_class L L = true

abbrev pub other_class : Class → Class
other_class W = L
other_class L = W

-- a temporary of this number and class is what is set
abbrev pub is_temp_of : ℕ → Class → ℕ → Class → Bool
is_temp_of t class temp c = temp == t && same_class c class

-- ---- what sets a temporary at a class

-- the class of the result of a function of the runtime, if it is one and has one
abbrev pub call_class : Option RuntimeFunction → Option Class
call_class None = None
call_class (Some f) = runtime_result f

-- the class of the result of what a name calls, if it has one: of a function of the program, else of the runtime
abbrev pub called_class : Option FlatFn → List ℕ → Option Class
called_class (Some g) name = g.result
called_class None name = call_class (runtime_function name)

-- the same of a name in a program, of whose functions the first with the name is called
abbrev pub result_class : FlatProgram → List ℕ → Option Class
result_class p name = called_class (function_named p.functions name) name

-- there is a result, and it has the class
abbrev pub is_given : Class → Option Class → Bool
is_given class None = false
is_given class (Some c) = same_class c class

-- a call, by the class of its result
abbrev pub call_sets : ℕ → Class → Option ℕ → Option Class → Bool
call_sets t class None given = false
call_sets t class (Some temp) given = temp == t && is_given class given

-- code
abbrev mutual
  pub code_sets : FlatProgram → ℕ → Class → Code → Bool
  code_sets p t class (Seq cs) = one_sets p t class cs
  code_sets p t class (Set temp c op a b) = is_temp_of t class temp c
  code_sets p t class (Load temp how at) = is_temp_of t class temp L
  code_sets p t class (Store width value at) = false
  code_sets p t class (Move to from bytes) = false
  code_sets p t class (If cond a b) = code_sets p t class a || code_sets p t class b
  code_sets p t class (Loop c) = code_sets p t class c
  code_sets p t class (Leave k) = false
  code_sets p t class (Call temp name args) = call_sets t class temp (result_class p name)
  code_sets p t class (Ret value) = false

  pub one_sets : FlatProgram → ℕ → Class → Codes → Bool
  one_sets p t class none = false
  one_sets p t class (more c cs) = code_sets p t class c || one_sets p t class cs

-- a parameter: those from number `at` on have these classes
abbrev pub params_set : ℕ → Class → ℕ → List Class → Bool
params_set t class at [] = false
params_set t class at (c ∷ cs) = is_temp_of t class at c || params_set t class (suc at) cs

-- a function, by its parameters or its code
abbrev pub is_set : FlatProgram → FlatFn → ℕ → Class → Bool
is_set p f t class = params_set t class 0 f.params || code_sets p t class (code_of f.body)

-- what sets a temporary at a class is not contradicted by what sets it at the other
abbrev pub has_one_class : FlatProgram → FlatFn → ℕ → Class → Bool
has_one_class p f t class = not (is_set p f t (other_class class))
