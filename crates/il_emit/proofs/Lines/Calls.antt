-- What well formed calls pass and take: operands at the classes of the parameters of what is called, and its result where it has one.
use Rattle.std.proofs.Common.{◌≡◌, ℕ, true, List, Option, None, Some}
use Rattle.std.proofs.lemmas.Bool.{and_parts}
use Rattle.hx_runtime.specs.Functions.{runtime_params, runtime_result, runtime_function}
use Rattle.hx_runtime.specs.declared.runtime.RuntimeFunction.{RuntimeFunction}
use Rattle.flat_code.specs.declared.program.FlatFn.{FlatFn}
use Rattle.flat_code.specs.declared.program.FlatProgram.{FlatProgram}
use Rattle.flat_code.specs.declared.value.Value.{Value}
use Rattle.flat_code.specs.Temps.{call_class, called_class}
use Rattle.flat_code.specs.WellFormed.{are_args, takes_result, is_runtime_call, is_call}
use Rattle.il_emit.specs.Lines.{call_params, called_params}

module _ (p : FlatProgram) (f : FlatFn) (temp : Option ℕ) (args : List Value) where
  pub runtime_args : (g : Option RuntimeFunction) → is_runtime_call p f temp args g ≡ true → are_args p f (call_params g) args ≡ true
  runtime_args None r = cc
  runtime_args (Some g) r = (and_parts (are_args p f (runtime_params g) args) (takes_result p f temp (runtime_result g)) r).0

  pub runtime_takes : (g : Option RuntimeFunction) → is_runtime_call p f temp args g ≡ true → takes_result p f temp (call_class g) ≡ true
  runtime_takes None r = cc
  runtime_takes (Some g) r = (and_parts (are_args p f (runtime_params g) args) (takes_result p f temp (runtime_result g)) r).1

  pub called_args : (name : List ℕ) (g : Option FlatFn) → is_call p f temp name args g ≡ true →
      are_args p f (called_params g name) args ≡ true
  called_args name None r = runtime_args (runtime_function name) r
  called_args name (Some g) r = (and_parts (are_args p f g.params args) (takes_result p f temp g.result) r).0

  pub called_takes : (name : List ℕ) (g : Option FlatFn) → is_call p f temp name args g ≡ true →
      takes_result p f temp (called_class g name) ≡ true
  called_takes name None r = runtime_takes (runtime_function name) r
  called_takes name (Some g) r = (and_parts (are_args p f g.params args) (takes_result p f temp g.result) r).1
