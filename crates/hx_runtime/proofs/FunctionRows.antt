-- Symbols, and the functions that they name.
use Rattle.std.proofs.Common.{◌≡◌, true, false, None, Some, refl, codes}
use Rattle.hx_runtime.specs.declared.runtime.RuntimeFunction.TheVariants.{Puts, Arg}
use Rattle.hx_runtime.specs.Functions.{runtime_function, is_reserved}

puts_is : runtime_function (codes "rt.puts") ≡ Some Puts
puts_is = refl

arg_is : runtime_function (codes "rt.arg") ≡ Some Arg
arg_is = refl

-- a symbol may be the runtime's and name none of its functions
none_is : runtime_function (codes "rt.args") ≡ None
none_is = refl

none_reserved : is_reserved (codes "rt.args") ≡ true
none_reserved = refl

not_reserved : is_reserved (codes "rt") ≡ false
not_reserved = refl
