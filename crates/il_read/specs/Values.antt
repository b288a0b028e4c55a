-- Classes, names behind their sigils, and operands. No public clause cites it.
use Rattle.std.specs.Prelude.{ℕ, List, Option, Some, codes}
use Rattle.hx_base.specs.declared.Class.{Class}
use Rattle.hx_base.specs.declared.Class.TheVariants.{W, L}
use Rattle.il_code.specs.declared.types.IlParam.{IlParam}
use Rattle.il_code.specs.declared.types.IlArg.{IlArg}
use Rattle.il_code.specs.declared.types.IlValue.{IlValue}
use Rattle.il_code.specs.declared.types.IlValue.TheVariants.{Number, Temp, Symbol}
use Rattle.il_code.specs.declared.types.PhiArg.{PhiArg}
use Rattle.il_read.specs.Front.{◌>>=◌, branch, behind, name_at, number_at}

unfoldable pub class_at : List ℕ → Option (Class × List ℕ)
class_at s = branch (behind (codes "w") s) (λ rest. Some (W, rest)) (behind (codes "l") s >>= λ rest. Some (L, rest))

unfoldable pub temp_at : List ℕ → Option (List ℕ × List ℕ)
temp_at s = behind (codes "%") s >>= name_at

unfoldable pub symbol_at : List ℕ → Option (List ℕ × List ℕ)
symbol_at s = behind (codes "$") s >>= name_at

unfoldable pub label_at : List ℕ → Option (List ℕ × List ℕ)
label_at s = behind (codes "@") s >>= name_at

-- an operand that is a temporary, behind its sigil
unfoldable pub temp_value_at : List ℕ → Option (IlValue × List ℕ)
temp_value_at s = name_at s >>= λ name. Some (Temp name.0, name.1)

-- an operand that is a symbol, behind its sigil
unfoldable pub symbol_value_at : List ℕ → Option (IlValue × List ℕ)
symbol_value_at s = name_at s >>= λ name. Some (Symbol name.0, name.1)

unfoldable pub number_value_at : List ℕ → Option (IlValue × List ℕ)
number_value_at s = number_at s >>= λ number. Some (Number number.0, number.1)

unfoldable pub value_at : List ℕ → Option (IlValue × List ℕ)
value_at s = branch (behind (codes "%") s) temp_value_at (branch (behind (codes "$") s) symbol_value_at (number_value_at s))

-- a temporary with its class, in front of what it is set to
unfoldable pub target_at : List ℕ → Option (IlParam × List ℕ)
target_at s = do
  temp ← temp_at s
  class ← behind (codes " =") temp.1 >>= class_at
  rest ← behind (codes " ") class.1
  Some (record { name = temp.0; class = class.0 }, rest)

unfoldable pub param_at : List ℕ → Option (IlParam × List ℕ)
param_at s = do
  class ← class_at s
  temp ← behind (codes " ") class.1 >>= temp_at
  Some (record { name = temp.0; class = class.0 }, temp.1)

unfoldable pub arg_at : List ℕ → Option (IlArg × List ℕ)
arg_at s = do
  class ← class_at s
  value ← behind (codes " ") class.1 >>= value_at
  Some (record { class = class.0; value = value.0 }, value.1)

unfoldable pub phi_arg_at : List ℕ → Option (PhiArg × List ℕ)
phi_arg_at s = do
  label ← label_at s
  value ← behind (codes " ") label.1 >>= value_at
  Some (record { label = label.0; value = value.0 }, value.1)
