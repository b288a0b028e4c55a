-- Small modules, for rows of their runs.
use Rattle.std.specs.Prelude.{ℕ, List, [], ◌∷◌, Option, Some, None, true, false, codes}
use Rattle.hx_base.specs.declared.Class.{Class}
use Rattle.hx_base.specs.declared.Class.TheVariants.{W, L}
use Rattle.il_code.specs.declared.op.IlOp.{IlOp}
use Rattle.il_code.specs.declared.types.IlItem.{IlItem}
use Rattle.il_code.specs.declared.types.IlItem.TheVariants.{Data, Function}
use Rattle.il_code.specs.declared.types.Module.{Module}
use Rattle.il_code.specs.declared.types.Part.{Part}
use Rattle.il_code.specs.declared.types.Block.{Block}
use Rattle.il_code.specs.declared.types.Phi.{Phi}
use Rattle.il_code.specs.declared.types.PhiArg.{PhiArg}
use Rattle.il_code.specs.declared.types.IlParam.{IlParam}
use Rattle.il_code.specs.declared.types.IlArg.{IlArg}
use Rattle.il_code.specs.declared.types.IlValue.{IlValue}
use Rattle.il_code.specs.declared.types.IlValue.TheVariants.{Temp}
use Rattle.il_code.specs.declared.types.Inst.{Inst}
use Rattle.il_code.specs.declared.types.Inst.TheVariants.{Set, Call}
use Rattle.il_code.specs.declared.types.Jump.{Jump}
use Rattle.il_code.specs.Machine.{End}
use Rattle.il_code.specs.Run.{machine, end_of}

-- ---- building blocks

abbrev pub block : List ℕ → List Phi → List Inst → Jump → Block
block label phis insts jump = record { label = label; phis = phis; insts = insts; jump = jump }

abbrev pub only_block : List Inst → Jump → List Block
only_block insts jump = block (codes "start") [] insts jump ∷ []

abbrev pub param : Class → List ℕ → IlParam
param class name = record { name = name; class = class }

abbrev pub arg : Class → IlValue → IlArg
arg class v = record { class = class; value = v }

abbrev pub phi : List ℕ → Class → List PhiArg → Phi
phi temp class args = record { temp = temp; class = class; args = args }

abbrev pub phi_arg : List ℕ → IlValue → PhiArg
phi_arg label v = record { label = label; value = v }

abbrev pub main : Option Class → List Block → IlItem
main class blocks = Function true class (codes "main") [] blocks

abbrev pub data_item : List ℕ → ℕ → List Part → IlItem
data_item name align parts = Data false name align parts

abbrev pub module_of : List IlItem → Module
module_of items = record { items = items }

abbrev pub main_of : List Inst → Jump → Module
main_of insts jump = module_of (main (Some W) (only_block insts jump) ∷ [])

-- `%t =c op v`
abbrev pub one : List ℕ → Class → IlOp → IlValue → Inst
one temp class op v = Set temp class op v None

-- `%t =c op v, w`
abbrev pub two : List ℕ → Class → IlOp → IlValue → IlValue → Inst
two temp class op v w = Set temp class op v (Some w)

abbrev pub temp : List ℕ → IlValue
temp name = Temp name

-- a call of the runtime on values of class l
abbrev pub l_args : List IlValue → List IlArg
l_args [] = []
l_args (v ∷ vs) = arg L v ∷ l_args vs

abbrev pub runs : List ℕ → List IlValue → Inst
runs target vs = Call None target (l_args vs)

-- `%t =c call $f(..)`
abbrev pub gives : List ℕ → Class → List ℕ → List IlValue → Inst
gives t class target vs = Call (Some (param class t)) target (l_args vs)

-- ---- how a run with fill byte 170 ends, and its output

abbrev pub result : Module → List (List ℕ) → List ℕ → ℕ → End × List ℕ
result m args input n = let r = machine m args input 170 n in (end_of r, r.state.world.output)

-- without arguments and input
abbrev pub ends : Module → ℕ → End
ends m n = end_of (machine m [] [] 170 n)
