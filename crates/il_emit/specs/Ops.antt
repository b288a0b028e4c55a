-- The operations of flat code in the intermediate language, which have the same names there and give the same.
use Rattle.std.specs.Prelude.{◌≡◌, ℕ, Bool, true, false, Option, None, Some, Ok, Err}
use Rattle.hx_base.specs.declared.Class.{Class}
use Rattle.flat_code.specs.declared.op.Op.{Op}
use Rattle.flat_code.specs.declared.op.Op.TheVariants as flat
use Rattle.flat_code.specs.declared.op.LoadKind.{LoadKind}
use Rattle.flat_code.specs.declared.op.LoadKind.TheVariants as how
use Rattle.flat_code.specs.Kinds.{op_kind, takes_two}
use Rattle.flat_code.specs.Operations.{gives}
use Rattle.il_code.specs.declared.op.IlOp.{IlOp}
use Rattle.il_code.specs.declared.op.IlOp.TheVariants as il
use Rattle.il_code.specs.Operations.{Outcome, op_value}

abbrev pub il_op : Op → IlOp
il_op flat.Neg = il.Neg
il_op flat.Copy = il.Copy
il_op flat.Extsb = il.Extsb
il_op flat.Extub = il.Extub
il_op flat.Extsh = il.Extsh
il_op flat.Extuh = il.Extuh
il_op flat.Extsw = il.Extsw
il_op flat.Extuw = il.Extuw
il_op flat.Add = il.Add
il_op flat.Sub = il.Sub
il_op flat.Mul = il.Mul
il_op flat.Div = il.Div
il_op flat.Rem = il.Rem
il_op flat.Udiv = il.Udiv
il_op flat.Urem = il.Urem
il_op flat.And = il.And
il_op flat.Or = il.Or
il_op flat.Xor = il.Xor
il_op flat.Shl = il.Shl
il_op flat.Shr = il.Shr
il_op flat.Sar = il.Sar
il_op flat.Ceqw = il.Ceqw
il_op flat.Ceql = il.Ceql
il_op flat.Cnew = il.Cnew
il_op flat.Cnel = il.Cnel
il_op flat.Cslew = il.Cslew
il_op flat.Cslel = il.Cslel
il_op flat.Csltw = il.Csltw
il_op flat.Csltl = il.Csltl
il_op flat.Csgew = il.Csgew
il_op flat.Csgel = il.Csgel
il_op flat.Csgtw = il.Csgtw
il_op flat.Csgtl = il.Csgtl
il_op flat.Culew = il.Culew
il_op flat.Culel = il.Culel
il_op flat.Cultw = il.Cultw
il_op flat.Cultl = il.Cultl
il_op flat.Cugew = il.Cugew
il_op flat.Cugel = il.Cugel
il_op flat.Cugtw = il.Cugtw
il_op flat.Cugtl = il.Cugtl

-- what loads a number by its kind, and extends it
abbrev pub load_op : LoadKind → IlOp
load_op how.Sb = il.Loadsb
load_op how.Ub = il.Loadub
load_op how.Sh = il.Loadsh
load_op how.Uh = il.Loaduh
load_op how.Sw = il.Loadsw
load_op how.Uw = il.Loaduw
load_op how.L = il.Loadl

-- ---- what they give

-- the second operand of an operation that has one
abbrev pub second_number : Bool → ℕ → Option ℕ
second_number true b = Some b
second_number false b = None

-- what an operation of the intermediate language gives, if it gives anything
abbrev pub given : Outcome → Option ℕ
given None = None
given (Some (Ok v)) = Some v
given (Some (Err f)) = None

-- an operation of the intermediate language, on as many operands as the one of flat code takes
abbrev pub il_outcome : Class → Op → ℕ → ℕ → Outcome
il_outcome class op a b = op_value class (il_op op) a (second_number (takes_two (op_kind op)) b)

-- each operation gives the same in both, at both classes and on all operands
abbrev pub OperationsAgree : Type 0
OperationsAgree = (class : Class) (op : Op) (a b : ℕ) → gives class op a b ≡ given (il_outcome class op a b)
