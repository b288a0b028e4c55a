-- Each operation of flat code is one that computes, and gives a value or finds that its divisor is 0, as it does in flat code; and loads
-- and copies do the same in both.
use Rattle.std.proofs.Common.{◌≡◌, ℕ, ◌+◌, Bool, true, false, not, ◌&&◌, Some, None, refl, ap, ◌∙◌, arith}
use Rattle.std.specs.Prelude.{Ok, Err, nat_eq, nat_lt, ◌==◌, if◌then◌else◌}
use Rattle.std.proofs.lemmas.Bool.Decides.{nat_tests}
use Rattle.hx_base.specs.declared.Class.{Class}
use Rattle.hx_base.specs.declared.Class.TheVariants.{L}
use Rattle.hx_base.specs.Operations.{is_zero, quotient, remainder, unsigned_quotient, unsigned_remainder}
use Rattle.hx_runtime.specs.Ranges.{overlap}
use Rattle.flat_code.specs.declared.op.LoadKind.{LoadKind}
use Rattle.flat_code.specs.declared.op.LoadKind.TheVariants as how
use Rattle.flat_code.specs.declared.op.Op.{Op}
use Rattle.flat_code.specs.declared.op.Op.TheVariants as flat
use Rattle.flat_code.specs.Evaluation.{extension, load_bytes}
use Rattle.flat_code.specs.Operations.{gives}
use Rattle.il_code.specs.declared.types.MachineFault.TheVariants.{ZeroDivisor}
use Rattle.il_code.specs.Operations.{Outcome, cut, op_value}
use Rattle.il_code.specs.Step.{Computes, Loads, kind_of}
use Rattle.il_emit.specs.Ops.{il_op, load_op, given, il_outcome, OperationsAgree}

-- what an operation of flat code may give
pub data Fine : Outcome → Type 0 where
  has_value : (v : ℕ) → Fine (Some (Ok v))
  has_no_divisor : Fine (Some (Err ZeroDivisor))

tested : (zero : Bool) (v : ℕ) → Fine (if zero then Some (Err ZeroDivisor) else Some (Ok v))
tested true v = has_no_divisor
tested false v = has_value v

pub op_fine : (o : Op) (class : Class) (a b : ℕ) → Fine (il_outcome class o a b)
op_fine flat.Neg class a b = has_value _
op_fine flat.Copy class a b = has_value _
op_fine flat.Extsb class a b = has_value _
op_fine flat.Extub class a b = has_value _
op_fine flat.Extsh class a b = has_value _
op_fine flat.Extuh class a b = has_value _
op_fine flat.Extsw class a b = has_value _
op_fine flat.Extuw class a b = has_value _
op_fine flat.Add class a b = has_value _
op_fine flat.Sub class a b = has_value _
op_fine flat.Mul class a b = has_value _
op_fine flat.Div class a b = tested (cut class b == 0) _
op_fine flat.Rem class a b = tested (cut class b == 0) _
op_fine flat.Udiv class a b = tested (cut class b == 0) _
op_fine flat.Urem class a b = tested (cut class b == 0) _
op_fine flat.And class a b = has_value _
op_fine flat.Or class a b = has_value _
op_fine flat.Xor class a b = has_value _
op_fine flat.Shl class a b = has_value _
op_fine flat.Shr class a b = has_value _
op_fine flat.Sar class a b = has_value _
op_fine flat.Ceqw class a b = has_value _
op_fine flat.Ceql class a b = has_value _
op_fine flat.Cnew class a b = has_value _
op_fine flat.Cnel class a b = has_value _
op_fine flat.Cslew class a b = has_value _
op_fine flat.Cslel class a b = has_value _
op_fine flat.Csltw class a b = has_value _
op_fine flat.Csltl class a b = has_value _
op_fine flat.Csgew class a b = has_value _
op_fine flat.Csgel class a b = has_value _
op_fine flat.Csgtw class a b = has_value _
op_fine flat.Csgtl class a b = has_value _
op_fine flat.Culew class a b = has_value _
op_fine flat.Culel class a b = has_value _
op_fine flat.Cultw class a b = has_value _
op_fine flat.Cultl class a b = has_value _
op_fine flat.Cugew class a b = has_value _
op_fine flat.Cugel class a b = has_value _
op_fine flat.Cugtw class a b = has_value _
op_fine flat.Cugtl class a b = has_value _

-- ---- the same in both

divided_alike : (zero : Bool) (v : ℕ) → (if zero then None else Some v) ≡ given (if zero then Some (Err ZeroDivisor) else Some (Ok v))
divided_alike true v = refl
divided_alike false v = refl

pub operations_agree : OperationsAgree
operations_agree class flat.Div a b = divided_alike (is_zero class b) (quotient class a b)
operations_agree class flat.Rem a b = divided_alike (is_zero class b) (remainder class a b)
operations_agree class flat.Udiv a b = divided_alike (is_zero class b) (unsigned_quotient class a b)
operations_agree class flat.Urem a b = divided_alike (is_zero class b) (unsigned_remainder class a b)
operations_agree class _ a b = refl

-- ---- kinds

pub op_computes : (o : Op) → kind_of (il_op o) ≡ Computes
op_computes flat.Neg = refl
op_computes flat.Copy = refl
op_computes flat.Extsb = refl
op_computes flat.Extub = refl
op_computes flat.Extsh = refl
op_computes flat.Extuh = refl
op_computes flat.Extsw = refl
op_computes flat.Extuw = refl
op_computes flat.Add = refl
op_computes flat.Sub = refl
op_computes flat.Mul = refl
op_computes flat.Div = refl
op_computes flat.Rem = refl
op_computes flat.Udiv = refl
op_computes flat.Urem = refl
op_computes flat.And = refl
op_computes flat.Or = refl
op_computes flat.Xor = refl
op_computes flat.Shl = refl
op_computes flat.Shr = refl
op_computes flat.Sar = refl
op_computes flat.Ceqw = refl
op_computes flat.Ceql = refl
op_computes flat.Cnew = refl
op_computes flat.Cnel = refl
op_computes flat.Cslew = refl
op_computes flat.Cslel = refl
op_computes flat.Csltw = refl
op_computes flat.Csltl = refl
op_computes flat.Csgew = refl
op_computes flat.Csgel = refl
op_computes flat.Csgtw = refl
op_computes flat.Csgtl = refl
op_computes flat.Culew = refl
op_computes flat.Culel = refl
op_computes flat.Cultw = refl
op_computes flat.Cultl = refl
op_computes flat.Cugew = refl
op_computes flat.Cugel = refl
op_computes flat.Cugtw = refl
op_computes flat.Cugtl = refl

-- ---- loads

-- what loads a number takes as many bytes, and extends them alike
pub load_kind : (h : LoadKind) → kind_of (load_op h) ≡ Loads (load_bytes h) (il_op (extension h))
load_kind how.Sb = refl
load_kind how.Ub = refl
load_kind how.Sh = refl
load_kind how.Uh = refl
load_kind how.Sw = refl
load_kind how.Uw = refl
load_kind how.L = refl

pub extension_fine : (h : LoadKind) (v : ℕ) → Fine (op_value L (il_op (extension h)) v None)
extension_fine how.Sb v = has_value _
extension_fine how.Ub v = has_value _
extension_fine how.Sh v = has_value _
extension_fine how.Uh v = has_value _
extension_fine how.Sw v = has_value _
extension_fine how.Uw v = has_value _
extension_fine how.L v = has_value _

pub extension_agrees : (h : LoadKind) (v : ℕ) → gives L (extension h) v 0 ≡ given (op_value L (il_op (extension h)) v None)
extension_agrees how.Sb v = refl
extension_agrees how.Ub v = refl
extension_agrees how.Sh v = refl
extension_agrees how.Uh v = refl
extension_agrees how.Sw v = refl
extension_agrees how.Uw v = refl
extension_agrees how.L v = refl

-- ---- copies

swapped : (x y z : Bool) → ((x && y) && z) ≡ ((x && z) && y)
swapped true true true = refl
swapped true true false = refl
swapped true false true = refl
swapped true false false = refl
swapped false y z = refl

same_either_way : (a b : ℕ) → nat_eq a b ≡ nat_eq b a
same_either_way a b = pick (nat_eq a b) (nat_eq b a) refl refl
  where
    pick : (x y : Bool) → nat_eq a b ≡ x → nat_eq b a ≡ y → x ≡ y
    pick true true e h = refl
    pick false false e h = refl
    pick true false e h = absurd (grind (arith, nat_tests))
    pick false true e h = absurd (grind (arith, nat_tests))

-- it is the same whether one range overlaps the other or the other the one
pub overlap_same : (a b n : ℕ) → overlap a b n ≡ overlap b a n
overlap_same a b n =
    ap (λ (x : Bool). (not x && nat_lt a (b + n)) && nat_lt b (a + n)) (same_either_way a b)
    ∙ swapped (not (nat_eq b a)) (nat_lt a (b + n)) (nat_lt b (a + n))
