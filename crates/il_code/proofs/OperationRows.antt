-- What the operations give on chosen numbers, and on any numbers at class l.
use Rattle.std.proofs.Common.{◌≡◌, ℕ, ◌+◌, ◌-◌, ◌*◌, ◌%◌, ◌^◌, Some, None, refl}
use Rattle.std.specs.Prelude.{Option, Result, Ok, Err, option_map}
use Rattle.hx_base.specs.declared.Class.{Class}
use Rattle.hx_base.specs.declared.Class.TheVariants.{W, L}
use Rattle.il_code.specs.declared.op.IlOp.{IlOp}
use Rattle.il_code.specs.declared.op.IlOp.TheVariants.{Neg, Copy, Alloc4, Extsb, Extub, Extsh, Extuh, Extsw, Extuw, Loadl, Add, Sub, Mul, Div, Rem, Udiv, Urem, And, Or, Xor, Shl, Shr, Sar, Ceqw, Ceql, Cnew, Cnel, Cslew, Cslel, Csltw, Csltl, Csgew, Csgel, Csgtw, Csgtl, Culew, Culel, Cultw, Cultl, Cugew, Cugel, Cugtw, Cugtl}
use Rattle.il_code.specs.declared.types.MachineFault.TheVariants.{ZeroDivisor}
use Rattle.il_code.specs.declared.types.MachineFault.{MachineFault}
use Rattle.il_code.specs.Operations.{cut, op_value}

-- what an operation gives, cut to its class
abbrev cut_value : Class → Result ℕ MachineFault → Result ℕ MachineFault
cut_value class (Ok v) = Ok (cut class v)
cut_value class (Err f) = Err f

abbrev value_of : Class → IlOp → ℕ → Option ℕ → Option (Result ℕ MachineFault)
value_of class op a b = option_map (cut_value class) (op_value class op a b)

-- an operation on one number gives a number
abbrev one : Class → IlOp → ℕ → ℕ → Type 0
one class op a v = value_of class op a None ≡ Some (Ok v)

-- an operation on two numbers gives a number
abbrev two : Class → IlOp → ℕ → ℕ → ℕ → Type 0
two class op a b v = value_of class op a (Some b) ≡ Some (Ok v)

-- an operation on two numbers faults
abbrev faults : Class → IlOp → ℕ → ℕ → Type 0
faults class op a b = value_of class op a (Some b) ≡ Some (Err ZeroDivisor)

-- two comparisons of two numbers, at w and at l
abbrev both : IlOp → IlOp → ℕ → ℕ → ℕ → ℕ → Type 0
both at_w at_l a b v w = two W at_w a b v × two L at_l a b w

-- ---- any numbers at class l

copy_any : (a : ℕ) → one L Copy a (a % 2 ^ 64)
copy_any a = refl

add_any : (a b : ℕ) → two L Add a b ((a + b) % 2 ^ 64)
add_any a b = refl

sub_any : (a b : ℕ) → two L Sub a b ((a + 2 ^ 64 - b) % 2 ^ 64)
sub_any a b = refl

mul_any : (a b : ℕ) → two L Mul a b ((a * b) % 2 ^ 64)
mul_any a b = refl

-- ---- one operand

-- 2 ^ 32 + 5 at class w
copy_cut : one W Copy 4294967301 5
copy_cut = refl

neg_w : one W Neg 1 4294967295
neg_w = refl

neg_l : one L Neg 1 18446744073709551615
neg_l = refl

-- the least number is its own negative
neg_least : one W Neg 2147483648 2147483648
neg_least = refl

extsb_w : one W Extsb 128 4294967168
extsb_w = refl

extsb_l : one L Extsb 128 18446744073709551488
extsb_l = refl

extsb_cut : one L Extsb 383 127
extsb_cut = refl

extub_l : one L Extub 511 255
extub_l = refl

extsh_w : one W Extsh 32768 4294934528
extsh_w = refl

extsh_l : one L Extsh 65535 18446744073709551615
extsh_l = refl

extuh_l : one L Extuh 131071 65535
extuh_l = refl

extsw_l : one L Extsw 2147483648 18446744071562067968
extsw_l = refl

extuw_l : one L Extuw 18446744073709551615 4294967295
extuw_l = refl

-- ---- sums, products and bits

add_w : two W Add 4294967295 1 0
add_w = refl

add_l : two L Add 4294967295 1 4294967296
add_l = refl

sub_w : two W Sub 0 1 4294967295
sub_w = refl

sub_l : two L Sub 0 1 18446744073709551615
sub_l = refl

mul_w : two W Mul 65536 65536 0
mul_w = refl

-- -2 by 3
mul_signed : two L Mul 18446744073709551614 3 18446744073709551610
mul_signed = refl

and_bits : two L And 12 10 8
and_bits = refl

or_bits : two L Or 12 10 14
or_bits = refl

xor_bits : two L Xor 12 10 6
xor_bits = refl

xor_cut : two W Xor 18446744073709551615 0 4294967295
xor_cut = refl

-- ---- quotients and remainders

-- -7 by 2
div_minus : two W Div 4294967289 2 4294967293
div_minus = refl

rem_minus : two W Rem 4294967289 2 4294967295
rem_minus = refl

-- 7 by -2
div_by_minus : two L Div 7 18446744073709551614 18446744073709551613
div_by_minus = refl

rem_by_minus : two L Rem 7 18446744073709551614 1
rem_by_minus = refl

-- the least number by -1
div_least_w : two W Div 2147483648 4294967295 2147483648
div_least_w = refl

div_least_l : two L Div 9223372036854775808 18446744073709551615 9223372036854775808
div_least_l = refl

rem_least_w : two W Rem 2147483648 4294967295 0
rem_least_w = refl

rem_least_l : two L Rem 9223372036854775808 18446744073709551615 0
rem_least_l = refl

udiv_w : two W Udiv 4294967289 2 2147483644
udiv_w = refl

udiv_cut : two W Udiv 4294967303 2 3
udiv_cut = refl

urem_w : two W Urem 4294967289 5 4
urem_w = refl

urem_l : two L Urem 18446744073709551615 10 5
urem_l = refl

div_zero : faults L Div 1 0
div_zero = refl

rem_zero : faults L Rem 1 0
rem_zero = refl

udiv_zero : faults L Udiv 1 0
udiv_zero = refl

urem_zero : faults L Urem 1 0
urem_zero = refl

-- 2 ^ 32 is 0 at class w
div_zero_cut : faults W Div 1 4294967296
div_zero_cut = refl

div_not_zero : two L Div 1 4294967296 0
div_not_zero = refl

-- ---- shifts

shl_l : two L Shl 3 63 9223372036854775808
shl_l = refl

-- the amount counts modulo 64, and modulo 32
shl_whole : two L Shl 3 64 3
shl_whole = refl

shl_whole_w : two W Shl 3 32 3
shl_whole_w = refl

shl_w : two W Shl 3 31 2147483648
shl_w = refl

shr_w : two W Shr 18446744073709551615 31 1
shr_w = refl

shr_whole : two L Shr 18446744073709551615 65 9223372036854775807
shr_whole = refl

sar_w : two W Sar 2147483648 30 4294967294
sar_w = refl

-- -7 by one place is -4
sar_l : two L Sar 18446744073709551609 1 18446744073709551612
sar_l = refl

sar_whole : two W Sar 2147483648 33 3221225472
sar_whole = refl

sar_not_minus : two L Sar 2147483648 4 134217728
sar_not_minus = refl

-- ---- comparisons

-- 2 ^ 32 and 0
ceq : both Ceqw Ceql 4294967296 0 1 0
ceq = (refl, refl)

cne : both Cnew Cnel 4294967296 0 0 1
cne = (refl, refl)

-- 7 and 7
csle_same : both Cslew Cslel 7 7 1 1
csle_same = (refl, refl)

csge_same : both Csgew Csgel 7 7 1 1
csge_same = (refl, refl)

cslt_same : both Csltw Csltl 7 7 0 0
cslt_same = (refl, refl)

csgt_same : both Csgtw Csgtl 7 7 0 0
csgt_same = (refl, refl)

cule_same : both Culew Culel 7 7 1 1
cule_same = (refl, refl)

cuge_same : both Cugew Cugel 7 7 1 1
cuge_same = (refl, refl)

cult_same : both Cultw Cultl 7 7 0 0
cult_same = (refl, refl)

cugt_same : both Cugtw Cugtl 7 7 0 0
cugt_same = (refl, refl)

-- 2 ^ 32 - 1 and 0: it is -1 at w, signed
csle : both Cslew Cslel 4294967295 0 1 0
csle = (refl, refl)

csge : both Csgew Csgel 4294967295 0 0 1
csge = (refl, refl)

cslt : both Csltw Csltl 4294967295 0 1 0
cslt = (refl, refl)

csgt : both Csgtw Csgtl 4294967295 0 0 1
csgt = (refl, refl)

cule : both Culew Culel 4294967295 0 0 0
cule = (refl, refl)

cuge : both Cugew Cugel 4294967295 0 1 1
cuge = (refl, refl)

cult : both Cultw Cultl 4294967295 0 0 0
cult = (refl, refl)

cugt : both Cugtw Cugtl 4294967295 0 1 1
cugt = (refl, refl)

-- -1 at l
csle_l : two L Cslel 18446744073709551615 0 1
csle_l = refl

csge_l : two L Csgel 18446744073709551615 0 0
csge_l = refl

cslt_l : two L Csltl 18446744073709551615 0 1
cslt_l = refl

csgt_l : two L Csgtl 18446744073709551615 0 0
csgt_l = refl

-- ---- what is none of these

alloc_none : value_of L Alloc4 8 None ≡ None
alloc_none = refl

load_none : value_of L Loadl 8 None ≡ None
load_none = refl

neg_two : value_of L Neg 8 (Some 8) ≡ None
neg_two = refl

add_one : value_of L Add 8 None ≡ None
add_one = refl
