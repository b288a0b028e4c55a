-- Each operation at both classes, at the ends and for a divisor of 0: what it gives, cut to the class, in flat code and in the intermediate
-- language.
use Rattle.std.proofs.Common.{◌≡◌, ℕ, ◌-◌, ◌^◌, Option, Some, None, refl}
use Rattle.std.specs.Prelude.{option_map}
use Rattle.hx_base.specs.declared.Class.{Class}
use Rattle.hx_base.specs.declared.Class.TheVariants.{W, L}
use Rattle.hx_base.specs.Operations.{cut}
use Rattle.flat_code.specs.declared.op.Op.{Op}
use Rattle.flat_code.specs.declared.op.Op.TheVariants.{Neg, Copy, Extsb, Extub, Extsh, Extuh, Extsw, Extuw, Add, Sub, Mul, Div, Rem, Udiv, Urem, And, Or, Xor, Shl, Shr, Sar, Ceqw, Ceql, Cnew, Cnel, Cslew, Cslel, Csltw, Csltl, Csgew, Csgel, Csgtw, Csgtl, Culew, Culel, Cultw, Cultl, Cugew, Cugel, Cugtw, Cugtl}
use Rattle.flat_code.specs.Operations.{gives}
use Rattle.il_emit.specs.Ops.{given, il_outcome}

abbrev both : Class → Op → (a b : ℕ) → Option ℕ → Type 0
both class op a b v = (option_map (cut class) (gives class op a b) ≡ v) × (option_map (cut class) (given (il_outcome class op a b)) ≡ v)

-- the greatest number of 32 bits, which is also -1, and the least signed one
abbrev top_w : ℕ
top_w = 2 ^ 32 - 1

abbrev least_w : ℕ
least_w = 2 ^ 31

-- the same of 64 bits
abbrev top_l : ℕ
top_l = 2 ^ 64 - 1

abbrev least_l : ℕ
least_l = 2 ^ 63

-- ---- one operand

neg_w : both W Neg 1 0 (Some top_w) × both W Neg least_w 0 (Some least_w)
neg_w = ((refl, refl), (refl, refl))

neg_l : both L Neg 1 0 (Some top_l) × both L Neg least_l 0 (Some least_l)
neg_l = ((refl, refl), (refl, refl))

copy_w : both W Copy top_l 0 (Some top_w) × both W Copy 4294967296 0 (Some 0)
copy_w = ((refl, refl), (refl, refl))

copy_l : both L Copy top_l 0 (Some top_l) × both L Copy 0 0 (Some 0)
copy_l = ((refl, refl), (refl, refl))

extsb_w : both W Extsb 127 0 (Some 127) × both W Extsb 128 0 (Some 4294967168)
extsb_w = ((refl, refl), (refl, refl))

extsb_l : both L Extsb 255 0 (Some top_l) × both L Extsb 256 0 (Some 0)
extsb_l = ((refl, refl), (refl, refl))

extub_w : both W Extub 255 0 (Some 255) × both W Extub 256 0 (Some 0)
extub_w = ((refl, refl), (refl, refl))

extub_l : both L Extub top_l 0 (Some 255) × both L Extub 383 0 (Some 127)
extub_l = ((refl, refl), (refl, refl))

extsh_w : both W Extsh 32767 0 (Some 32767) × both W Extsh 32768 0 (Some 4294934528)
extsh_w = ((refl, refl), (refl, refl))

extsh_l : both L Extsh 65535 0 (Some top_l) × both L Extsh 65536 0 (Some 0)
extsh_l = ((refl, refl), (refl, refl))

extuh_w : both W Extuh 65535 0 (Some 65535) × both W Extuh 65536 0 (Some 0)
extuh_w = ((refl, refl), (refl, refl))

extuh_l : both L Extuh top_l 0 (Some 65535) × both L Extuh 98303 0 (Some 32767)
extuh_l = ((refl, refl), (refl, refl))

extsw_w : both W Extsw least_w 0 (Some least_w) × both W Extsw 4294967296 0 (Some 0)
extsw_w = ((refl, refl), (refl, refl))

extsw_l : both L Extsw 2147483647 0 (Some 2147483647) × both L Extsw least_w 0 (Some 18446744071562067968)
extsw_l = ((refl, refl), (refl, refl))

extuw_w : both W Extuw top_l 0 (Some top_w) × both W Extuw 4294967296 0 (Some 0)
extuw_w = ((refl, refl), (refl, refl))

extuw_l : both L Extuw top_l 0 (Some top_w) × both L Extuw 4294967296 0 (Some 0)
extuw_l = ((refl, refl), (refl, refl))

-- ---- sums, products and bits

add_w : both W Add top_w 1 (Some 0) × both W Add least_w least_w (Some 0)
add_w = ((refl, refl), (refl, refl))

add_l : both L Add top_l 1 (Some 0) × both L Add top_w 1 (Some 4294967296)
add_l = ((refl, refl), (refl, refl))

sub_w : both W Sub 0 1 (Some top_w) × both W Sub least_w 1 (Some 2147483647)
sub_w = ((refl, refl), (refl, refl))

sub_l : both L Sub 0 1 (Some top_l) × both L Sub least_l 1 (Some 9223372036854775807)
sub_l = ((refl, refl), (refl, refl))

mul_w : both W Mul top_w top_w (Some 1) × both W Mul least_w 2 (Some 0)
mul_w = ((refl, refl), (refl, refl))

mul_l : both L Mul top_l top_l (Some 1) × both L Mul 4294967296 4294967296 (Some 0)
mul_l = ((refl, refl), (refl, refl))

and_w : both W And top_l least_w (Some least_w) × both W And top_w 0 (Some 0)
and_w = ((refl, refl), (refl, refl))

and_l : both L And top_l least_l (Some least_l) × both L And top_l 0 (Some 0)
and_l = ((refl, refl), (refl, refl))

or_w : both W Or top_l least_w (Some top_w) × both W Or top_w 0 (Some top_w)
or_w = ((refl, refl), (refl, refl))

or_l : both L Or top_l least_l (Some top_l) × both L Or top_l 0 (Some top_l)
or_l = ((refl, refl), (refl, refl))

xor_w : both W Xor top_l least_w (Some 2147483647) × both W Xor top_w 0 (Some top_w)
xor_w = ((refl, refl), (refl, refl))

xor_l : both L Xor top_l least_l (Some 9223372036854775807) × both L Xor top_l 0 (Some top_l)
xor_l = ((refl, refl), (refl, refl))

-- ---- divisions: of the least number by -1, of -7 by 2, of 7 by -2, and by 0

div_w : both W Div least_w top_w (Some least_w) × both W Div 4294967289 2 (Some 4294967293) × both W Div 7 4294967294 (Some 4294967293)
div_w = ((refl, refl), (refl, refl), (refl, refl))

div_l :
    both L Div least_l top_l (Some least_l) × both L Div 18446744073709551609 2 (Some 18446744073709551613)
    × both L Div 7 18446744073709551614 (Some 18446744073709551613)
div_l = ((refl, refl), (refl, refl), (refl, refl))

rem_w : both W Rem least_w top_w (Some 0) × both W Rem 4294967289 2 (Some top_w) × both W Rem 7 4294967294 (Some 1)
rem_w = ((refl, refl), (refl, refl), (refl, refl))

rem_l : both L Rem least_l top_l (Some 0) × both L Rem 18446744073709551609 2 (Some top_l) × both L Rem 7 18446744073709551614 (Some 1)
rem_l = ((refl, refl), (refl, refl), (refl, refl))

udiv_w : both W Udiv least_w top_w (Some 0) × both W Udiv 4294967289 2 (Some 2147483644) × both W Udiv 7 4294967294 (Some 0)
udiv_w = ((refl, refl), (refl, refl), (refl, refl))

udiv_l :
    both L Udiv least_l top_l (Some 0) × both L Udiv 18446744073709551609 2 (Some 9223372036854775804)
    × both L Udiv 7 18446744073709551614 (Some 0)
udiv_l = ((refl, refl), (refl, refl), (refl, refl))

urem_w : both W Urem least_w top_w (Some least_w) × both W Urem 4294967289 2 (Some 1) × both W Urem 7 4294967294 (Some 7)
urem_w = ((refl, refl), (refl, refl), (refl, refl))

urem_l :
    both L Urem least_l top_l (Some least_l) × both L Urem 18446744073709551609 2 (Some 1)
    × both L Urem 7 18446744073709551614 (Some 7)
urem_l = ((refl, refl), (refl, refl), (refl, refl))

-- 2 ^ 32 is 0 at w, and not at l

div_zero : both W Div 7 0 None × both W Div 7 4294967296 None
div_zero = ((refl, refl), (refl, refl))

div_zero_l : both L Div 7 0 None × both L Div 7 4294967296 (Some 0)
div_zero_l = ((refl, refl), (refl, refl))

rem_zero : both W Rem 7 0 None × both W Rem 7 4294967296 None
rem_zero = ((refl, refl), (refl, refl))

rem_zero_l : both L Rem 7 0 None × both L Rem 7 4294967296 (Some 7)
rem_zero_l = ((refl, refl), (refl, refl))

udiv_zero : both W Udiv 7 0 None × both W Udiv 7 4294967296 None
udiv_zero = ((refl, refl), (refl, refl))

udiv_zero_l : both L Udiv 7 0 None × both L Udiv 7 4294967296 (Some 0)
udiv_zero_l = ((refl, refl), (refl, refl))

urem_zero : both W Urem 7 0 None × both W Urem 7 4294967296 None
urem_zero = ((refl, refl), (refl, refl))

urem_zero_l : both L Urem 7 0 None × both L Urem 7 4294967296 (Some 7)
urem_zero_l = ((refl, refl), (refl, refl))

-- ---- shifts, by amounts modulo the width

shl_w : both W Shl 2147483649 31 (Some least_w) × both W Shl 2147483649 32 (Some 2147483649) × both W Shl 2147483649 33 (Some 2)
shl_w = ((refl, refl), (refl, refl), (refl, refl))

shl_l :
    both L Shl 9223372036854775809 63 (Some least_l) × both L Shl 9223372036854775809 64 (Some 9223372036854775809)
    × both L Shl 9223372036854775809 65 (Some 2)
shl_l = ((refl, refl), (refl, refl), (refl, refl))

shr_w : both W Shr 2147483649 31 (Some 1) × both W Shr 2147483649 32 (Some 2147483649) × both W Shr 2147483649 33 (Some 1073741824)
shr_w = ((refl, refl), (refl, refl), (refl, refl))

shr_l :
    both L Shr 9223372036854775809 63 (Some 1) × both L Shr 9223372036854775809 64 (Some 9223372036854775809)
    × both L Shr 9223372036854775809 65 (Some 4611686018427387904)
shr_l = ((refl, refl), (refl, refl), (refl, refl))

sar_w : both W Sar 2147483649 31 (Some top_w) × both W Sar 2147483649 32 (Some 2147483649) × both W Sar 2147483649 33 (Some 3221225472)
sar_w = ((refl, refl), (refl, refl), (refl, refl))

sar_l :
    both L Sar 9223372036854775809 63 (Some top_l) × both L Sar 9223372036854775809 64 (Some 9223372036854775809)
    × both L Sar 9223372036854775809 65 (Some 13835058055282163712)
sar_l = ((refl, refl), (refl, refl), (refl, refl))

-- ---- comparisons: of the least number with the greatest, of equal numbers, and of numbers that differ above 32 bits alone

ceqw_w : both W Ceqw least_w 1 (Some 0) × both W Ceqw top_w top_w (Some 1)
ceqw_w = ((refl, refl), (refl, refl))

ceqw_l : both L Ceqw 1 least_w (Some 0) × both L Ceqw 4294967296 0 (Some 1)
ceqw_l = ((refl, refl), (refl, refl))

ceql_w : both W Ceql least_l 1 (Some 0) × both W Ceql top_l top_l (Some 1)
ceql_w = ((refl, refl), (refl, refl))

ceql_l : both L Ceql 1 least_l (Some 0) × both L Ceql 4294967296 0 (Some 0)
ceql_l = ((refl, refl), (refl, refl))

cnew_w : both W Cnew least_w 1 (Some 1) × both W Cnew top_w top_w (Some 0)
cnew_w = ((refl, refl), (refl, refl))

cnew_l : both L Cnew 1 least_w (Some 1) × both L Cnew 4294967296 0 (Some 0)
cnew_l = ((refl, refl), (refl, refl))

cnel_w : both W Cnel least_l 1 (Some 1) × both W Cnel top_l top_l (Some 0)
cnel_w = ((refl, refl), (refl, refl))

cnel_l : both L Cnel 1 least_l (Some 1) × both L Cnel 4294967296 0 (Some 1)
cnel_l = ((refl, refl), (refl, refl))

cslew_w : both W Cslew least_w 1 (Some 1) × both W Cslew top_w top_w (Some 1)
cslew_w = ((refl, refl), (refl, refl))

cslew_l : both L Cslew 1 least_w (Some 0) × both L Cslew 4294967296 0 (Some 1)
cslew_l = ((refl, refl), (refl, refl))

cslel_w : both W Cslel least_l 1 (Some 1) × both W Cslel top_l top_l (Some 1)
cslel_w = ((refl, refl), (refl, refl))

cslel_l : both L Cslel 1 least_l (Some 0) × both L Cslel 4294967296 0 (Some 0)
cslel_l = ((refl, refl), (refl, refl))

csltw_w : both W Csltw least_w 1 (Some 1) × both W Csltw top_w top_w (Some 0)
csltw_w = ((refl, refl), (refl, refl))

csltw_l : both L Csltw 1 least_w (Some 0) × both L Csltw 4294967296 0 (Some 0)
csltw_l = ((refl, refl), (refl, refl))

csltl_w : both W Csltl least_l 1 (Some 1) × both W Csltl top_l top_l (Some 0)
csltl_w = ((refl, refl), (refl, refl))

csltl_l : both L Csltl 1 least_l (Some 0) × both L Csltl 4294967296 0 (Some 0)
csltl_l = ((refl, refl), (refl, refl))

csgew_w : both W Csgew least_w 1 (Some 0) × both W Csgew top_w top_w (Some 1)
csgew_w = ((refl, refl), (refl, refl))

csgew_l : both L Csgew 1 least_w (Some 1) × both L Csgew 4294967296 0 (Some 1)
csgew_l = ((refl, refl), (refl, refl))

csgel_w : both W Csgel least_l 1 (Some 0) × both W Csgel top_l top_l (Some 1)
csgel_w = ((refl, refl), (refl, refl))

csgel_l : both L Csgel 1 least_l (Some 1) × both L Csgel 4294967296 0 (Some 1)
csgel_l = ((refl, refl), (refl, refl))

csgtw_w : both W Csgtw least_w 1 (Some 0) × both W Csgtw top_w top_w (Some 0)
csgtw_w = ((refl, refl), (refl, refl))

csgtw_l : both L Csgtw 1 least_w (Some 1) × both L Csgtw 4294967296 0 (Some 0)
csgtw_l = ((refl, refl), (refl, refl))

csgtl_w : both W Csgtl least_l 1 (Some 0) × both W Csgtl top_l top_l (Some 0)
csgtl_w = ((refl, refl), (refl, refl))

csgtl_l : both L Csgtl 1 least_l (Some 1) × both L Csgtl 4294967296 0 (Some 1)
csgtl_l = ((refl, refl), (refl, refl))

culew_w : both W Culew least_w 1 (Some 0) × both W Culew top_w top_w (Some 1)
culew_w = ((refl, refl), (refl, refl))

culew_l : both L Culew 1 least_w (Some 1) × both L Culew 4294967296 0 (Some 1)
culew_l = ((refl, refl), (refl, refl))

culel_w : both W Culel least_l 1 (Some 0) × both W Culel top_l top_l (Some 1)
culel_w = ((refl, refl), (refl, refl))

culel_l : both L Culel 1 least_l (Some 1) × both L Culel 4294967296 0 (Some 0)
culel_l = ((refl, refl), (refl, refl))

cultw_w : both W Cultw least_w 1 (Some 0) × both W Cultw top_w top_w (Some 0)
cultw_w = ((refl, refl), (refl, refl))

cultw_l : both L Cultw 1 least_w (Some 1) × both L Cultw 4294967296 0 (Some 0)
cultw_l = ((refl, refl), (refl, refl))

cultl_w : both W Cultl least_l 1 (Some 0) × both W Cultl top_l top_l (Some 0)
cultl_w = ((refl, refl), (refl, refl))

cultl_l : both L Cultl 1 least_l (Some 1) × both L Cultl 4294967296 0 (Some 0)
cultl_l = ((refl, refl), (refl, refl))

cugew_w : both W Cugew least_w 1 (Some 1) × both W Cugew top_w top_w (Some 1)
cugew_w = ((refl, refl), (refl, refl))

cugew_l : both L Cugew 1 least_w (Some 0) × both L Cugew 4294967296 0 (Some 1)
cugew_l = ((refl, refl), (refl, refl))

cugel_w : both W Cugel least_l 1 (Some 1) × both W Cugel top_l top_l (Some 1)
cugel_w = ((refl, refl), (refl, refl))

cugel_l : both L Cugel 1 least_l (Some 0) × both L Cugel 4294967296 0 (Some 1)
cugel_l = ((refl, refl), (refl, refl))

cugtw_w : both W Cugtw least_w 1 (Some 1) × both W Cugtw top_w top_w (Some 0)
cugtw_w = ((refl, refl), (refl, refl))

cugtw_l : both L Cugtw 1 least_w (Some 0) × both L Cugtw 4294967296 0 (Some 0)
cugtw_l = ((refl, refl), (refl, refl))

cugtl_w : both W Cugtl least_l 1 (Some 1) × both W Cugtl top_l top_l (Some 0)
cugtl_w = ((refl, refl), (refl, refl))

cugtl_l : both L Cugtl 1 least_l (Some 0) × both L Cugtl 4294967296 0 (Some 1)
cugtl_l = ((refl, refl), (refl, refl))

-- Comparisons of 64 bits that are given at w, of numbers that differ above 32 bits alone: the operands are compared whole, and what comes
-- of it is cut, so that none of these is what it would be if both were cut to w before.
above_ceql : both W Ceql 4294967296 0 (Some 0)
above_ceql = (refl, refl)

above_cnel : both W Cnel 4294967296 0 (Some 1)
above_cnel = (refl, refl)

above_cslel : both W Cslel 4294967296 0 (Some 0)
above_cslel = (refl, refl)

above_csltl : both W Csltl 0 4294967296 (Some 1)
above_csltl = (refl, refl)

above_csgel : both W Csgel 0 4294967296 (Some 0)
above_csgel = (refl, refl)

above_csgtl : both W Csgtl 4294967296 0 (Some 1)
above_csgtl = (refl, refl)

above_culel : both W Culel 4294967296 0 (Some 0)
above_culel = (refl, refl)

above_cultl : both W Cultl 0 4294967296 (Some 1)
above_cultl = (refl, refl)

above_cugel : both W Cugel 0 4294967296 (Some 0)
above_cugel = (refl, refl)

above_cugtl : both W Cugtl 4294967296 0 (Some 1)
above_cugtl = (refl, refl)
