-- What the operations of flat code give, by the QBE IL reference: those of numbers of a class, by the names of the language.
use Rattle.std.specs.Prelude.{ℕ, bit_and, bit_or, bit_xor, Option, Some}
use Rattle.hx_base.specs.declared.Class.{Class}
use Rattle.hx_base.specs.declared.Class.TheVariants.{W, L}
use Rattle.hx_base.specs.Operations.{negated, signed_byte, unsigned_byte, signed_half, unsigned_half, signed_word, unsigned_word, sum, difference, product, quotient, remainder, unsigned_quotient, unsigned_remainder, divided_by, shifted_up, shifted_down, sign_shifted_down, is_equal, is_unequal, is_at_most, is_less, is_unsigned_at_most, is_unsigned_less}
use Rattle.flat_code.specs.declared.op.Op.{Op}
use Rattle.flat_code.specs.declared.op.Op.TheVariants.{Neg, Copy, Extsb, Extub, Extsh, Extuh, Extsw, Extuw, Add, Sub, Mul, Div, Rem, Udiv, Urem, And, Or, Xor, Shl, Shr, Sar, Ceqw, Ceql, Cnew, Cnel, Cslew, Cslel, Csltw, Csltl, Csgew, Csgel, Csgtw, Csgtl, Culew, Culel, Cultw, Cultl, Cugew, Cugel, Cugtw, Cugtl}

-- What an operation gives at a class on two operands, before it is cut to the class, or None where its divisor is 0. One that takes one
-- operand does not read the second.
abbrev pub gives : Class → Op → ℕ → ℕ → Option ℕ
gives class Neg a b = Some (negated a)
gives class Copy a b = Some a
gives class Extsb a b = Some (signed_byte a)
gives class Extub a b = Some (unsigned_byte a)
gives class Extsh a b = Some (signed_half a)
gives class Extuh a b = Some (unsigned_half a)
gives class Extsw a b = Some (signed_word a)
gives class Extuw a b = Some (unsigned_word a)
gives class Add a b = Some (sum a b)
gives class Sub a b = Some (difference a b)
gives class Mul a b = Some (product a b)
gives class Div a b = divided_by class b (quotient class a b)
gives class Rem a b = divided_by class b (remainder class a b)
gives class Udiv a b = divided_by class b (unsigned_quotient class a b)
gives class Urem a b = divided_by class b (unsigned_remainder class a b)
gives class And a b = Some (bit_and a b)
gives class Or a b = Some (bit_or a b)
gives class Xor a b = Some (bit_xor a b)
gives class Shl a b = Some (shifted_up class a b)
gives class Shr a b = Some (shifted_down class a b)
gives class Sar a b = Some (sign_shifted_down class a b)
gives class Ceqw a b = Some (is_equal W a b)
gives class Ceql a b = Some (is_equal L a b)
gives class Cnew a b = Some (is_unequal W a b)
gives class Cnel a b = Some (is_unequal L a b)
gives class Cslew a b = Some (is_at_most W a b)
gives class Cslel a b = Some (is_at_most L a b)
gives class Csltw a b = Some (is_less W a b)
gives class Csltl a b = Some (is_less L a b)
gives class Csgew a b = Some (is_at_most W b a)
gives class Csgel a b = Some (is_at_most L b a)
gives class Csgtw a b = Some (is_less W b a)
gives class Csgtl a b = Some (is_less L b a)
gives class Culew a b = Some (is_unsigned_at_most W a b)
gives class Culel a b = Some (is_unsigned_at_most L a b)
gives class Cultw a b = Some (is_unsigned_less W a b)
gives class Cultl a b = Some (is_unsigned_less L a b)
gives class Cugew a b = Some (is_unsigned_at_most W b a)
gives class Cugel a b = Some (is_unsigned_at_most L b a)
gives class Cugtw a b = Some (is_unsigned_less W b a)
gives class Cugtl a b = Some (is_unsigned_less L b a)
