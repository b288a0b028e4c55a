-- How many operands an operation takes, at which classes, and at which classes it gives a number.
use Rattle.std.specs.Prelude.{Bool, true, false}
use Rattle.hx_base.specs.declared.Class.{Class}
use Rattle.hx_base.specs.declared.Class.TheVariants.{W, L}
use Rattle.flat_code.specs.declared.op.Op.{Op}
use Rattle.flat_code.specs.declared.op.Op.TheVariants as op
use Rattle.flat_code.specs.declared.kinds.OpKind.{OpKind}
use Rattle.flat_code.specs.declared.kinds.OpKind.TheVariants.{Plain, Extend, ExtendWord, Arithmetic, Shift, CompareWords, CompareLongs}

-- the kind of an operation
abbrev pub op_kind : Op → OpKind
op_kind op.Neg = Plain
op_kind op.Copy = Plain
op_kind op.Extsb = Extend
op_kind op.Extub = Extend
op_kind op.Extsh = Extend
op_kind op.Extuh = Extend
op_kind op.Extsw = ExtendWord
op_kind op.Extuw = ExtendWord
op_kind op.Add = Arithmetic
op_kind op.Sub = Arithmetic
op_kind op.Mul = Arithmetic
op_kind op.Div = Arithmetic
op_kind op.Rem = Arithmetic
op_kind op.Udiv = Arithmetic
op_kind op.Urem = Arithmetic
op_kind op.And = Arithmetic
op_kind op.Or = Arithmetic
op_kind op.Xor = Arithmetic
op_kind op.Shl = Shift
op_kind op.Shr = Shift
op_kind op.Sar = Shift
op_kind op.Ceqw = CompareWords
op_kind op.Cnew = CompareWords
op_kind op.Cslew = CompareWords
op_kind op.Csltw = CompareWords
op_kind op.Csgew = CompareWords
op_kind op.Csgtw = CompareWords
op_kind op.Culew = CompareWords
op_kind op.Cultw = CompareWords
op_kind op.Cugew = CompareWords
op_kind op.Cugtw = CompareWords
op_kind op.Ceql = CompareLongs
op_kind op.Cnel = CompareLongs
op_kind op.Cslel = CompareLongs
op_kind op.Csltl = CompareLongs
op_kind op.Csgel = CompareLongs
op_kind op.Csgtl = CompareLongs
op_kind op.Culel = CompareLongs
op_kind op.Cultl = CompareLongs
op_kind op.Cugel = CompareLongs
op_kind op.Cugtl = CompareLongs

-- whether it takes two operands, or one
abbrev pub takes_two : OpKind → Bool
takes_two Plain = false
takes_two Extend = false
takes_two ExtendWord = false
takes_two Arithmetic = true
takes_two Shift = true
takes_two CompareWords = true
takes_two CompareLongs = true

-- the class at which the first operand is wanted, where the result has a class
abbrev pub first_class : OpKind → Class → Class
first_class Plain c = c
first_class Extend c = W
first_class ExtendWord c = W
first_class Arithmetic c = c
first_class Shift c = c
first_class CompareWords c = W
first_class CompareLongs c = L

-- the same of the second operand, if there is one: the amount of a shift is a word
abbrev pub second_class : OpKind → Class → Class
second_class Plain c = c
second_class Extend c = W
second_class ExtendWord c = W
second_class Arithmetic c = c
second_class Shift c = W
second_class CompareWords c = W
second_class CompareLongs c = L

-- whether the result may have the class: an extended word is a long
abbrev pub may_give : OpKind → Class → Bool
may_give Plain c = true
may_give Extend c = true
may_give ExtendWord W = false
may_give ExtendWord L = true
may_give Arithmetic c = true
may_give Shift c = true
may_give CompareWords c = true
may_give CompareLongs c = true
