-- How many operands an operation takes, at which classes, and at which classes it gives a number.
use Rattle.std.specs.Prelude.{Bool, true, false}
use Rattle.hx_base.specs.declared.Class.{Class}
use Rattle.hx_base.specs.declared.Class.TheVariants.{W, L}
use Rattle.il_code.specs.declared.op.IlOp.{IlOp}
use Rattle.il_code.specs.declared.op.IlOp.TheVariants as op
use Rattle.il_code.specs.declared.validity.kinds.OpKind.{OpKind}
use Rattle.il_code.specs.declared.validity.kinds.OpKind.TheVariants.{Plain, Alloc, Extend, ExtendWord, Load, LoadLong, Arithmetic, Shift, CompareWords, CompareLongs}

-- the kind of an operation
abbrev pub op_kind : IlOp → OpKind
op_kind op.Neg = Plain
op_kind op.Copy = Plain
op_kind op.Alloc4 = Alloc
op_kind op.Alloc8 = Alloc
op_kind op.Alloc16 = Alloc
op_kind op.Extsb = Extend
op_kind op.Extub = Extend
op_kind op.Extsh = Extend
op_kind op.Extuh = Extend
op_kind op.Extsw = ExtendWord
op_kind op.Extuw = ExtendWord
op_kind op.Loadsb = Load
op_kind op.Loadub = Load
op_kind op.Loadsh = Load
op_kind op.Loaduh = Load
op_kind op.Loadsw = Load
op_kind op.Loaduw = Load
op_kind op.Loadl = LoadLong
op_kind op.Add = Arithmetic
op_kind op.Sub = Arithmetic
op_kind op.Mul = Arithmetic
op_kind op.Div = Arithmetic
op_kind op.Rem = Arithmetic
op_kind op.Udiv = Arithmetic
op_kind op.Urem = Arithmetic
op_kind op.And = Arithmetic
op_kind op.Or = Arithmetic
op_kind op.Xor = Arithmetic
op_kind op.Shl = Shift
op_kind op.Shr = Shift
op_kind op.Sar = Shift
op_kind op.Ceqw = CompareWords
op_kind op.Cnew = CompareWords
op_kind op.Cslew = CompareWords
op_kind op.Csltw = CompareWords
op_kind op.Csgew = CompareWords
op_kind op.Csgtw = CompareWords
op_kind op.Culew = CompareWords
op_kind op.Cultw = CompareWords
op_kind op.Cugew = CompareWords
op_kind op.Cugtw = CompareWords
op_kind op.Ceql = CompareLongs
op_kind op.Cnel = CompareLongs
op_kind op.Cslel = CompareLongs
op_kind op.Csltl = CompareLongs
op_kind op.Csgel = CompareLongs
op_kind op.Csgtl = CompareLongs
op_kind op.Culel = CompareLongs
op_kind op.Cultl = CompareLongs
op_kind op.Cugel = CompareLongs
op_kind op.Cugtl = CompareLongs

-- whether it takes two operands, or one
abbrev pub takes_two : OpKind → Bool
takes_two Plain = false
takes_two Alloc = false
takes_two Extend = false
takes_two ExtendWord = false
takes_two Load = false
takes_two LoadLong = false
takes_two Arithmetic = true
takes_two Shift = true
takes_two CompareWords = true
takes_two CompareLongs = true

-- the class at which the first operand is wanted, where the result has a class: addresses and counts of bytes are longs
abbrev pub first_class : OpKind → Class → Class
first_class Plain c = c
first_class Alloc c = L
first_class Extend c = W
first_class ExtendWord c = W
first_class Load c = L
first_class LoadLong c = L
first_class Arithmetic c = c
first_class Shift c = c
first_class CompareWords c = W
first_class CompareLongs c = L

-- the same of the second operand, if there is one: the amount of a shift is a word
abbrev pub second_class : OpKind → Class → Class
second_class Plain c = c
second_class Alloc c = L
second_class Extend c = W
second_class ExtendWord c = W
second_class Load c = L
second_class LoadLong c = L
second_class Arithmetic c = c
second_class Shift c = W
second_class CompareWords c = W
second_class CompareLongs c = L

-- whether the result may have the class: addresses, extended words and loaded longs are longs
abbrev pub may_give : OpKind → Class → Bool
may_give Plain c = true
may_give Alloc W = false
may_give Alloc L = true
may_give Extend c = true
may_give ExtendWord W = false
may_give ExtendWord L = true
may_give Load c = true
may_give LoadLong W = false
may_give LoadLong L = true
may_give Arithmetic c = true
may_give Shift c = true
may_give CompareWords c = true
may_give CompareLongs c = true
