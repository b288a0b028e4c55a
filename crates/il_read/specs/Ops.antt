-- The operations that words name. No public clause cites it.
use Rattle.std.specs.Prelude.{ℕ, List, Option, Some, None, bytes_eq, if◌then◌else◌, codes, take, drop}
use Rattle.std.specs.List.{prefix_len}
use Rattle.il_code.specs.declared.op.IlOp.{IlOp}
use Rattle.il_code.specs.declared.op.IlOp.TheVariants.{Neg, Copy, Alloc4, Alloc8, Alloc16, Extsb, Extub, Extsh, Extuh, Extsw, Extuw, Loadsb, Loadub, Loadsh, Loaduh, Loadsw, Loaduw, Loadl, Add, Sub, Mul, Div, Rem, Udiv, Urem, And, Or, Xor, Shl, Shr, Sar, Ceqw, Ceql, Cnew, Cnel, Cslew, Cslel, Csltw, Csltl, Csgew, Csgel, Csgtw, Csgtl, Culew, Culel, Cultw, Cultl, Cugew, Cugel, Cugtw, Cugtl}
use Rattle.il_code.specs.Tokens.{is_name_byte}
use Rattle.il_read.specs.Front.{◌>>=◌, branch}

-- those on one operand that allocate and load
unfoldable pub memory_op : List ℕ → Option IlOp
memory_op word =
    if bytes_eq word (codes "alloc4") then Some Alloc4
    else if bytes_eq word (codes "alloc8") then Some Alloc8
    else if bytes_eq word (codes "alloc16") then Some Alloc16
    else if bytes_eq word (codes "loadsb") then Some Loadsb
    else if bytes_eq word (codes "loadub") then Some Loadub
    else if bytes_eq word (codes "loadsh") then Some Loadsh
    else if bytes_eq word (codes "loaduh") then Some Loaduh
    else if bytes_eq word (codes "loadsw") then Some Loadsw
    else if bytes_eq word (codes "loaduw") then Some Loaduw
    else if bytes_eq word (codes "loadl") then Some Loadl
    else None

-- the others on one operand
unfoldable pub unary_op : List ℕ → Option IlOp
unary_op word =
    if bytes_eq word (codes "neg") then Some Neg
    else if bytes_eq word (codes "copy") then Some Copy
    else if bytes_eq word (codes "extsb") then Some Extsb
    else if bytes_eq word (codes "extub") then Some Extub
    else if bytes_eq word (codes "extsh") then Some Extsh
    else if bytes_eq word (codes "extuh") then Some Extuh
    else if bytes_eq word (codes "extsw") then Some Extsw
    else if bytes_eq word (codes "extuw") then Some Extuw
    else None

-- those on two operands that do not compare
unfoldable pub binary_op : List ℕ → Option IlOp
binary_op word =
    if bytes_eq word (codes "add") then Some Add
    else if bytes_eq word (codes "sub") then Some Sub
    else if bytes_eq word (codes "mul") then Some Mul
    else if bytes_eq word (codes "div") then Some Div
    else if bytes_eq word (codes "rem") then Some Rem
    else if bytes_eq word (codes "udiv") then Some Udiv
    else if bytes_eq word (codes "urem") then Some Urem
    else if bytes_eq word (codes "and") then Some And
    else if bytes_eq word (codes "or") then Some Or
    else if bytes_eq word (codes "xor") then Some Xor
    else if bytes_eq word (codes "shl") then Some Shl
    else if bytes_eq word (codes "shr") then Some Shr
    else if bytes_eq word (codes "sar") then Some Sar
    else None

-- comparisons of words
unfoldable pub word_comparison : List ℕ → Option IlOp
word_comparison word =
    if bytes_eq word (codes "ceqw") then Some Ceqw
    else if bytes_eq word (codes "cnew") then Some Cnew
    else if bytes_eq word (codes "cslew") then Some Cslew
    else if bytes_eq word (codes "csltw") then Some Csltw
    else if bytes_eq word (codes "csgew") then Some Csgew
    else if bytes_eq word (codes "csgtw") then Some Csgtw
    else if bytes_eq word (codes "culew") then Some Culew
    else if bytes_eq word (codes "cultw") then Some Cultw
    else if bytes_eq word (codes "cugew") then Some Cugew
    else if bytes_eq word (codes "cugtw") then Some Cugtw
    else None

-- comparisons of longs
unfoldable pub long_comparison : List ℕ → Option IlOp
long_comparison word =
    if bytes_eq word (codes "ceql") then Some Ceql
    else if bytes_eq word (codes "cnel") then Some Cnel
    else if bytes_eq word (codes "cslel") then Some Cslel
    else if bytes_eq word (codes "csltl") then Some Csltl
    else if bytes_eq word (codes "csgel") then Some Csgel
    else if bytes_eq word (codes "csgtl") then Some Csgtl
    else if bytes_eq word (codes "culel") then Some Culel
    else if bytes_eq word (codes "cultl") then Some Cultl
    else if bytes_eq word (codes "cugel") then Some Cugel
    else if bytes_eq word (codes "cugtl") then Some Cugtl
    else None

-- the operation that the word names
unfoldable pub op_named : List ℕ → Option IlOp
op_named word = branch (binary_op word) (λ op. Some op)
    (branch (unary_op word) (λ op. Some op) (branch (memory_op word) (λ op. Some op)
    (branch (word_comparison word) (λ op. Some op) (long_comparison word))))

abbrev pub op_behind : ℕ → List ℕ → Option (IlOp × List ℕ)
op_behind n s = op_named (take n s) >>= λ op. Some (op, drop n s)

-- the operation whose word stands at the front
unfoldable pub op_at : List ℕ → Option (IlOp × List ℕ)
op_at s = op_behind (prefix_len is_name_byte s) s
