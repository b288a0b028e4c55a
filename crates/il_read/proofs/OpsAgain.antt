-- The words of operations are read as they are printed.
use Rattle.std.proofs.Common.{◌≡◌, ℕ, List, ◌∷◌, ◌++◌, Some, None, refl, codes}
use Rattle.il_code.specs.declared.op.IlOp.{IlOp}
use Rattle.il_code.specs.declared.op.IlOp.TheVariants.{Neg, Copy, Alloc4, Alloc8, Alloc16, Extsb, Extub, Extsh, Extuh, Extsw, Extuw, Loadsb, Loadub, Loadsh, Loaduh, Loadsw, Loaduw, Loadl, Add, Sub, Mul, Div, Rem, Udiv, Urem, And, Or, Xor, Shl, Shr, Sar, Ceqw, Ceql, Cnew, Cnel, Cslew, Cslel, Csltw, Csltl, Csgew, Csgel, Csgtw, Csgtl, Culew, Culel, Cultw, Cultl, Cugew, Cugel, Cugtw, Cugtl}
use Rattle.il_code.specs.Words.{op_word}
use Rattle.il_read.specs.Front.{behind}
use Rattle.il_read.specs.Ops.{memory_op, unary_op, binary_op, word_comparison, long_comparison, op_named, op_at}

pub op_again : (op : IlOp) (rest : List ℕ) → op_at (op_word op ++ 32 ∷ rest) ≡ Some (op, 32 ∷ rest)
unfolding op_at op_named memory_op unary_op binary_op word_comparison long_comparison
op_again Neg rest = refl
op_again Copy rest = refl
op_again Alloc4 rest = refl
op_again Alloc8 rest = refl
op_again Alloc16 rest = refl
op_again Extsb rest = refl
op_again Extub rest = refl
op_again Extsh rest = refl
op_again Extuh rest = refl
op_again Extsw rest = refl
op_again Extuw rest = refl
op_again Loadsb rest = refl
op_again Loadub rest = refl
op_again Loadsh rest = refl
op_again Loaduh rest = refl
op_again Loadsw rest = refl
op_again Loaduw rest = refl
op_again Loadl rest = refl
op_again Add rest = refl
op_again Sub rest = refl
op_again Mul rest = refl
op_again Div rest = refl
op_again Rem rest = refl
op_again Udiv rest = refl
op_again Urem rest = refl
op_again And rest = refl
op_again Or rest = refl
op_again Xor rest = refl
op_again Shl rest = refl
op_again Shr rest = refl
op_again Sar rest = refl
op_again Ceqw rest = refl
op_again Ceql rest = refl
op_again Cnew rest = refl
op_again Cnel rest = refl
op_again Cslew rest = refl
op_again Cslel rest = refl
op_again Csltw rest = refl
op_again Csltl rest = refl
op_again Csgew rest = refl
op_again Csgel rest = refl
op_again Csgtw rest = refl
op_again Csgtl rest = refl
op_again Culew rest = refl
op_again Culel rest = refl
op_again Cultw rest = refl
op_again Cultl rest = refl
op_again Cugew rest = refl
op_again Cugel rest = refl
op_again Cugtw rest = refl
op_again Cugtl rest = refl

-- the word of an operation is none of the other two that stand behind what is set
pub op_is_other : (op : IlOp) (rest : List ℕ) → (behind (codes "phi ") (op_word op ++ 32 ∷ rest) ≡ None) ×
    (behind (codes "call ") (op_word op ++ 32 ∷ rest) ≡ None)
op_is_other Neg rest = (refl, refl)
op_is_other Copy rest = (refl, refl)
op_is_other Alloc4 rest = (refl, refl)
op_is_other Alloc8 rest = (refl, refl)
op_is_other Alloc16 rest = (refl, refl)
op_is_other Extsb rest = (refl, refl)
op_is_other Extub rest = (refl, refl)
op_is_other Extsh rest = (refl, refl)
op_is_other Extuh rest = (refl, refl)
op_is_other Extsw rest = (refl, refl)
op_is_other Extuw rest = (refl, refl)
op_is_other Loadsb rest = (refl, refl)
op_is_other Loadub rest = (refl, refl)
op_is_other Loadsh rest = (refl, refl)
op_is_other Loaduh rest = (refl, refl)
op_is_other Loadsw rest = (refl, refl)
op_is_other Loaduw rest = (refl, refl)
op_is_other Loadl rest = (refl, refl)
op_is_other Add rest = (refl, refl)
op_is_other Sub rest = (refl, refl)
op_is_other Mul rest = (refl, refl)
op_is_other Div rest = (refl, refl)
op_is_other Rem rest = (refl, refl)
op_is_other Udiv rest = (refl, refl)
op_is_other Urem rest = (refl, refl)
op_is_other And rest = (refl, refl)
op_is_other Or rest = (refl, refl)
op_is_other Xor rest = (refl, refl)
op_is_other Shl rest = (refl, refl)
op_is_other Shr rest = (refl, refl)
op_is_other Sar rest = (refl, refl)
op_is_other Ceqw rest = (refl, refl)
op_is_other Ceql rest = (refl, refl)
op_is_other Cnew rest = (refl, refl)
op_is_other Cnel rest = (refl, refl)
op_is_other Cslew rest = (refl, refl)
op_is_other Cslel rest = (refl, refl)
op_is_other Csltw rest = (refl, refl)
op_is_other Csltl rest = (refl, refl)
op_is_other Csgew rest = (refl, refl)
op_is_other Csgel rest = (refl, refl)
op_is_other Csgtw rest = (refl, refl)
op_is_other Csgtl rest = (refl, refl)
op_is_other Culew rest = (refl, refl)
op_is_other Culel rest = (refl, refl)
op_is_other Cultw rest = (refl, refl)
op_is_other Cultl rest = (refl, refl)
op_is_other Cugew rest = (refl, refl)
op_is_other Cugel rest = (refl, refl)
op_is_other Cugtw rest = (refl, refl)
op_is_other Cugtl rest = (refl, refl)
