-- The tree that a statement of the program stands for.
use Rattle.flat_code.specs.declared.flat.Flat.{Flat}
use Rattle.flat_code.specs.declared.flat.Flat.TheVariants as flat
use Rattle.flat_code.specs.Code.{Code, Seq, Set, Load, Store, Move, If, Loop, Leave, Call, Ret, codes_of}

abbrev pub code_of : Flat → Code
code_of (flat.Seq kids) = Seq (codes_of kids)
code_of (flat.Set temp class op a b) = Set temp class op a b
code_of (flat.Load temp how at) = Load temp how at
code_of (flat.Store width value at) = Store width value at
code_of (flat.Move to from bytes) = Move to from bytes
code_of (flat.If cond a b) = If cond a b
code_of (flat.Loop body) = Loop body
code_of (flat.Leave k) = Leave k
code_of (flat.Call temp name args) = Call temp name args
code_of (flat.Ret value) = Ret value
