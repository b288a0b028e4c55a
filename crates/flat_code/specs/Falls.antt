-- Each statement of a list is lower than the list, by which recursion over the program's trees ends.
use Rattle.std.specs.Prelude.{◌≤◌, suc, max, List, [], ◌∷◌, map}
use Rattle.std.proofs.Common.{arith}
use denote.Param.Weighed.{most}
use Rattle.flat_code.specs.declared.flat.Flat.{Flat}
use Rattle.flat_code.specs.declared.flat.Flat.TheVariants as flat
use Rattle.flat_code.specs.declared.flat.FlatBox.TheDeep.{deep-Flat}
use Rattle.flat_code.specs.Code.{height, heights, codes_of}
use Rattle.flat_code.specs.Shape.{code_of}

pub deep_le : (f : Flat) → deep-Flat f ≤ suc (height (code_of f))
deep_le (flat.Seq kids) = omega arith
deep_le (flat.Set temp class op a b) = omega arith
deep_le (flat.Load temp how at) = omega arith
deep_le (flat.Store width value at) = omega arith
deep_le (flat.Move to from bytes) = omega arith
deep_le (flat.If cond a b) = omega arith
deep_le (flat.Loop body) = omega arith
deep_le (flat.Leave k) = omega arith
deep_le (flat.Call temp name args) = omega arith
deep_le (flat.Ret value) = omega arith

pub most_le-heights : (fs : List Flat) → max (most deep-Flat fs) 0 ≤ heights (codes_of (map code_of fs))
most_le-heights [] = omega arith
most_le-heights (f ∷ fs) = omega (arith, most_le-heights fs, deep_le f)
