-- Functions. No public clause cites it.
use Rattle.std.specs.Prelude.{ℕ, List, Option, Some, None, Bool, length, codes}
use Rattle.hx_base.specs.declared.Class.{Class}
use Rattle.hx_base.specs.declared.Class.TheVariants.{W, L}
use Rattle.il_code.specs.declared.types.Block.{Block}
use Rattle.il_code.specs.declared.types.IlItem.{IlItem}
use Rattle.il_code.specs.declared.types.IlItem.TheVariants.{Function}
use Rattle.il_read.specs.Front.{◌>>=◌, branch, behind}
use Rattle.il_read.specs.Lists.{each, bracketed}
use Rattle.il_read.specs.Values.{symbol_at, param_at}
use Rattle.il_read.specs.Blocks.{begins_block, block_at}

-- the class of a function's result, if it has one
unfoldable pub result_class_at : List ℕ → Option (Option Class × List ℕ)
result_class_at s = branch (behind (codes "w ") s) (λ rest. Some (Some W, rest))
    (branch (behind (codes "l ") s) (λ rest. Some (Some L, rest)) (Some (None, s)))

-- the blocks between their braces
unfoldable pub blocks_at : List ℕ → Option (List Block × List ℕ)
blocks_at s = do
  blocks ← behind (codes " {\n") s >>= λ rest. each block_at begins_block (length rest) rest
  rest ← behind (codes "}\n") blocks.1
  Some (blocks.0, rest)

-- a function behind its word
unfoldable pub function_at : Bool → List ℕ → Option (IlItem × List ℕ)
function_at export s = do
  class ← result_class_at s
  name ← symbol_at class.1
  params ← behind (codes "(") name.1 >>= λ rest. bracketed param_at (length rest) rest
  blocks ← blocks_at params.1
  Some (Function export class.0 name.0 params.0 blocks.0, blocks.1)
