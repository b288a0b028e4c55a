-- Blocks. No public clause cites it.
use Rattle.std.specs.Prelude.{ℕ, List, Option, Some, Bool, ◌==◌, slice_index, length, codes}
use Rattle.il_code.specs.declared.types.Block.{Block}
use Rattle.il_read.specs.Front.{◌>>=◌, behind}
use Rattle.il_read.specs.Values.{label_at}
use Rattle.il_read.specs.Lines.{lines}
use Rattle.il_read.specs.Jumps.{jump_at}

-- a label begins
abbrev pub begins_block : List ℕ → Bool
begins_block s = slice_index s 0 == 64

unfoldable pub block_at : List ℕ → Option (Block × List ℕ)
block_at s = do
  label ← label_at s
  code ← behind (codes "\n") label.1 >>= λ rest. lines (length rest) rest
  jump ← jump_at code.1
  Some (record { label = label.0; phis = code.0.0; insts = code.0.1; jump = jump.0 }, jump.1)
