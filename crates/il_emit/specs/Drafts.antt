-- Lines put together to blocks.
use Rattle.std.specs.Prelude.{Bool, true, false, List, [], ◌∷◌, ◌++◌}
use Rattle.il_code.specs.declared.types.Block.{Block}
use Rattle.il_code.specs.declared.types.Jump.{Jump}
use Rattle.il_code.specs.declared.types.Jump.TheVariants.{Fall}
use Rattle.il_emit.specs.declared.draft.Draft.{Draft}
use Rattle.il_emit.specs.Names.{label_name}
use Rattle.il_emit.specs.Lines.{Line, Label, Do, End}

-- the block that is being written, with its jump
abbrev pub finished : Draft → Jump → Block
finished d j = record { label = d.label; phis = []; insts = d.insts; jump = j }

-- behind a jump no block is being written
abbrev pub ended : Draft → Jump → Draft
ended d j = record d { blocks = d.blocks ++ finished d j ∷ []; insts = []; is_open = false }

-- a block that is still being written falls to the next
abbrev pub fallen : Draft → Bool → Draft
fallen d true = ended d Fall
fallen d false = d

-- a line more
abbrev pub add : Draft → Line → Draft
add d (Label n) = record (fallen d d.is_open) { label = label_name n; insts = []; is_open = true }
add d (Do i) = record d { insts = d.insts ++ i ∷ [] }
add d (End j) = ended d j

abbrev pub add_all : Draft → List Line → Draft
add_all d [] = d
add_all d (line ∷ lines) = add_all (add d line) lines
