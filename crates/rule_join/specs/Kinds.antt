-- The kinds that are judged here, and their rows.
use Rattle.std.specs.Prelude.{Bool, true, false}
use Rattle.hare_tree.specs.declared.kind.Kind.{Kind}
use Rattle.hare_tree.specs.declared.kind.Kind.TheVariants as ki
use Rattle.hare_rules.specs.declared.row_id.RowId.{RowId}
use Rattle.hare_rules.specs.declared.row_id.RowId.TheVariants as row

-- branches, loops, blocks and cases
abbrev pub judges : Kind → Bool
judges ki.If = true
judges ki.For = true
judges ki.ForEach = true
judges ki.Block = true
judges ki.Case = true
judges ki.SwitchCase = true
judges _ = false

-- a block, or the statements of a case
abbrev pub is_block : Kind → Bool
is_block ki.Block = true
is_block ki.Case = true
is_block ki.SwitchCase = true
is_block _ = false

-- the rows that they have beside those of all kinds
abbrev pub asks : RowId → Bool
asks row.IfFirstDefault = true
asks row.IfRestFits = true
asks row.ForEachSequence = true
asks row.BlockReturns = true
asks row.BlockFirstDefault = true
asks row.BlockRestFits = true
asks row.CaseFirstDefault = true
asks row.CaseRestFits = true
asks _ = false
