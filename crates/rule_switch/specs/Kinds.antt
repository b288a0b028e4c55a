-- The kind that is judged here, and its rows.
use Rattle.std.specs.Prelude.{Bool, true, false}
use Rattle.hare_tree.specs.declared.kind.Kind.{Kind}
use Rattle.hare_tree.specs.declared.kind.Kind.TheVariants as ki
use Rattle.hare_rules.specs.declared.row_id.RowId.{RowId}
use Rattle.hare_rules.specs.declared.row_id.RowId.TheVariants as row

abbrev pub judges : Kind → Bool
judges ki.Switch = true
judges _ = false

-- the rows that it has beside those of all kinds
abbrev pub asks : RowId → Bool
asks row.SwitchScalar = true
asks row.SwitchConstants = true
asks row.SwitchDistinct = true
asks row.SwitchCovered = true
asks row.SwitchRestFits = true
asks _ = false
