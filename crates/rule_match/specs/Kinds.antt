-- The kind that is judged here, and its rows.
use Rattle.std.specs.Prelude.{Bool, true, false}
use Rattle.hare_tree.specs.declared.kind.Kind.{Kind}
use Rattle.hare_tree.specs.declared.kind.Kind.TheVariants as ki
use Rattle.hare_rules.specs.declared.row_id.RowId.{RowId}
use Rattle.hare_rules.specs.declared.row_id.RowId.TheVariants as row

abbrev pub judges : Kind → Bool
judges ki.Match = true
judges _ = false

-- the rows that it has beside those of all kinds
abbrev pub asks : RowId → Bool
asks row.MatchTagged = true
asks row.MatchPatterns = true
asks row.MatchDistinct = true
asks row.MatchCovered = true
asks row.MatchRestFits = true
asks _ = false
