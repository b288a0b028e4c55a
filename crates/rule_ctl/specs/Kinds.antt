-- The kinds of control that join nothing, and their rows.
use Rattle.std.specs.Prelude.{Bool, true, false}
use Rattle.hare_tree.specs.declared.kind.Kind.{Kind}
use Rattle.hare_tree.specs.declared.kind.Kind.TheVariants as ki
use Rattle.hare_rules.specs.declared.row_id.RowId.{RowId}
use Rattle.hare_rules.specs.declared.row_id.RowId.TheVariants as row

-- the kinds that are judged here: what asks of a value which member of a union it is, calls, `?` and `!`, bindings, and what leaves
abbrev pub judges : Kind → Bool
judges ki.As = true
judges ki.Is = true
judges ki.Call = true
judges ki.Try = true
judges ki.Force = true
judges ki.Abort = true
judges ki.Assert = true
judges ki.Let = true
judges ki.Const = true
judges ki.Defer = true
judges ki.Break = true
judges ki.Continue = true
judges ki.Return = true
judges ki.Yield = true
judges _ = false

-- the rows that they have beside those of all kinds
abbrev pub asks : RowId → Bool
asks row.TestTagged = true
asks row.TestMember = true
asks row.CallCallable = true
asks row.CallArity = true
asks row.TryErrors = true
asks row.TryUndeferred = true
asks row.TryReturned = true
asks row.ForceErrors = true
asks row.BindingDefault = true
asks row.BindingHasSize = true
asks row.JumpTarget = true
asks row.JumpInside = true
asks row.ReturnUndeferred = true
asks row.ReturnNoValue = true
asks row.YieldTarget = true
asks row.YieldInside = true
asks row.YieldNoValue = true
asks _ = false
