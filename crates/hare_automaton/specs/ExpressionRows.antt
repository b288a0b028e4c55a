-- Rows of expressions. An operand that binds at a level is read first, and then `Climb l h` takes the operators of the levels from `l` up
-- to `h`, of which each makes the tree so far its left operand; behind an operator only those of its level and below are left.
use Rattle.std.specs.Prelude.{ℕ, ◌+◌, [], ◌∷◌, nat_le, ◌&&◌, if◌then◌else◌}
use Rattle.hare_tree.specs.declared.kind.Kind.{Kind}
use Rattle.hare_tree.specs.declared.kind.Kind.TheVariants as ki
use Rattle.hare_tree.specs.declared.form.Sign.TheVariants as si
use Rattle.hare_tree.specs.declared.form.Own.TheVariants as ow
use Rattle.hare_tree.specs.declared.form.Sort.TheVariants as so
use Rattle.hare_tree.specs.Forms.{expr}
use Rattle.hare_automaton.specs.declared.class.Class.{Class}
use Rattle.hare_automaton.specs.declared.class.Class.TheVariants as cl
use Rattle.hare_automaton.specs.declared.rule.Rule.TheVariants as ru
use Rattle.hare_automaton.specs.declared.rule.Symbol.TheVariants as sy
use Rattle.hare_automaton.specs.declared.rule.Change.TheVariants as ch
use Rattle.hare_automaton.specs.Rows.{Row, Fault, Skips, Uses, of, part, before, led_by, or_skips, rest_of, opens, leaf, mark}

-- ---- the first token

-- how tightly the expression binds that a token begins, before any operator behind it
abbrev pub start_level : Class → ℕ
start_level (cl.Sign si.If) = 1
start_level (cl.Sign si.For) = 1
start_level (cl.Sign si.Break) = 1
start_level (cl.Sign si.Continue) = 1
start_level (cl.Sign si.Return) = 1
start_level (cl.Sign si.Yield) = 1
start_level (cl.Sign si.Minus) = 14
start_level (cl.Sign si.Tilde) = 14
start_level (cl.Sign si.Bang) = 14
start_level (cl.Sign si.Star) = 14
start_level (cl.Sign si.Ampersand) = 14
start_level _ = 16

-- the kind of the forms with a word or a mark of their own in front
abbrev pub start_row : Class → Row
start_row cl.Name = Uses (ch.Open ∷ ch.Open ∷ ch.Take ∷ []) (part ru.PathOrStruct ∷ [])
start_row cl.Number = leaf ki.Number
start_row cl.Rune = leaf ki.RuneLit
start_row cl.Text = leaf ki.Str
start_row cl.Bool = leaf ki.Bool
start_row (cl.Sign si.Null) = mark ki.Null
start_row (cl.Sign si.Void) = mark ki.Void
start_row (cl.Sign si.LeftParen) = Uses (ch.Open ∷ []) (of expr ∷ part ru.AfterValue ∷ [])
start_row (cl.Sign si.LeftBracket) = opens ki.Array
start_row (cl.Sign si.LeftBrace) = Uses (ch.Open ∷ []) (rest_of 2 ki.Block)
start_row (cl.Sign si.Colon) = Uses (ch.Open ∷ []) (part (ru.Own ow.Name) ∷ rest_of 1 ki.Block)
start_row (cl.Sign si.Minus) = opens ki.Neg
start_row (cl.Sign si.Tilde) = opens ki.Not
start_row (cl.Sign si.Bang) = opens ki.Bang
start_row (cl.Sign si.Star) = opens ki.Deref
start_row (cl.Sign si.Ampersand) = opens ki.Addr
start_row (cl.Sign si.Free) = opens ki.Free
start_row (cl.Sign si.Delete) = opens ki.Delete
start_row (cl.Sign si.Len) = opens ki.Len
start_row (cl.Sign si.Offset) = opens ki.Offset
start_row (cl.Sign si.Size) = opens ki.Size
start_row (cl.Sign si.Align) = opens ki.Align
start_row (cl.Sign si.Alloc) = opens ki.Alloc
start_row (cl.Sign si.Append) = opens ki.Append
start_row (cl.Sign si.Abort) = opens ki.Abort
start_row (cl.Sign si.Assert) = opens ki.Assert
start_row (cl.Sign si.If) = opens ki.If
start_row (cl.Sign si.For) = Uses (ch.Open ∷ []) (part (ru.Own ow.Label) ∷ sy.Want si.LeftParen ∷ part ru.ForHead ∷ [])
start_row (cl.Sign si.Break) = opens ki.Break
start_row (cl.Sign si.Continue) = opens ki.Continue
start_row (cl.Sign si.Return) = opens ki.Return
start_row (cl.Sign si.Yield) = Uses (ch.Open ∷ []) (part ru.AfterYield ∷ [])
start_row (cl.Sign si.Match) = opens ki.Match
start_row (cl.Sign si.Switch) = opens ki.Switch
start_row _ = Fault

-- an expression that binds at least so tightly as `l`
abbrev pub level_row : ℕ → Class → Row
level_row l c = if nat_le l (start_level c) then before (start_row c) (part (ru.Climb l (start_level c)) ∷ []) else Fault

-- ---- operators behind an operand

-- an operator of level `m`, where those from `l` up to `h` may follow
abbrev pub climbs : ℕ → ℕ → ℕ → Row → Row
climbs l h m r = if nat_le l m && nat_le m h then before r (part (ru.Climb l m) ∷ []) else Skips []

-- an operator of an assignment, whose left side is an operand of a prefix operator or binds more tightly
abbrev pub assigns : ℕ → ℕ → Row → Row
assigns l h r = if nat_le l 1 && nat_le 14 h then before r (part (ru.Climb l 1) ∷ []) else Skips []

-- a form whose first piece is the operand and whose second is the token
abbrev pub behind_operand : Kind → Row
behind_operand k = Uses (ch.Over ∷ []) (rest_of 2 k)

-- the kind of the binary operators of a level
abbrev pub binary_kind : ℕ → Kind
binary_kind m = if nat_le m 4 then ki.Logic else if nat_le m 5 then ki.Equal else if nat_le m 6 then ki.Less else if nat_le 10 m && nat_le m
    10 then ki.Shift else ki.Arith

abbrev pub binary_at : ℕ → Row
binary_at m = Uses (ch.Over ∷ ch.Take ∷ []) (of (so.Level (m + 1)) ∷ sy.Close (binary_kind m) ∷ [])

abbrev pub climb_row : ℕ → ℕ → Class → Row
climb_row l h (cl.Binary m) = climbs l h m (binary_at m)
climb_row l h cl.OpAssign = assigns l h (Uses (ch.Over ∷ ch.Take ∷ []) (of expr ∷ sy.Close ki.OpAssign ∷ []))
climb_row l h (cl.Sign si.Equals) = assigns l h (behind_operand ki.Assign)
climb_row l h (cl.Sign si.Star) = climbs l h 12 (binary_at 12)
climb_row l h (cl.Sign si.Minus) = climbs l h 11 (binary_at 11)
climb_row l h (cl.Sign si.Ampersand) = climbs l h 9 (binary_at 9)
climb_row l h (cl.Sign si.Bar) = climbs l h 7 (binary_at 7)
climb_row l h (cl.Sign si.Colon) = climbs l h 13 (behind_operand ki.Cast)
climb_row l h (cl.Sign si.As) = climbs l h 13 (behind_operand ki.As)
climb_row l h (cl.Sign si.Is) = climbs l h 13 (behind_operand ki.Is)
climb_row l h (cl.Sign si.LeftParen) = climbs l h 15 (behind_operand ki.Call)
climb_row l h (cl.Sign si.LeftBracket) = climbs l h 15 (Uses (ch.Over ∷ []) (part ru.InIndex ∷ []))
climb_row l h (cl.Sign si.Dot) = climbs l h 15 (behind_operand ki.Field)
climb_row l h (cl.Sign si.Question) = climbs l h 15 (behind_operand ki.Try)
climb_row l h (cl.Sign si.Bang) = climbs l h 15 (behind_operand ki.Force)
climb_row l h _ = Skips []

-- ---- what the tokens behind the first decide

-- a path with fields is a struct literal
abbrev pub path_or_struct_row : Class → Row
path_or_struct_row (cl.Sign si.PathMark) = Uses (ch.Join ∷ []) (part ru.PathName ∷ part ru.PathOrStruct ∷ [])
path_or_struct_row (cl.Sign si.LeftBrace) = Uses (ch.Close ki.TypePath ∷ []) (rest_of 2 ki.StructLit)
path_or_struct_row _ = Skips (ch.Close ki.Path ∷ ch.Lift ∷ [])

-- a comma makes a tuple
abbrev pub after_value_row : Class → Row
after_value_row (cl.Sign si.RightParen) = Uses (ch.Close ki.Paren ∷ []) []
after_value_row (cl.Sign si.Comma) = Uses [] (rest_of 3 ki.Tuple)
after_value_row _ = Fault

-- two dots make a slice
abbrev pub in_index_row : Class → Row
in_index_row (cl.Sign si.DotDot) = Uses (ch.Absent ∷ []) (rest_of 4 ki.Slice)
in_index_row c = before (level_row 1 c) (part ru.AfterIndex ∷ [])

abbrev pub after_index_row : Class → Row
after_index_row (cl.Sign si.RightBracket) = Uses (ch.Close ki.Index ∷ []) []
after_index_row (cl.Sign si.DotDot) = Uses [] (rest_of 4 ki.Slice)
after_index_row _ = Fault

-- behind a label, a comma and a value; with no label, a value
abbrev pub after_yield_row : Class → Row
after_yield_row (cl.Sign si.Colon) = Uses [] (part (ru.Own ow.Name) ∷ part (ru.Led si.Comma expr) ∷ sy.Close ki.Yield ∷ [])
after_yield_row c = or_skips (before (level_row 1 c) (sy.Close ki.Yield ∷ [])) (ch.Absent ∷ ch.Close ki.Yield ∷ [])

-- behind `(` of a loop: a binding of its own, or the condition
abbrev pub for_head_row : Class → Row
for_head_row (cl.Sign si.Let) = Uses (ch.Open ∷ []) (part (ru.Own ow.Name) ∷ part ru.AfterForName ∷ [])
for_head_row c = led_by (ch.Absent ∷ []) (before (level_row 1 c) (rest_of 5 ki.For))

-- `..` and `& ..` go over the items of a value; a type or a value belongs to the binding of a loop with a condition
abbrev pub after_for_name_row : Class → Row
after_for_name_row (cl.Sign si.Colon) =
    Uses [] (of so.Type ∷ sy.Want si.Equals ∷ of expr ∷ sy.Close ki.Let ∷ sy.Want si.Semicolon ∷ of expr ∷ rest_of 5 ki.For)
after_for_name_row (cl.Sign si.Equals) = Uses (ch.Absent ∷ [])
    (of expr ∷ sy.Close ki.Let ∷ sy.Want si.Semicolon ∷ of expr ∷ rest_of 5 ki.For)
after_for_name_row (cl.Sign si.DotDot) = Uses (ch.Absent ∷ ch.Close ki.Binding ∷ []) (rest_of 4 ki.ForEach)
after_for_name_row (cl.Sign si.Ampersand) = Uses (ch.Mark ki.ByRef ∷ []) (sy.Want si.DotDot ∷ sy.Close ki.Binding ∷ rest_of 4 ki.ForEach)
after_for_name_row _ = Fault
