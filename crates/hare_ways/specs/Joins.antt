-- Where no blank stands: the signs of the grammar that on one line stand directly behind the piece before them, or directly in front of
-- the piece behind them. Between any other two pieces of a line stands one blank.
use Rattle.std.specs.Prelude.{Bool, true, false, not}
use Rattle.hare_tree.specs.declared.kind.Kind.{Kind}
use Rattle.hare_tree.specs.declared.kind.Kind.TheVariants as ki
use Rattle.hare_tree.specs.declared.form.Sign.{Sign}
use Rattle.hare_tree.specs.declared.form.Sign.TheVariants as si

-- what is called with parentheses behind it: a call, the parameters of a function, and what is built in
abbrev pub is_applied : Kind → Bool
is_applied ki.Call = true
is_applied ki.Params = true
is_applied ki.Alloc = true
is_applied ki.Free = true
is_applied ki.Append = true
is_applied ki.Delete = true
is_applied ki.Len = true
is_applied ki.Size = true
is_applied ki.Align = true
is_applied ki.Offset = true
is_applied ki.Abort = true
is_applied ki.Assert = true
is_applied _ = false

-- an operand with brackets behind it
abbrev pub is_indexed : Kind → Bool
is_indexed ki.Index = true
is_indexed ki.Slice = true
is_indexed _ = false

-- a type with brackets before it
abbrev pub is_bracketed : Kind → Bool
is_bracketed ki.TypeSlice = true
is_bracketed ki.TypeArray = true
is_bracketed _ = false

abbrev pub is_slice : Kind → Bool
is_slice ki.Slice = true
is_slice _ = false

abbrev pub is_force : Kind → Bool
is_force ki.Force = true
is_force _ = false

abbrev pub is_spread : Kind → Bool
is_spread ki.Spread = true
is_spread _ = false

abbrev pub is_use_names : Kind → Bool
is_use_names ki.UseNames = true
is_use_names _ = false

-- In a form of the kind, no blank stands before the sign: `)` `]` `,` `;` `::` `.` `?` and `:` wherever a form has them; `(` of a call,
-- of what is built in and of a function, `[` of an index and a slice, `..` of a slice, `!` behind a value, `...` behind a value, and `}` of
-- a `use`.
abbrev pub joins_before : Sign → Kind → Bool
joins_before si.RightParen k = true
joins_before si.RightBracket k = true
joins_before si.Comma k = true
joins_before si.Semicolon k = true
joins_before si.PathMark k = true
joins_before si.Dot k = true
joins_before si.Question k = true
joins_before si.Colon k = true
joins_before si.LeftParen k = is_applied k
joins_before si.LeftBracket k = is_indexed k
joins_before si.DotDot k = is_slice k
joins_before si.Bang k = is_force k
joins_before si.Dots k = not (is_spread k)
joins_before si.RightBrace k = is_use_names k
joins_before _ k = false

-- In a form of the kind, no blank stands behind the sign: `(` `[` `::` `.` and the prefix operators `-` `~` `*` `&` wherever a form has
-- them; `!` but that behind a value, `]` of a type, `..` of a slice, `...` of a spread, and `{` of a `use`. So nothing stands between `&`
-- and `..` of a binding.
abbrev pub joins_behind : Sign → Kind → Bool
joins_behind si.LeftParen k = true
joins_behind si.LeftBracket k = true
joins_behind si.PathMark k = true
joins_behind si.Dot k = true
joins_behind si.Minus k = true
joins_behind si.Tilde k = true
joins_behind si.Star k = true
joins_behind si.Ampersand k = true
joins_behind si.Bang k = not (is_force k)
joins_behind si.RightBracket k = is_bracketed k
joins_behind si.DotDot k = is_slice k
joins_behind si.Dots k = is_spread k
joins_behind si.LeftBrace k = is_use_names k
joins_behind _ k = false
