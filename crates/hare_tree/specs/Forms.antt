-- The grammar as data: the form of each kind, with the words of the grammar beside it. `[x]` is optional, `{x}` any number, and
-- `list(x)` is `x {"," x} [","]`. Spell.antt says how a form is spelled, Shape.antt which trees are of it.
use Rattle.std.specs.Prelude.{List, [], ◌∷◌}
use Rattle.hare_tree.specs.declared.kind.Kind.{Kind}
use Rattle.hare_tree.specs.declared.kind.Kind.TheVariants as ki
use Rattle.hare_tree.specs.declared.form.Sign.{Sign}
use Rattle.hare_tree.specs.declared.form.Sign.TheVariants as si
use Rattle.hare_tree.specs.declared.form.Own.TheVariants as ow
use Rattle.hare_tree.specs.declared.form.Sort.{Sort}
use Rattle.hare_tree.specs.declared.form.Sort.TheVariants as so
use Rattle.hare_tree.specs.declared.form.Piece.{Piece}
use Rattle.hare_tree.specs.declared.form.Piece.TheVariants.{Fixed, Own, Kid, Optional, Led, Followed, Value, Each, EachLed, EachFollowed, More, List as ListOf, Elements}

-- any expression
abbrev pub expr : Sort
expr = so.Level 1

-- what a cast, an operand of a prefix operator, and the operand of a postfix form are
abbrev pub unary : Sort
unary = so.Level 14

abbrev pub postfix : Sort
postfix = so.Level 15

-- a sign, a kid, and a sign again: `"(" kid ")"`
abbrev pub inside : Sign → Sort → List Piece
inside word s = Fixed word ∷ Fixed si.LeftParen ∷ Kid s ∷ Fixed si.RightParen ∷ []

-- a sign and a kid
abbrev pub prefixed : Sign → Sort → List Piece
prefixed word s = Fixed word ∷ Kid s ∷ []

-- an operator of the kind between its operands
abbrev pub binary : List Piece
binary = Kid so.Left ∷ Own ow.Operator ∷ Kid so.Right ∷ []

-- the word of a binding, its name, its type and its value
abbrev pub bound : Sign → List Piece
bound word = Fixed word ∷ Own ow.Name ∷ Led si.Colon so.Type ∷ Fixed si.Equals ∷ Kid expr ∷ []

-- the word of a declaration of a value, its name, its type and its value
abbrev pub declared : Sign → List Piece
declared word =
    Optional so.Export ∷ Fixed word ∷ Kid so.Name ∷ Led si.Colon so.Type ∷ Fixed si.Equals ∷ Kid expr ∷ Fixed si.Semicolon ∷ []

abbrev pub form_of : Kind → List Piece
form_of ki.None = []
-- "use" path ";"
form_of ki.Use = Fixed si.Use ∷ Kid so.ImportPath ∷ Fixed si.Semicolon ∷ []
-- "use" name "=" path ";"
form_of ki.UseAlias = Fixed si.Use ∷ Kid so.Name ∷ Fixed si.Equals ∷ Kid so.ImportPath ∷ Fixed si.Semicolon ∷ []
-- "use" path "::" "{" list(name) "}" ";"
form_of ki.UseNames =
    Fixed si.Use ∷ Kid so.ImportPath ∷ Fixed si.PathMark ∷ Fixed si.LeftBrace ∷ Kid so.Name ∷ More so.Name ∷ Fixed si.RightBrace ∷
    Fixed si.Semicolon ∷ []
-- name {"::" name}
form_of ki.ImportPath = Kid so.Name ∷ EachLed si.PathMark so.PathName ∷ []
-- ["export"] "def" name [":" type] "=" expr ";"
form_of ki.Def = declared si.Def
form_of ki.GlobalLet = declared si.Let
form_of ki.GlobalConst = declared si.Const
-- ["export"] "type" name "=" type ";"
form_of ki.TypeDecl =
    Optional so.Export ∷ Fixed si.Type ∷ Kid so.Name ∷ Fixed si.Equals ∷ Kid so.Type ∷ Fixed si.Semicolon ∷ []
-- ["export"] "fn" name "(" [list(name ":" type)] ")" type "=" expr ";"
form_of ki.Fn =
    Optional so.Export ∷ Fixed si.Fn ∷ Kid so.Name ∷ Kid so.Params ∷ Kid so.Type ∷ Fixed si.Equals ∷ Kid expr ∷ Fixed si.Semicolon ∷ []
form_of ki.Params = Fixed si.LeftParen ∷ ListOf so.Param ∷ Fixed si.RightParen ∷ []
form_of ki.Param = Own ow.Name ∷ Fixed si.Colon ∷ Kid so.Type ∷ []
form_of ki.StructField = Own ow.Name ∷ Fixed si.Colon ∷ Kid so.Type ∷ []
form_of ki.Name = Own ow.PathName ∷ []
form_of ki.Export = Fixed si.Export ∷ []
form_of ki.TrailingComma = Fixed si.Comma ∷ []
form_of ki.Dots = Fixed si.Dots ∷ []
form_of ki.ByRef = Fixed si.Ampersand ∷ []
-- scalar | path | "*" type | "nullable" "*" type | "[" "]" type
form_of ki.TypeScalar = Own ow.Scalar ∷ []
form_of ki.TypePath = Own ow.Path ∷ []
form_of ki.TypePointer = prefixed si.Star so.Type
form_of ki.TypeNullable = Fixed si.Nullable ∷ Fixed si.Star ∷ Kid so.Type ∷ []
form_of ki.TypeSlice = Fixed si.LeftBracket ∷ Fixed si.RightBracket ∷ Kid so.Type ∷ []
-- "!" bare
form_of ki.TypeError = prefixed si.Bang so.BareType
-- "[" (number | path) "]" type
form_of ki.TypeArray = Fixed si.LeftBracket ∷ Kid so.Length ∷ Fixed si.RightBracket ∷ Kid so.Type ∷ []
-- "struct" "{" list(name ":" type) "}"
form_of ki.TypeStruct =
    Fixed si.Struct ∷ Fixed si.LeftBrace ∷ Kid so.StructField ∷ More so.StructField ∷ Fixed si.RightBrace ∷ []
-- "(" type "," list(type) ")"
form_of ki.TypeTuple =
    Fixed si.LeftParen ∷ Kid so.Type ∷ Fixed si.Comma ∷ Kid so.Type ∷ More so.Type ∷ Fixed si.RightParen ∷ []
-- "(" member "|" member {"|" member} ")"
form_of ki.TypeUnion =
    Fixed si.LeftParen ∷ Kid so.Member ∷ Fixed si.Bar ∷ Kid so.Member ∷ EachLed si.Bar so.Member ∷ Fixed si.RightParen ∷ []
-- "..." path
form_of ki.Spread = prefixed si.Dots so.TypePath
-- number | string {string} | rune | "true" | "false" | "null" | "void" | path
form_of ki.Number = Own ow.Number ∷ []
form_of ki.RuneLit = Own ow.Rune ∷ []
form_of ki.Str = Own ow.Text ∷ []
form_of ki.Message = Own ow.Text ∷ []
form_of ki.Bool = Own ow.Bool ∷ []
form_of ki.Null = Fixed si.Null ∷ []
form_of ki.Void = Fixed si.Void ∷ []
form_of ki.Path = Own ow.Path ∷ []
-- "(" expr ")"
form_of ki.Paren = Fixed si.LeftParen ∷ Kid expr ∷ Fixed si.RightParen ∷ []
-- ("-" | "~" | "!" | "*" | "&") unary
form_of ki.Neg = prefixed si.Minus unary
form_of ki.Not = prefixed si.Tilde unary
form_of ki.Bang = prefixed si.Bang unary
form_of ki.Deref = prefixed si.Star unary
form_of ki.Addr = prefixed si.Ampersand unary
-- postfix "?", postfix "!"
form_of ki.Try = Kid postfix ∷ Fixed si.Question ∷ []
form_of ki.Force = Kid postfix ∷ Fixed si.Bang ∷ []
-- builtin
form_of ki.Free = inside si.Free expr
form_of ki.Delete = inside si.Delete expr
form_of ki.Len = inside si.Len expr
form_of ki.Offset = inside si.Offset expr
form_of ki.Size = inside si.Size so.Type
form_of ki.Align = inside si.Align so.Type
-- "defer" expr
form_of ki.Defer = prefixed si.Defer expr
-- binary operators, left-associative over `cast`
form_of ki.Arith = binary
form_of ki.Shift = binary
form_of ki.Less = binary
form_of ki.Equal = binary
form_of ki.Logic = binary
-- unary asg expr
form_of ki.OpAssign = Kid unary ∷ Own ow.Operator ∷ Kid expr ∷ []
form_of ki.Assign = Kid unary ∷ Fixed si.Equals ∷ Kid expr ∷ []
-- postfix "[" expr "]"
form_of ki.Index = Kid postfix ∷ Fixed si.LeftBracket ∷ Kid expr ∷ Fixed si.RightBracket ∷ []
-- unary {":" type | "as" type | "is" type}
form_of ki.Cast = Kid so.Left ∷ Fixed si.Colon ∷ Kid so.Type ∷ []
form_of ki.As = Kid so.Left ∷ Fixed si.As ∷ Kid so.Type ∷ []
form_of ki.Is = Kid so.Left ∷ Fixed si.Is ∷ Kid so.Type ∷ []
-- postfix "(" [list(expr)] ")"
form_of ki.Call = Kid postfix ∷ Fixed si.LeftParen ∷ ListOf expr ∷ Fixed si.RightParen ∷ []
-- postfix "[" [expr] ".." [expr] "]"
form_of ki.Slice =
    Kid postfix ∷ Fixed si.LeftBracket ∷ Optional expr ∷ Fixed si.DotDot ∷ Optional expr ∷ Fixed si.RightBracket ∷ []
-- postfix "." name, postfix "." number
form_of ki.Field = Kid postfix ∷ Fixed si.Dot ∷ Own ow.Member ∷ []
-- path "{" list(name "=" expr) "}"
form_of ki.StructLit =
    Kid so.TypePath ∷ Fixed si.LeftBrace ∷ Kid so.FieldValue ∷ More so.FieldValue ∷ Fixed si.RightBrace ∷ []
form_of ki.FieldValue = Own ow.Name ∷ Fixed si.Equals ∷ Kid expr ∷ []
-- "(" expr "," list(expr) ")"
form_of ki.Tuple =
    Fixed si.LeftParen ∷ Kid expr ∷ Fixed si.Comma ∷ Kid expr ∷ More expr ∷ Fixed si.RightParen ∷ []
-- "[" [expr {"," expr} ["..."] [","]] "]"
form_of ki.Array = Fixed si.LeftBracket ∷ Elements expr ∷ Fixed si.RightBracket ∷ []
-- "alloc" "(" expr ["," expr] ")"
form_of ki.Alloc = Fixed si.Alloc ∷ Fixed si.LeftParen ∷ Kid expr ∷ Led si.Comma expr ∷ Fixed si.RightParen ∷ []
-- "append" "(" expr "," expr ["..."] ")"
form_of ki.Append =
    Fixed si.Append ∷ Fixed si.LeftParen ∷ Kid expr ∷ Fixed si.Comma ∷ Kid expr ∷ Optional so.Dots ∷ Fixed si.RightParen ∷ []
-- "abort" "(" [string {string}] ")"
form_of ki.Abort = Fixed si.Abort ∷ Fixed si.LeftParen ∷ Optional so.Message ∷ Fixed si.RightParen ∷ []
-- "assert" "(" expr ["," string {string}] ")"
form_of ki.Assert = Fixed si.Assert ∷ Fixed si.LeftParen ∷ Kid expr ∷ Led si.Comma so.Message ∷ Fixed si.RightParen ∷ []
-- ("let" | "const") name [":" type] "=" expr
form_of ki.Let = bound si.Let
form_of ki.Const = bound si.Const
-- "if" "(" expr ")" expr ["else" expr]
form_of ki.If =
    Fixed si.If ∷ Fixed si.LeftParen ∷ Kid expr ∷ Fixed si.RightParen ∷ Kid expr ∷ Led si.Else expr ∷ []
-- "for" [label] "(" ["let" name [":" type] "=" expr ";"] expr [";" expr] ")" expr
form_of ki.For =
    Fixed si.For ∷ Own ow.Label ∷ Fixed si.LeftParen ∷ Followed so.Let si.Semicolon ∷ Kid expr ∷ Led si.Semicolon expr ∷
    Fixed si.RightParen ∷ Kid expr ∷ []
-- "for" [label] "(" "let" name (".." | "&" "..") expr ")" expr
form_of ki.ForEach =
    Fixed si.For ∷ Own ow.Label ∷ Fixed si.LeftParen ∷ Kid so.Binding ∷ Kid expr ∷ Fixed si.RightParen ∷ Kid expr ∷ []
form_of ki.Binding = Fixed si.Let ∷ Own ow.Name ∷ Optional so.ByRef ∷ Fixed si.DotDot ∷ []
-- "break" [label], "continue" [label]
form_of ki.Break = Fixed si.Break ∷ Own ow.Label ∷ []
form_of ki.Continue = Fixed si.Continue ∷ Own ow.Label ∷ []
-- "return" [expr]
form_of ki.Return = Fixed si.Return ∷ Optional expr ∷ []
-- "yield" [label ["," expr] | expr]
form_of ki.Yield = Fixed si.Yield ∷ Own ow.Label ∷ Value expr ∷ []
-- [label] "{" {stmt ";"} "}"
form_of ki.Block = Own ow.Label ∷ Fixed si.LeftBrace ∷ EachFollowed so.Statement si.Semicolon ∷ Fixed si.RightBrace ∷ []
-- "match" "(" expr ")" "{" {"case" [pattern] "=>" {stmt ";"}} "}"
form_of ki.Match =
    Fixed si.Match ∷ Fixed si.LeftParen ∷ Kid expr ∷ Fixed si.RightParen ∷ Fixed si.LeftBrace ∷ Each so.Case ∷ Fixed si.RightBrace ∷ []
form_of ki.Case = Fixed si.Case ∷ Optional so.Pattern ∷ Fixed si.Arrow ∷ EachFollowed so.Statement si.Semicolon ∷ []
-- "let" name ":" type | "null"
form_of ki.PatternLet = Fixed si.Let ∷ Own ow.Name ∷ Fixed si.Colon ∷ Kid so.Type ∷ []
form_of ki.PatternNull = Fixed si.Null ∷ []
-- "switch" "(" expr ")" "{" {"case" [list(expr)] "=>" {stmt ";"}} "}"
form_of ki.Switch =
    Fixed si.Switch ∷ Fixed si.LeftParen ∷ Kid expr ∷ Fixed si.RightParen ∷ Fixed si.LeftBrace ∷ Each so.SwitchCase ∷ Fixed si.RightBrace ∷
    []
form_of ki.SwitchCase =
    Fixed si.Case ∷ Optional so.Values ∷ Fixed si.Arrow ∷ EachFollowed so.Statement si.Semicolon ∷ []
form_of ki.Values = Kid expr ∷ More expr ∷ []
