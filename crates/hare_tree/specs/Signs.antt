-- The keywords and marks that forms always have, with their spelling.
use Rattle.std.specs.Prelude.{ℕ, List, codes, Bool, bytes_eq}
use Rattle.hare_tree.specs.declared.token.TokenKind.{TokenKind}
use Rattle.hare_tree.specs.declared.token.TokenKind.TheVariants.{Keyword, Mark}
use Rattle.hare_tree.specs.declared.form.Sign.{Sign}
use Rattle.hare_tree.specs.declared.form.Sign.TheVariants as si

abbrev pub sign_word : Sign → List ℕ
sign_word si.Abort = codes "abort"
sign_word si.Align = codes "align"
sign_word si.Alloc = codes "alloc"
sign_word si.Append = codes "append"
sign_word si.As = codes "as"
sign_word si.Assert = codes "assert"
sign_word si.Break = codes "break"
sign_word si.Case = codes "case"
sign_word si.Const = codes "const"
sign_word si.Continue = codes "continue"
sign_word si.Def = codes "def"
sign_word si.Defer = codes "defer"
sign_word si.Delete = codes "delete"
sign_word si.Else = codes "else"
sign_word si.Export = codes "export"
sign_word si.Fn = codes "fn"
sign_word si.For = codes "for"
sign_word si.Free = codes "free"
sign_word si.If = codes "if"
sign_word si.Is = codes "is"
sign_word si.Len = codes "len"
sign_word si.Let = codes "let"
sign_word si.Match = codes "match"
sign_word si.Null = codes "null"
sign_word si.Nullable = codes "nullable"
sign_word si.Offset = codes "offset"
sign_word si.Return = codes "return"
sign_word si.Size = codes "size"
sign_word si.Struct = codes "struct"
sign_word si.Switch = codes "switch"
sign_word si.Type = codes "type"
sign_word si.Use = codes "use"
sign_word si.Void = codes "void"
sign_word si.Yield = codes "yield"
sign_word si.Bang = codes "!"
sign_word si.Ampersand = codes "&"
sign_word si.LeftParen = codes "("
sign_word si.RightParen = codes ")"
sign_word si.Star = codes "*"
sign_word si.Comma = codes ","
sign_word si.Minus = codes "-"
sign_word si.Dot = codes "."
sign_word si.DotDot = codes ".."
sign_word si.Dots = codes "..."
sign_word si.Colon = codes ":"
sign_word si.PathMark = codes "::"
sign_word si.Semicolon = codes ";"
sign_word si.Equals = codes "="
sign_word si.Arrow = codes "=>"
sign_word si.Question = codes "?"
sign_word si.LeftBracket = codes "["
sign_word si.RightBracket = codes "]"
sign_word si.LeftBrace = codes "{"
sign_word si.Bar = codes "|"
sign_word si.RightBrace = codes "}"
sign_word si.Tilde = codes "~"

-- a keyword, or a mark
abbrev pub sign_kind : Sign → TokenKind
sign_kind si.Bang = Mark
sign_kind si.Ampersand = Mark
sign_kind si.LeftParen = Mark
sign_kind si.RightParen = Mark
sign_kind si.Star = Mark
sign_kind si.Comma = Mark
sign_kind si.Minus = Mark
sign_kind si.Dot = Mark
sign_kind si.DotDot = Mark
sign_kind si.Dots = Mark
sign_kind si.Colon = Mark
sign_kind si.PathMark = Mark
sign_kind si.Semicolon = Mark
sign_kind si.Equals = Mark
sign_kind si.Arrow = Mark
sign_kind si.Question = Mark
sign_kind si.LeftBracket = Mark
sign_kind si.RightBracket = Mark
sign_kind si.LeftBrace = Mark
sign_kind si.Bar = Mark
sign_kind si.RightBrace = Mark
sign_kind si.Tilde = Mark
sign_kind _ = Keyword

-- the two signs are one: no two have one spelling
abbrev pub is_sign : Sign → Sign → Bool
is_sign a b = bytes_eq (sign_word a) (sign_word b)
