-- The class of a token: all that the grammar sees of it. A token that no tree is spelled by is Junk: a word that is no name, a mark that
-- is none of the language, a number past its range, and what has a number or a suffix where its kind has none.
use Rattle.std.specs.Prelude.{ℕ, List, [], ◌∷◌, codes, Bool, true, false, bytes_eq, if◌then◌else◌}
use Rattle.hare_tree.specs.declared.kind.Kind.TheVariants as ki
use Rattle.hare_tree.specs.declared.token.TokenKind.{TokenKind}
use Rattle.hare_tree.specs.declared.token.TokenKind.TheVariants as tk
use Rattle.hare_tree.specs.declared.token.Token.{Token}
use Rattle.hare_tree.specs.declared.form.Sign.{Sign}
use Rattle.hare_tree.specs.declared.form.Sign.TheVariants as si
use Rattle.hare_tree.specs.declared.form.Own.TheVariants as ow
use Rattle.hare_tree.specs.Node.{Head}
use Rattle.hare_tree.specs.Words.{is_listed}
use Rattle.hare_tree.specs.Signs.{sign_word}
use Rattle.hare_tree.specs.Levels.{operators, operator_level, is_name}
use Rattle.hare_tree.specs.Shape.{is_own, scalars, has_text_alone}
use Rattle.hare_automaton.specs.declared.class.Class.{Class}
use Rattle.hare_automaton.specs.declared.class.Class.TheVariants as cl

-- the keywords that forms have
abbrev pub keyword_signs : List Sign
keyword_signs =
    si.Abort ∷ si.Align ∷ si.Alloc ∷ si.Append ∷ si.As ∷ si.Assert ∷ si.Break ∷ si.Case ∷ si.Const ∷ si.Continue ∷ si.Def ∷ si.Defer ∷
    si.Delete
    ∷ si.Else ∷ si.Export ∷ si.Fn ∷ si.For ∷ si.Free ∷ si.If ∷ si.Is ∷ si.Len ∷ si.Let ∷ si.Match ∷ si.Null ∷ si.Nullable ∷ si.Offset
    ∷ si.Return ∷ si.Size ∷ si.Struct ∷ si.Switch ∷ si.Type ∷ si.Use ∷ si.Void ∷ si.Yield ∷ []

-- the marks that forms have
abbrev pub mark_signs : List Sign
mark_signs =
    si.Bang ∷ si.Ampersand ∷ si.LeftParen ∷ si.RightParen ∷ si.Star ∷ si.Comma ∷ si.Minus ∷ si.Dot ∷ si.DotDot ∷ si.Dots ∷ si.Colon ∷
    si.PathMark
    ∷ si.Semicolon ∷ si.Equals ∷ si.Arrow ∷ si.Question ∷ si.LeftBracket ∷ si.RightBracket ∷ si.LeftBrace ∷ si.Bar ∷ si.RightBrace ∷
    si.Tilde ∷ []

-- the sign of the list with this spelling, or else another class
abbrev pub sign_or : Class → List Sign → List ℕ → Class
sign_or other [] x = other
sign_or other (s ∷ ss) x = if bytes_eq (sign_word s) x then cl.Sign s else sign_or other ss x

-- the binary operators, but those that are signs too
abbrev pub is_binary : List ℕ → Bool
is_binary x =
    if is_listed (operators ki.Arith) x then true
    else if is_listed (operators ki.Shift) x then true
    else if is_listed (operators ki.Less) x then true
    else if is_listed (operators ki.Equal) x then true
    else is_listed (operators ki.Logic) x

-- a keyword that is no sign
abbrev pub word_class : List ℕ → Class
word_class x = if is_listed scalars x then cl.Scalar else if is_listed (codes "true" ∷ codes "false" ∷ []) x then cl.Bool else cl.Junk

-- a mark that is no sign
abbrev pub operator_class : List ℕ → Class
operator_class x = if is_binary x then cl.Binary (operator_level x) else if is_listed (operators ki.OpAssign) x then cl.OpAssign else
    cl.Junk

abbrev pub name_class : List ℕ → Class
name_class x = if is_name false x then cl.Name else if is_name true x then cl.PathWord else cl.Junk

abbrev pub when : Bool → Class → Class
when true c = c
when false c = cl.Junk

-- what a tree of this token alone has
abbrev pub head_of : Token → Head
head_of t = record { kind = ki.None; place = t.place; text = t.text; number = t.number; suffix = t.suffix }

abbrev pub class_in : TokenKind → Head → Class
class_in tk.Name h = when (has_text_alone h) (name_class h.text)
class_in tk.Keyword h = when (has_text_alone h) (sign_or (word_class h.text) keyword_signs h.text)
class_in tk.Number h = when (is_own ow.Number h) cl.Number
class_in tk.Str h = when (is_own ow.Text h) cl.Text
class_in tk.RuneLit h = when (is_own ow.Rune h) cl.Rune
class_in tk.Mark h = when (has_text_alone h) (sign_or (operator_class h.text) mark_signs h.text)
class_in tk.End h = cl.Junk

abbrev pub class_of : Token → Class
class_of t = class_in t.kind (head_of t)
