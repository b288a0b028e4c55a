-- Tokens that bring each rule to its end, and in front of which classes they do so.
use Rattle.std.proofs.Common.{◌≡◌, ℕ, List, [], ◌∷◌, ◌++◌, Bool, true, false, ◌&&◌, not, codes, refl, ap, arith, if◌then◌else◌}
use Rattle.std.specs.Prelude.{nat_le}
use Rattle.hare_tree.specs.declared.token.Suffix.TheVariants as suffix
use Rattle.hare_tree.specs.declared.token.TokenKind.TheVariants as tk
use Rattle.hare_tree.specs.declared.token.Token.{Token}
use Rattle.hare_tree.specs.declared.form.Sign.{Sign}
use Rattle.hare_tree.specs.declared.form.Sign.TheVariants as si
use Rattle.hare_tree.specs.declared.form.Own.TheVariants as ow
use Rattle.hare_tree.specs.declared.form.Sort.{Sort}
use Rattle.hare_tree.specs.declared.form.Sort.TheVariants as so
use Rattle.hare_tree.specs.Spell.{start_of, word_token, sign_token}
use Rattle.hare_automaton.specs.declared.class.Class.{Class}
use Rattle.hare_automaton.specs.declared.class.Class.TheVariants as cl
use Rattle.hare_automaton.specs.declared.rule.Rule.{Rule}
use Rattle.hare_automaton.specs.declared.rule.Rule.TheVariants as ru
use Rattle.hare_automaton.specs.declared.rule.Symbol.{Symbol}
use Rattle.hare_automaton.specs.declared.rule.Symbol.TheVariants as sy
use Rattle.hare_automaton.specs.Classes.{class_of}
use Rattle.hare_automaton.specs.Rows.{Row, Fault, Skips, Uses, part, before, has_sign}
use Rattle.hare_automaton.specs.ExpressionRows.{start_row, start_level, level_row}
use Rattle.hare_automaton.specs.DeclarationRows.{of_row}
use Rattle.hare_automaton.proofs.Machine.Edges.{pull, true_le}
use Rattle.hare_automaton.proofs.Spelled.Openers.{quiet_colon}

-- ---- tokens for every symbol

abbrev pub sign : Sign → Token
sign d = sign_token 0 d

abbrev pub name_token : Token
name_token = word_token 0 tk.Name (codes "a")

abbrev pub scalar_token : Token
scalar_token = word_token 0 tk.Keyword (codes "int")

abbrev pub text_token : Token
text_token = word_token 0 tk.Str []

abbrev pub number_token : Token
number_token = record { kind = tk.Number; place = start_of 0; text = codes "5"; number = 5; suffix = suffix.None }

-- a shortest tree of a sort
abbrev pub ending_of : Sort → List Token
ending_of so.Type = scalar_token ∷ []
ending_of so.BareType = scalar_token ∷ []
ending_of so.Member = scalar_token ∷ []
ending_of so.TypePath = name_token ∷ []
ending_of so.Length = number_token ∷ []
ending_of so.Message = text_token ∷ []
ending_of (so.Level l) = number_token ∷ []
ending_of so.Statement = number_token ∷ []
ending_of so.Values = number_token ∷ []
ending_of so.Name = name_token ∷ []
ending_of so.PathName = name_token ∷ []
ending_of so.ImportPath = name_token ∷ []
ending_of so.Export = sign si.Export ∷ []
ending_of so.Dots = sign si.Dots ∷ []
ending_of so.ByRef = sign si.Ampersand ∷ []
ending_of so.Pattern = sign si.Null ∷ []
ending_of so.Params = sign si.LeftParen ∷ sign si.RightParen ∷ []
ending_of so.Param = name_token ∷ sign si.Colon ∷ scalar_token ∷ []
ending_of so.StructField = name_token ∷ sign si.Colon ∷ scalar_token ∷ []
ending_of so.FieldValue = name_token ∷ sign si.Equals ∷ number_token ∷ []
ending_of so.Let = sign si.Let ∷ name_token ∷ sign si.Equals ∷ number_token ∷ []
ending_of so.Binding = sign si.Let ∷ name_token ∷ sign si.DotDot ∷ []
ending_of so.Case = sign si.Case ∷ sign si.Arrow ∷ []
ending_of so.SwitchCase = sign si.Case ∷ sign si.Arrow ∷ []
ending_of so.Use = sign si.Use ∷ name_token ∷ sign si.Semicolon ∷ []
ending_of so.Decl = sign si.Type ∷ name_token ∷ sign si.Equals ∷ scalar_token ∷ sign si.Semicolon ∷ []
ending_of so.Left = []
ending_of so.Right = []

-- a message is left out, and other kids with a sign before them are put
abbrev pub led_ending : Sign → Sort → List Token
led_ending a so.Message = []
led_ending a s = sign a ∷ ending_of s

abbrev pub ending : Rule → List Token
ending (ru.Of s) = ending_of s
ending (ru.Own ow.Name) = name_token ∷ []
ending (ru.Own ow.Member) = name_token ∷ []
ending (ru.Led a s) = led_ending a s
ending ru.PathName = name_token ∷ []
ending ru.InBracket = sign si.RightBracket ∷ scalar_token ∷ []
ending ru.FirstMember = scalar_token ∷ sign si.Comma ∷ scalar_token ∷ sign si.RightParen ∷ []
ending ru.AfterType = sign si.Comma ∷ scalar_token ∷ sign si.RightParen ∷ []
ending ru.AfterSpread = sign si.Bar ∷ scalar_token ∷ sign si.RightParen ∷ []
ending ru.AfterValue = sign si.RightParen ∷ []
ending ru.InIndex = number_token ∷ sign si.RightBracket ∷ []
ending ru.AfterIndex = sign si.RightBracket ∷ []
ending ru.AfterYield = number_token ∷ []
ending ru.ForHead = number_token ∷ sign si.RightParen ∷ number_token ∷ []
ending ru.AfterForName = sign si.DotDot ∷ number_token ∷ sign si.RightParen ∷ number_token ∷ []
ending ru.DeclWord = sign si.Type ∷ name_token ∷ sign si.Equals ∷ scalar_token ∷ sign si.Semicolon ∷ []
ending ru.UseStart = name_token ∷ sign si.Semicolon ∷ []
ending ru.AfterUseName = sign si.Semicolon ∷ []
ending ru.AfterUseMark = name_token ∷ sign si.Semicolon ∷ []
ending ru.AfterUsePart = sign si.Semicolon ∷ []
ending _ = []

abbrev pub closing : List Symbol → List Token
closing [] = []
closing (sy.Close k ∷ st) = closing st
closing (sy.Want d ∷ st) = sign d ∷ closing st
closing (sy.Part n ∷ st) = ending n ++ closing st

-- ---- where those tokens may stand

-- what ends an expression
abbrev pub quiet : Class → Bool
quiet c = nat_le (pull c) 0

-- what ends a list
abbrev pub ender : Class → Bool
ender (cl.Sign si.RightParen) = true
ender (cl.Sign si.RightBracket) = true
ender (cl.Sign si.RightBrace) = true
ender (cl.Sign si.Arrow) = true
ender (cl.Sign si.Semicolon) = true
ender cl.Junk = true
ender _ = false

abbrev pub no_mark : Class → Bool
no_mark c = not (has_sign si.PathMark c)

abbrev pub is_fault : Row → Bool
is_fault Fault = true
is_fault (Skips cs) = false
is_fault (Uses cs ss) = false

-- a shortest tree of the sort ends before the class
abbrev pub sort_ok : Sort → Class → Bool
sort_ok (so.Level l) e = nat_le 1 l && nat_le l 16 && quiet e
sort_ok so.Type e = no_mark e
sort_ok so.BareType e = no_mark e
sort_ok so.Member e = no_mark e
sort_ok so.TypePath e = no_mark e
sort_ok so.Length e = no_mark e
sort_ok so.StructField e = no_mark e
sort_ok so.Param e = no_mark e
sort_ok so.Pattern e = no_mark e
sort_ok so.ImportPath e = no_mark e
sort_ok so.FieldValue e = quiet e
sort_ok so.Let e = quiet e
sort_ok so.Statement e = quiet e
sort_ok so.Values e = ender e
sort_ok so.Case e = ender e
sort_ok so.SwitchCase e = ender e
sort_ok so.Left e = false
sort_ok so.Right e = false
sort_ok _ e = true

abbrev pub led_ok : Sign → Sort → Class → Bool
led_ok a so.Message e = not (has_sign a e)
led_ok a s e = sort_ok s e

-- the rule's tokens end before the class
abbrev pub ok : Rule → Class → Bool
ok (ru.Of s) e = sort_ok s e
ok (ru.Own ow.Name) e = true
ok (ru.Own ow.Member) e = true
ok (ru.Own ow.Label) e = not (has_sign si.Colon e)
ok (ru.Own _) e = false
ok (ru.Optional s) e = is_fault (of_row s e) && sort_ok s e
ok (ru.Led a s) e = led_ok a s e
ok (ru.Each s) e = ender e && sort_ok s e
ok (ru.EachLed a s) e = not (has_sign a e) && sort_ok s e
ok (ru.EachFollowed s a) e = ender e && sort_ok s (cl.Sign a)
ok (ru.List s) e = ender e && sort_ok s e
ok (ru.More s) e = ender e && sort_ok s e
ok (ru.BehindComma s) e = ender e && sort_ok s e
ok ru.Elements e = ender e
ok ru.MoreElements e = ender e
ok ru.BehindElementComma e = ender e
ok ru.LastComma e = ender e
ok (ru.PathRest k) e = no_mark e
ok ru.PathOrStruct e = quiet e
ok ru.InBracket e = no_mark e
ok (ru.Climb l h) e = nat_le 1 l && nat_le l 16 && quiet e
ok ru.AfterYield e = quiet e
ok ru.ForHead e = quiet e
ok ru.AfterForName e = quiet e
ok _ e = true

-- the class of the first of these tokens, or else another
abbrev pub first_class : List Token → Class → Class
first_class [] e = e
first_class (t ∷ ts) e = class_of t

-- the class with which the closing of the stack begins, where `e` stands behind it
abbrev pub next : List Symbol → Class → Class
next [] e = e
next (sy.Close k ∷ st) e = next st e
next (sy.Want d ∷ st) e = cl.Sign d
next (sy.Part n ∷ st) e = first_class (ending n) (next st e)

-- each rule of the stack ends before what follows it
abbrev pub good : List Symbol → Class → Bool
good [] e = true
good (sy.Close k ∷ st) e = good st e
good (sy.Want d ∷ st) e = good st e
good (sy.Part n ∷ st) e = ok n (next st e) && good st e

-- ---- facts of classes

pub not_true : (b : Bool) → not b ≡ true → b ≡ false
not_true false e = refl
not_true true e = cc

pub quiet_mark : (c : Class) → quiet c ≡ true → no_mark c ≡ true
quiet_mark (cl.Sign si.PathMark) e = cc
quiet_mark (cl.Sign _) e = refl
quiet_mark _ e = refl

pub ender_quiet : (c : Class) → ender c ≡ true → quiet c ≡ true
ender_quiet (cl.Sign si.RightParen) e = refl
ender_quiet (cl.Sign si.RightBracket) e = refl
ender_quiet (cl.Sign si.RightBrace) e = refl
ender_quiet (cl.Sign si.Arrow) e = refl
ender_quiet (cl.Sign si.Semicolon) e = refl
ender_quiet (cl.Sign _) e = cc
ender_quiet cl.Junk e = refl
ender_quiet _ e = cc

pub quiet_pull : (c : Class) → quiet c ≡ true → pull c ≡ 0
quiet_pull c e = let x = true_le (pull c) 0 e in omega arith

pub quiet_no_colon : (c : Class) → quiet c ≡ true → has_sign si.Colon c ≡ false
quiet_no_colon c e = quiet_colon c (true_le (pull c) 0 e)

pub ender_comma : (c : Class) → ender c ≡ true → has_sign si.Comma c ≡ false
ender_comma (cl.Sign si.Comma) e = cc
ender_comma (cl.Sign _) e = refl
ender_comma _ e = refl

level_fault : (l : ℕ) (c : Class) → start_row c ≡ Fault → level_row l c ≡ Fault
level_fault l c e = by (nat_le l (start_level c))
  where
    by : (b : Bool) → (if b then before (start_row c) (part (ru.Climb l (start_level c)) ∷ []) else Fault) ≡ Fault
    by true = ap (λ r. before r (part (ru.Climb l (start_level c)) ∷ [])) e
    by false = refl

-- no tree begins with what ends a list
pub ender_fault : (s : Sort) (c : Class) → ender c ≡ true → of_row s c ≡ Fault
ender_fault (so.Level l) (cl.Sign si.RightParen) e = level_fault l (cl.Sign si.RightParen) refl
ender_fault (so.Level l) (cl.Sign si.RightBracket) e = level_fault l (cl.Sign si.RightBracket) refl
ender_fault (so.Level l) (cl.Sign si.RightBrace) e = level_fault l (cl.Sign si.RightBrace) refl
ender_fault (so.Level l) (cl.Sign si.Arrow) e = level_fault l (cl.Sign si.Arrow) refl
ender_fault (so.Level l) (cl.Sign si.Semicolon) e = level_fault l (cl.Sign si.Semicolon) refl
ender_fault (so.Level l) cl.Junk e = level_fault l cl.Junk refl
ender_fault _ (cl.Sign si.RightParen) e = refl
ender_fault _ (cl.Sign si.RightBracket) e = refl
ender_fault _ (cl.Sign si.RightBrace) e = refl
ender_fault _ (cl.Sign si.Arrow) e = refl
ender_fault _ (cl.Sign si.Semicolon) e = refl
ender_fault _ cl.Junk e = refl
ender_fault s (cl.Sign _) e = cc
ender_fault s _ e = cc
