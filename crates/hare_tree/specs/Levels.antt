-- Which kinds and operators may stand where: the sorts of kids, and how tightly operators bind.
use Rattle.std.specs.Prelude.{ℕ, ◌+◌, List, [], ◌∷◌, codes, Bool, true, false, ◌||◌, nat_le, if◌then◌else◌}
use Rattle.hare_tree.specs.declared.kind.Kind.{Kind}
use Rattle.hare_tree.specs.declared.kind.Kind.TheVariants as ki
use Rattle.hare_tree.specs.declared.form.Sort.{Sort}
use Rattle.hare_tree.specs.declared.form.Sort.TheVariants as so
use Rattle.hare_tree.specs.Words.{is_word, is_listed, keywords, is_left_out}

-- ---- operators

-- the operators of a kind
abbrev pub operators : Kind → List (List ℕ)
operators ki.Arith = codes "*" ∷ codes "/" ∷ codes "%" ∷ codes "+" ∷ codes "-" ∷ codes "&" ∷ codes "^" ∷ codes "|" ∷ []
operators ki.Shift = codes "<<" ∷ codes ">>" ∷ []
operators ki.Less = codes "<" ∷ codes "<=" ∷ codes ">" ∷ codes ">=" ∷ []
operators ki.Equal = codes "==" ∷ codes "!=" ∷ []
operators ki.Logic = codes "&&" ∷ codes "^^" ∷ codes "||" ∷ []
operators ki.OpAssign =
    codes "+=" ∷ codes "-=" ∷ codes "*=" ∷ codes "/=" ∷ codes "%=" ∷ codes "<<=" ∷ codes ">>=" ∷ codes "&=" ∷ codes "|=" ∷ codes "^=" ∷ []
operators _ = []

-- How tightly a binary operator binds, from `||` up: `* / %`; `+ -`; `<< >>`; `&`; `^`; `|`; `< <= > >=`; `== !=`; `&&`; `^^`; `||`.
abbrev pub operator_level : List ℕ → ℕ
operator_level x =
    if is_listed (codes "*" ∷ codes "/" ∷ codes "%" ∷ []) x then 12
    else if is_listed (codes "+" ∷ codes "-" ∷ []) x then 11
    else if is_listed (operators ki.Shift) x then 10
    else if is_listed (codes "&" ∷ []) x then 9
    else if is_listed (codes "^" ∷ []) x then 8
    else if is_listed (codes "|" ∷ []) x then 7
    else if is_listed (operators ki.Less) x then 6
    else if is_listed (operators ki.Equal) x then 5
    else if is_listed (codes "&&" ∷ []) x then 4
    else if is_listed (codes "^^" ∷ []) x then 3
    else 2

-- How tightly an expression binds: 16 what is whole by itself, 15 postfix forms, 14 prefix operators, 13 casts, 12 to 2 binary operators, 1
-- all other expressions, and 0 what is none.
abbrev pub level : Kind → List ℕ → ℕ
level ki.Assign x = 1
level ki.OpAssign x = 1
level ki.If x = 1
level ki.For x = 1
level ki.ForEach x = 1
level ki.Break x = 1
level ki.Continue x = 1
level ki.Return x = 1
level ki.Yield x = 1
level ki.Arith x = operator_level x
level ki.Shift x = operator_level x
level ki.Less x = operator_level x
level ki.Equal x = operator_level x
level ki.Logic x = operator_level x
level ki.Cast x = 13
level ki.As x = 13
level ki.Is x = 13
level ki.Neg x = 14
level ki.Not x = 14
level ki.Bang x = 14
level ki.Deref x = 14
level ki.Addr x = 14
level ki.Call x = 15
level ki.Index x = 15
level ki.Slice x = 15
level ki.Field x = 15
level ki.Try x = 15
level ki.Force x = 15
level ki.Number x = 16
level ki.RuneLit x = 16
level ki.Str x = 16
level ki.Bool x = 16
level ki.Null x = 16
level ki.Void x = 16
level ki.Path x = 16
level ki.Paren x = 16
level ki.Free x = 16
level ki.Delete x = 16
level ki.Len x = 16
level ki.Offset x = 16
level ki.Size x = 16
level ki.Align x = 16
level ki.StructLit x = 16
level ki.Tuple x = 16
level ki.Array x = 16
level ki.Alloc x = 16
level ki.Append x = 16
level ki.Abort x = 16
level ki.Assert x = 16
level ki.Block x = 16
level ki.Match x = 16
level ki.Switch x = 16
level _ x = 0

-- ---- sorts

-- a type without `!` before it
abbrev pub is_bare_type : Kind → Bool
is_bare_type ki.TypeScalar = true
is_bare_type ki.TypePath = true
is_bare_type ki.TypePointer = true
is_bare_type ki.TypeNullable = true
is_bare_type ki.TypeSlice = true
is_bare_type ki.TypeArray = true
is_bare_type ki.TypeStruct = true
is_bare_type ki.TypeTuple = true
is_bare_type ki.TypeUnion = true
is_bare_type _ = false

abbrev pub is_type : Kind → Bool
is_type ki.TypeError = true
is_type k = is_bare_type k

-- a name, no keyword and no word left out of the language; `nomem` is a name behind `::`
abbrev pub is_name : Bool → List ℕ → Bool
is_name behind_path s = if is_listed keywords s || is_left_out behind_path s then false else is_word s

-- Whether a kind with this text is of the sort. Left and Right say nothing by themselves: the level of the operator gives them a meaning.
abbrev pub admits : Sort → Kind → List ℕ → Bool
admits so.Use ki.Use x = true
admits so.Use ki.UseAlias x = true
admits so.Use ki.UseNames x = true
admits so.Use _ x = false
admits so.Decl ki.Def x = true
admits so.Decl ki.GlobalLet x = true
admits so.Decl ki.GlobalConst x = true
admits so.Decl ki.TypeDecl x = true
admits so.Decl ki.Fn x = true
admits so.Decl _ x = false
admits so.ImportPath ki.ImportPath x = true
admits so.ImportPath _ x = false
admits so.Name ki.Name x = is_name false x
admits so.Name _ x = false
admits so.PathName ki.Name x = true
admits so.PathName _ x = false
admits so.Export ki.Export x = true
admits so.Export _ x = false
admits so.Params ki.Params x = true
admits so.Params _ x = false
admits so.Param ki.Param x = true
admits so.Param _ x = false
admits so.StructField ki.StructField x = true
admits so.StructField _ x = false
admits so.Dots ki.Dots x = true
admits so.Dots _ x = false
admits so.ByRef ki.ByRef x = true
admits so.ByRef _ x = false
admits so.Type k x = is_type k
admits so.BareType k x = is_bare_type k
admits so.Member ki.Spread x = true
admits so.Member k x = is_type k
admits so.TypePath ki.TypePath x = true
admits so.TypePath _ x = false
admits so.Length ki.Number x = true
admits so.Length ki.Path x = true
admits so.Length _ x = false
admits so.Message ki.Message x = true
admits so.Message _ x = false
admits (so.Level n) k x = nat_le n (level k x)
admits so.Left k x = false
admits so.Right k x = false
admits so.FieldValue ki.FieldValue x = true
admits so.FieldValue _ x = false
admits so.Let ki.Let x = true
admits so.Let _ x = false
admits so.Binding ki.Binding x = true
admits so.Binding _ x = false
admits so.Statement ki.Let x = true
admits so.Statement ki.Const x = true
admits so.Statement ki.Defer x = true
admits so.Statement k x = nat_le 1 (level k x)
admits so.Pattern ki.PatternLet x = true
admits so.Pattern ki.PatternNull x = true
admits so.Pattern k x = is_type k
admits so.Case ki.Case x = true
admits so.Case _ x = false
admits so.SwitchCase ki.SwitchCase x = true
admits so.SwitchCase _ x = false
admits so.Values ki.Values x = true
admits so.Values _ x = false

-- the sort of a kid of a node with this level
abbrev pub sort_in : ℕ → Sort → Sort
sort_in n so.Left = so.Level n
sort_in n so.Right = so.Level (n + 1)
sort_in n s = s
