-- Rows of imports, declarations, statements and patterns, and of the parts of other trees.
use Rattle.std.specs.Prelude.{[], ◌∷◌}
use Rattle.hare_tree.specs.declared.kind.Kind.{Kind}
use Rattle.hare_tree.specs.declared.kind.Kind.TheVariants as ki
use Rattle.hare_tree.specs.declared.form.Sign.TheVariants as si
use Rattle.hare_tree.specs.declared.form.Sort.{Sort}
use Rattle.hare_tree.specs.declared.form.Sort.TheVariants as so
use Rattle.hare_automaton.specs.declared.class.Class.{Class}
use Rattle.hare_automaton.specs.declared.class.Class.TheVariants as cl
use Rattle.hare_automaton.specs.declared.rule.Rule.TheVariants as ru
use Rattle.hare_automaton.specs.declared.rule.Change.TheVariants as ch
use Rattle.hare_automaton.specs.Rows.{Row, Fault, Uses, part, before, led_by, rest_of, opens, leaf, mark, names}
use Rattle.hare_automaton.specs.TypeRows.{bare_row, type_row, member_row, type_path_row, length_row}
use Rattle.hare_automaton.specs.ExpressionRows.{level_row}

-- ---- imports

abbrev pub use_row : Class → Row
use_row (cl.Sign si.Use) = Uses (ch.Open ∷ []) (part ru.UseStart ∷ [])
use_row _ = Fault

-- the first name of a path, or the name of an alias
abbrev pub use_start_row : Class → Row
use_start_row cl.Name = Uses (ch.Open ∷ ch.Leaf ki.Name ∷ []) (part ru.AfterUseName ∷ [])
use_start_row _ = Fault

-- behind a name of the path
abbrev pub after_use_part_row : Class → Row
after_use_part_row (cl.Sign si.PathMark) = Uses [] (part ru.AfterUseMark ∷ [])
after_use_part_row (cl.Sign si.Semicolon) = Uses (ch.Close ki.ImportPath ∷ ch.Close ki.Use ∷ []) []
after_use_part_row _ = Fault

-- `=` makes the name an alias
abbrev pub after_use_name_row : Class → Row
after_use_name_row (cl.Sign si.Equals) = Uses (ch.Lift ∷ []) (rest_of 3 ki.UseAlias)
after_use_name_row c = after_use_part_row c

-- `{` begins the names that are imported
abbrev pub after_use_mark_row : Class → Row
after_use_mark_row cl.Name = Uses (ch.Leaf ki.Name ∷ []) (part ru.AfterUsePart ∷ [])
after_use_mark_row cl.PathWord = Uses (ch.Leaf ki.Name ∷ []) (part ru.AfterUsePart ∷ [])
after_use_mark_row (cl.Sign si.LeftBrace) = Uses (ch.Close ki.ImportPath ∷ []) (rest_of 4 ki.UseNames)
after_use_mark_row _ = Fault

abbrev pub import_path_row : Class → Row
import_path_row cl.Name = Uses (ch.Open ∷ ch.Leaf ki.Name ∷ []) (rest_of 1 ki.ImportPath)
import_path_row _ = Fault

-- ---- declarations

-- the word of a declaration
abbrev pub decl_word_row : Class → Row
decl_word_row (cl.Sign si.Def) = Uses [] (rest_of 2 ki.Def)
decl_word_row (cl.Sign si.Let) = Uses [] (rest_of 2 ki.GlobalLet)
decl_word_row (cl.Sign si.Const) = Uses [] (rest_of 2 ki.GlobalConst)
decl_word_row (cl.Sign si.Type) = Uses [] (rest_of 2 ki.TypeDecl)
decl_word_row (cl.Sign si.Fn) = Uses [] (rest_of 2 ki.Fn)
decl_word_row _ = Fault

abbrev pub decl_row : Class → Row
decl_row (cl.Sign si.Export) = Uses (ch.Open ∷ ch.Mark ki.Export ∷ []) (part ru.DeclWord ∷ [])
decl_row c = led_by (ch.Open ∷ ch.Absent ∷ []) (decl_word_row c)

-- ---- small parts

abbrev pub name_row : Class → Row
name_row cl.Name = leaf ki.Name
name_row _ = Fault

abbrev pub further_name_row : Class → Row
further_name_row cl.Name = leaf ki.Name
further_name_row cl.PathWord = leaf ki.Name
further_name_row _ = Fault

abbrev pub named_row : Kind → Class → Row
named_row k cl.Name = names k
named_row k _ = Fault

abbrev pub message_row : Class → Row
message_row cl.Text = leaf ki.Message
message_row _ = Fault

abbrev pub export_row : Class → Row
export_row (cl.Sign si.Export) = mark ki.Export
export_row _ = Fault

abbrev pub dots_row : Class → Row
dots_row (cl.Sign si.Dots) = mark ki.Dots
dots_row _ = Fault

abbrev pub by_ref_row : Class → Row
by_ref_row (cl.Sign si.Ampersand) = mark ki.ByRef
by_ref_row _ = Fault

abbrev pub params_row : Class → Row
params_row (cl.Sign si.LeftParen) = opens ki.Params
params_row _ = Fault

-- ---- statements and patterns

abbrev pub let_row : Class → Row
let_row (cl.Sign si.Let) = opens ki.Let
let_row _ = Fault

abbrev pub binding_row : Class → Row
binding_row (cl.Sign si.Let) = opens ki.Binding
binding_row _ = Fault

abbrev pub statement_row : Class → Row
statement_row (cl.Sign si.Let) = opens ki.Let
statement_row (cl.Sign si.Const) = opens ki.Const
statement_row (cl.Sign si.Defer) = opens ki.Defer
statement_row c = level_row 1 c

abbrev pub pattern_row : Class → Row
pattern_row (cl.Sign si.Let) = opens ki.PatternLet
pattern_row (cl.Sign si.Null) = mark ki.PatternNull
pattern_row c = type_row c

abbrev pub case_row : Class → Row
case_row (cl.Sign si.Case) = opens ki.Case
case_row _ = Fault

abbrev pub switch_case_row : Class → Row
switch_case_row (cl.Sign si.Case) = opens ki.SwitchCase
switch_case_row _ = Fault

-- the values begin with the first of them
abbrev pub values_row : Class → Row
values_row c = led_by (ch.Open ∷ []) (before (level_row 1 c) (rest_of 1 ki.Values))

-- ---- all sorts

abbrev pub of_row : Sort → Class → Row
of_row so.Use c = use_row c
of_row so.Decl c = decl_row c
of_row so.ImportPath c = import_path_row c
of_row so.Name c = name_row c
of_row so.PathName c = further_name_row c
of_row so.Export c = export_row c
of_row so.Params c = params_row c
of_row so.Param c = named_row ki.Param c
of_row so.StructField c = named_row ki.StructField c
of_row so.Dots c = dots_row c
of_row so.ByRef c = by_ref_row c
of_row so.Type c = type_row c
of_row so.BareType c = bare_row c
of_row so.Member c = member_row c
of_row so.TypePath c = type_path_row c
of_row so.Length c = length_row c
of_row so.Message c = message_row c
of_row (so.Level n) c = level_row n c
of_row so.Left c = Fault
of_row so.Right c = Fault
of_row so.FieldValue c = named_row ki.FieldValue c
of_row so.Let c = let_row c
of_row so.Binding c = binding_row c
of_row so.Statement c = statement_row c
of_row so.Pattern c = pattern_row c
of_row so.Case c = case_row c
of_row so.SwitchCase c = switch_case_row c
of_row so.Values c = values_row c
