-- Rows of types.
use Rattle.std.specs.Prelude.{[], ◌∷◌}
use Rattle.hare_tree.specs.declared.kind.Kind.{Kind}
use Rattle.hare_tree.specs.declared.kind.Kind.TheVariants as ki
use Rattle.hare_tree.specs.declared.form.Sign.TheVariants as si
use Rattle.hare_automaton.specs.declared.class.Class.{Class}
use Rattle.hare_automaton.specs.declared.class.Class.TheVariants as cl
use Rattle.hare_automaton.specs.declared.rule.Rule.TheVariants as ru
use Rattle.hare_automaton.specs.declared.rule.Change.TheVariants as ch
use Rattle.hare_automaton.specs.Rows.{Row, Fault, Skips, Uses, part, before, rest_of, opens, leaf, path}

abbrev pub bare_row : Class → Row
bare_row cl.Scalar = leaf ki.TypeScalar
bare_row cl.Name = path ki.TypePath
bare_row (cl.Sign si.Size) = leaf ki.TypeScalar
bare_row (cl.Sign si.Void) = leaf ki.TypeScalar
bare_row (cl.Sign si.Star) = opens ki.TypePointer
bare_row (cl.Sign si.Nullable) = opens ki.TypeNullable
bare_row (cl.Sign si.Struct) = opens ki.TypeStruct
bare_row (cl.Sign si.LeftBracket) = Uses (ch.Open ∷ []) (part ru.InBracket ∷ [])
bare_row (cl.Sign si.LeftParen) = Uses (ch.Open ∷ []) (part ru.FirstMember ∷ [])
bare_row _ = Fault

abbrev pub type_row : Class → Row
type_row (cl.Sign si.Bang) = opens ki.TypeError
type_row c = bare_row c

abbrev pub member_row : Class → Row
member_row (cl.Sign si.Dots) = opens ki.Spread
member_row c = type_row c

abbrev pub type_path_row : Class → Row
type_path_row cl.Name = path ki.TypePath
type_path_row _ = Fault

abbrev pub length_row : Class → Row
length_row cl.Number = leaf ki.Number
length_row cl.Name = path ki.Path
length_row _ = Fault

-- ---- behind a bracket or a parenthesis

-- `[]` is a slice, and a length an array
abbrev pub bracket_row : Class → Row
bracket_row (cl.Sign si.RightBracket) = Uses [] (rest_of 2 ki.TypeSlice)
bracket_row c = before (length_row c) (rest_of 2 ki.TypeArray)

-- a spread is a member of a union
abbrev pub first_row : Class → Row
first_row (cl.Sign si.Dots) = before (opens ki.Spread) (part ru.AfterSpread ∷ [])
first_row c = before (type_row c) (part ru.AfterType ∷ [])

abbrev pub spread_row : Class → Row
spread_row (cl.Sign si.Bar) = Uses [] (rest_of 3 ki.TypeUnion)
spread_row _ = Fault

-- a comma makes a tuple, and a bar a union
abbrev pub after_row : Class → Row
after_row (cl.Sign si.Comma) = Uses [] (rest_of 3 ki.TypeTuple)
after_row c = spread_row c

-- ---- paths

abbrev pub path_name_row : Class → Row
path_name_row cl.Name = Uses (ch.Join ∷ []) []
path_name_row cl.PathWord = Uses (ch.Join ∷ []) []
path_name_row _ = Fault

abbrev pub path_rest_row : Kind → Class → Row
path_rest_row k (cl.Sign si.PathMark) = Uses (ch.Join ∷ []) (part ru.PathName ∷ part (ru.PathRest k) ∷ [])
path_rest_row k _ = Skips (ch.Close k ∷ [])
