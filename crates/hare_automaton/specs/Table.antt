-- The whole table: what each rule does at each class of token.
use Rattle.std.specs.Prelude.{[], ◌∷◌}
use Rattle.hare_tree.specs.declared.kind.Kind.TheVariants as ki
use Rattle.hare_tree.specs.declared.form.Sign.TheVariants as si
use Rattle.hare_tree.specs.declared.form.Own.{Own}
use Rattle.hare_tree.specs.declared.form.Own.TheVariants as ow
use Rattle.hare_tree.specs.declared.form.Sort.{Sort}
use Rattle.hare_automaton.specs.declared.class.Class.{Class}
use Rattle.hare_automaton.specs.declared.class.Class.TheVariants as cl
use Rattle.hare_automaton.specs.declared.rule.Rule.{Rule}
use Rattle.hare_automaton.specs.declared.rule.Rule.TheVariants as ru
use Rattle.hare_automaton.specs.declared.rule.Symbol.TheVariants as sy
use Rattle.hare_automaton.specs.declared.rule.Change.TheVariants as ch
use Rattle.hare_automaton.specs.Rows.{Row, Fault, Skips, Uses, of, part, before, led_by, or_skips, at_sign}
use Rattle.hare_automaton.specs.TypeRows.{bracket_row, first_row, after_row, spread_row, path_name_row, path_rest_row}
use Rattle.hare_automaton.specs.ExpressionRows.{level_row, climb_row, path_or_struct_row, after_value_row, in_index_row, after_index_row, after_yield_row, for_head_row, after_for_name_row}
use Rattle.hare_automaton.specs.DeclarationRows.{of_row, decl_word_row, use_start_row, after_use_name_row, after_use_mark_row, after_use_part_row}

-- ---- a tree's own text

-- the token is the text
abbrev pub takes : Row
takes = Uses (ch.Take ∷ []) []

-- Behind the first token only names, labels and members stand by themselves; all other texts belong to the rows above.
abbrev pub own_row : Own → Class → Row
own_row ow.Name cl.Name = takes
own_row ow.Member cl.Name = takes
own_row ow.Member cl.Number = takes
own_row ow.Label (cl.Sign si.Colon) = Uses [] (part (ru.Own ow.Name) ∷ [])
own_row ow.Label _ = Skips []
own_row _ _ = Fault

-- ---- lists

-- behind a comma, where a tree was begun that is a trailing comma unless another item follows
abbrev pub more_row : Sort → Class → Row
more_row s c = at_sign si.Comma c (Uses (ch.Open ∷ []) (part (ru.BehindComma s) ∷ [])) (Skips (ch.Absent ∷ []))

abbrev pub behind_comma_row : Sort → Class → Row
behind_comma_row s c = or_skips (led_by (ch.Drop ∷ []) (before (of_row s c) (part (ru.More s) ∷ []))) (ch.Close ki.TrailingComma ∷ [])

-- the elements of an array end with two kids: `...` or None, and a trailing comma or None
abbrev pub more_elements_row : Class → Row
more_elements_row (cl.Sign si.Comma) = Uses (ch.Open ∷ ch.Absent ∷ ch.Open ∷ []) (part ru.BehindElementComma ∷ [])
more_elements_row (cl.Sign si.Dots) = Uses (ch.Mark ki.Dots ∷ []) (part ru.LastComma ∷ [])
more_elements_row _ = Skips (ch.Absent ∷ ch.Absent ∷ [])

abbrev pub behind_element_comma_row : Class → Row
behind_element_comma_row c =
    or_skips (led_by (ch.Drop ∷ ch.Drop ∷ []) (before (level_row 1 c) (part ru.MoreElements ∷ [])))
    (ch.Close ki.TrailingComma ∷ ch.Lift ∷ [])

abbrev pub last_comma_row : Class → Row
last_comma_row (cl.Sign si.Comma) = Uses (ch.Mark ki.TrailingComma ∷ []) []
last_comma_row _ = Skips (ch.Absent ∷ [])

-- ---- all rules

abbrev pub row : Rule → Class → Row
row (ru.Of s) c = of_row s c
row (ru.Own o) c = own_row o c
row (ru.Optional s) c = or_skips (of_row s c) (ch.Absent ∷ [])
row (ru.Led a s) c = at_sign a c (Uses [] (of s ∷ [])) (Skips (ch.Absent ∷ []))
row (ru.Each s) c = or_skips (before (of_row s c) (part (ru.Each s) ∷ [])) []
row (ru.EachLed a s) c = at_sign a c (Uses [] (of s ∷ part (ru.EachLed a s) ∷ [])) (Skips [])
row (ru.EachFollowed s a) c = or_skips (before (of_row s c) (sy.Want a ∷ part (ru.EachFollowed s a) ∷ [])) []
row (ru.List s) c = or_skips (before (of_row s c) (part (ru.More s) ∷ [])) (ch.Absent ∷ [])
row (ru.More s) c = more_row s c
row (ru.BehindComma s) c = behind_comma_row s c
row ru.Elements c = or_skips (before (level_row 1 c) (part ru.MoreElements ∷ [])) (ch.Absent ∷ ch.Absent ∷ [])
row ru.MoreElements c = more_elements_row c
row ru.BehindElementComma c = behind_element_comma_row c
row ru.LastComma c = last_comma_row c
row (ru.PathRest k) c = path_rest_row k c
row ru.PathOrStruct c = path_or_struct_row c
row ru.PathName c = path_name_row c
row ru.InBracket c = bracket_row c
row ru.FirstMember c = first_row c
row ru.AfterType c = after_row c
row ru.AfterSpread c = spread_row c
row (ru.Climb l h) c = climb_row l h c
row ru.AfterValue c = after_value_row c
row ru.InIndex c = in_index_row c
row ru.AfterIndex c = after_index_row c
row ru.AfterYield c = after_yield_row c
row ru.ForHead c = for_head_row c
row ru.AfterForName c = after_for_name_row c
row ru.DeclWord c = decl_word_row c
row ru.UseStart c = use_start_row c
row ru.AfterUseName c = after_use_name_row c
row ru.AfterUseMark c = after_use_mark_row c
row ru.AfterUsePart c = after_use_part_row c
