-- The check of rows holds of the rows of all rules that need nothing of the trees under way.
use Rattle.std.proofs.Common.{◌≡◌, [], ◌∷◌, true, false, refl}
use Rattle.hare_tree.specs.declared.kind.Kind.{Kind}
use Rattle.hare_tree.specs.declared.kind.Kind.TheVariants as ki
use Rattle.hare_tree.specs.declared.form.Sign.TheVariants as si
use Rattle.hare_tree.specs.Depth.{is_node}
use Rattle.hare_tree.specs.Forms.{expr}
use Rattle.hare_automaton.specs.declared.class.Class.{Class}
use Rattle.hare_automaton.specs.declared.class.Class.TheVariants as cl
use Rattle.hare_automaton.specs.declared.rule.Rule.{Rule}
use Rattle.hare_automaton.specs.declared.rule.Rule.TheVariants as ru
use Rattle.hare_automaton.specs.declared.rule.Symbol.TheVariants as sy
use Rattle.hare_automaton.specs.declared.rule.Change.TheVariants as ch
use Rattle.hare_automaton.specs.Rows.{Row, Fault, Skips, Uses, of, part, before, led_by, or_skips, rest_of}
use Rattle.hare_automaton.specs.TypeRows.{type_row, length_row}
use Rattle.hare_automaton.specs.ExpressionRows.{level_row}
use Rattle.hare_automaton.specs.DeclarationRows.{of_row, decl_word_row}
use Rattle.hare_automaton.specs.Table.{row}
use Rattle.hare_nesting.specs.Gauge.{nodes_of_rule, nodes_in}
use Rattle.hare_nesting.proofs.UnderWay.Stacks.{ends_operand, follows}
use Rattle.hare_nesting.proofs.CheckedRows.Slots.{is_plain, uses_ok, row_ok, ends_row}
use Rattle.hare_nesting.proofs.CheckedRows.SlotForms.{same_refl, uses_before, uses_behind, uses_led, uses_row, or_ok, at_ok, ends_append}
use Rattle.hare_nesting.proofs.CheckedRows.SlotForms.{ends_before}
use Rattle.hare_nesting.proofs.CheckedRows.SlotSorts.{type_ok, length_ok, level_ok, word_ok, of_ok}

path_ok : (k : Kind) (c : Class) → row_ok (is_node k ∷ []) (row (ru.PathRest k) c) ≡ true
unfolding nodes_in follows
path_ok k (cl.Sign si.PathMark) = rw (same_refl (is_node k ∷ [])) refl
path_ok k (cl.Sign _) = rw (same_refl (is_node k ∷ [])) refl
path_ok k _ = rw (same_refl (is_node k ∷ [])) refl

pub use_part_ok : (c : Class) → row_ok (false ∷ false ∷ []) (row ru.AfterUsePart c) ≡ true
unfolding nodes_in follows
use_part_ok (cl.Sign si.PathMark) = refl
use_part_ok (cl.Sign si.Semicolon) = refl
use_part_ok (cl.Sign _) = refl
use_part_ok _ = refl

for_ok : (c : Class) → uses_ok (true ∷ []) (row ru.ForHead c) ≡ true
unfolding nodes_in follows
for_ok (cl.Sign si.Let) = refl
for_ok c = uses_led ch.Absent (true ∷ []) (true ∷ []) (before (level_row 1 c) (rest_of 5 ki.For)) refl refl
    (uses_behind (level_row 1 c) (rest_of 5 ki.For) (level_ok 1 c) refl refl)

index_ok : (c : Class) → uses_ok (true ∷ []) (row ru.InIndex c) ≡ true
unfolding nodes_in follows
index_ok (cl.Sign si.DotDot) = refl
index_ok c = uses_before (level_row 1 c) (part ru.AfterIndex) [] (level_ok 1 c) refl refl

pub rule_ok : (r : Rule) (c : Class) → is_plain (sy.Part r) ≡ true → row_ok (nodes_of_rule r) (row r c) ≡ true
unfolding nodes_in follows
rule_ok (ru.Of s) c e = uses_row [] (of_row s c) (of_ok s c)
rule_ok (ru.Own o) c e = cc
rule_ok (ru.Optional s) c e = or_ok [] (of_row s c) (ch.Absent ∷ []) (of_ok s c) refl
rule_ok (ru.Led a s) c e = at_ok [] a c [] (ch.Absent ∷ []) (of s ∷ []) refl refl
rule_ok (ru.Each s) c e = or_ok [] (before (of_row s c) (part (ru.Each s) ∷ [])) []
    (uses_before (of_row s c) (part (ru.Each s)) [] (of_ok s c) refl refl) refl
rule_ok (ru.EachLed a s) c e = at_ok [] a c [] [] (of s ∷ part (ru.EachLed a s) ∷ []) refl refl
rule_ok (ru.EachFollowed s a) c e = or_ok [] (before (of_row s c) (sy.Want a ∷ part (ru.EachFollowed s a) ∷ [])) []
    (uses_before (of_row s c) (sy.Want a) (part (ru.EachFollowed s a) ∷ []) (of_ok s c) refl refl) refl
rule_ok (ru.List s) c e = or_ok [] (before (of_row s c) (part (ru.More s) ∷ [])) (ch.Absent ∷ [])
    (uses_before (of_row s c) (part (ru.More s)) [] (of_ok s c) refl refl) refl
rule_ok (ru.More s) c e = at_ok [] si.Comma c (ch.Open ∷ []) (ch.Absent ∷ []) (part (ru.BehindComma s) ∷ []) refl refl
rule_ok (ru.BehindComma s) c e = cc
rule_ok ru.Elements c e = or_ok [] (before (level_row 1 c) (part ru.MoreElements ∷ [])) (ch.Absent ∷ ch.Absent ∷ [])
    (uses_before (level_row 1 c) (part ru.MoreElements) [] (level_ok 1 c) refl refl) refl
rule_ok ru.MoreElements (cl.Sign si.Comma) e = refl
rule_ok ru.MoreElements (cl.Sign si.Dots) e = refl
rule_ok ru.MoreElements (cl.Sign _) e = refl
rule_ok ru.MoreElements _ e = refl
rule_ok ru.BehindElementComma c e = cc
rule_ok ru.LastComma (cl.Sign si.Comma) e = refl
rule_ok ru.LastComma (cl.Sign _) e = refl
rule_ok ru.LastComma _ e = refl
rule_ok (ru.PathRest k) c e = path_ok k c
rule_ok ru.PathOrStruct c e = cc
rule_ok ru.PathName c e = cc
rule_ok ru.InBracket (cl.Sign si.RightBracket) e = refl
rule_ok ru.InBracket c e = uses_row (true ∷ []) (before (length_row c) (rest_of 2 ki.TypeArray))
    (uses_behind (length_row c) (rest_of 2 ki.TypeArray) (length_ok c) refl refl)
rule_ok ru.FirstMember (cl.Sign si.Dots) e = refl
rule_ok ru.FirstMember c e = uses_row (true ∷ []) (before (type_row c) (part ru.AfterType ∷ []))
    (uses_before (type_row c) (part ru.AfterType) [] (type_ok c) refl refl)
rule_ok ru.AfterType (cl.Sign si.Comma) e = refl
rule_ok ru.AfterType (cl.Sign si.Bar) e = refl
rule_ok ru.AfterType (cl.Sign _) e = refl
rule_ok ru.AfterType _ e = refl
rule_ok ru.AfterSpread (cl.Sign si.Bar) e = refl
rule_ok ru.AfterSpread (cl.Sign _) e = refl
rule_ok ru.AfterSpread _ e = refl
rule_ok (ru.Climb l h) c e = cc
rule_ok ru.AfterValue (cl.Sign si.RightParen) e = refl
rule_ok ru.AfterValue (cl.Sign si.Comma) e = refl
rule_ok ru.AfterValue (cl.Sign _) e = refl
rule_ok ru.AfterValue _ e = refl
rule_ok ru.InIndex c e = uses_row (true ∷ []) (row ru.InIndex c) (index_ok c)
rule_ok ru.AfterIndex (cl.Sign si.RightBracket) e = refl
rule_ok ru.AfterIndex (cl.Sign si.DotDot) e = refl
rule_ok ru.AfterIndex (cl.Sign _) e = refl
rule_ok ru.AfterIndex _ e = refl
rule_ok ru.AfterYield (cl.Sign si.Colon) e = refl
rule_ok ru.AfterYield c e = or_ok (true ∷ []) (before (level_row 1 c) (sy.Close ki.Yield ∷ [])) (ch.Absent ∷ ch.Close ki.Yield ∷ [])
    (uses_before (level_row 1 c) (sy.Close ki.Yield) [] (level_ok 1 c) refl refl) refl
rule_ok ru.ForHead c e = uses_row (true ∷ []) (row ru.ForHead c) (for_ok c)
rule_ok ru.AfterForName c e = cc
rule_ok ru.DeclWord c e = uses_row (false ∷ []) (decl_word_row c) (word_ok c)
rule_ok ru.UseStart cl.Name e = refl
rule_ok ru.UseStart _ e = refl
rule_ok ru.AfterUseName c e = cc
rule_ok ru.AfterUseMark cl.Name e = refl
rule_ok ru.AfterUseMark cl.PathWord e = refl
rule_ok ru.AfterUseMark (cl.Sign si.LeftBrace) e = refl
rule_ok ru.AfterUseMark (cl.Sign _) e = refl
rule_ok ru.AfterUseMark _ e = refl
rule_ok ru.AfterUsePart c e = use_part_ok c

-- ---- what ends an operand

yield_ends : (c : Class) → ends_row (row ru.AfterYield c) ≡ true
yield_ends (cl.Sign si.Colon) = refl
yield_ends c = by (level_row 1 c) (level_ok 1 c)
  where
    by : (r : Row) → uses_ok [] r ≡ true → ends_row (or_skips (before r (sy.Close ki.Yield ∷ [])) (ch.Absent ∷ ch.Close ki.Yield ∷ [])) ≡
        true
    by Fault a = refl
    by (Skips cs) a = cc
    by (Uses cs ss) a = ends_before [] (Uses cs ss) (sy.Close ki.Yield) [] a refl

for_ends : (c : Class) → ends_row (row ru.ForHead c) ≡ true
for_ends (cl.Sign si.Let) = refl
for_ends c = by (level_row 1 c) (level_ok 1 c)
  where
    by : (r : Row) → uses_ok [] r ≡ true → ends_row (led_by (ch.Absent ∷ []) (before r (rest_of 5 ki.For))) ≡ true
    by Fault a = refl
    by (Skips cs) a = cc
    by (Uses cs ss) a = ends_append (ch.Absent ∷ cs) ss (part (ru.Led si.Semicolon expr)) _

-- a plain rule that ends an operand leaves one, or what ends one
pub rule_ends : (r : Rule) (c : Class) → is_plain (sy.Part r) ≡ true → ends_operand (sy.Part r) ≡ true → ends_row (row r c) ≡ true
rule_ends (ru.Climb l h) c e i = cc
rule_ends ru.AfterForName c e i = cc
rule_ends ru.PathOrStruct c e i = cc
rule_ends ru.AfterValue (cl.Sign si.RightParen) e i = refl
rule_ends ru.AfterValue (cl.Sign si.Comma) e i = refl
rule_ends ru.AfterValue (cl.Sign _) e i = refl
rule_ends ru.AfterValue _ e i = refl
rule_ends ru.InIndex (cl.Sign si.DotDot) e i = refl
rule_ends ru.InIndex c e i = ends_before [] (level_row 1 c) (part ru.AfterIndex) [] (level_ok 1 c) refl
rule_ends ru.AfterIndex (cl.Sign si.RightBracket) e i = refl
rule_ends ru.AfterIndex (cl.Sign si.DotDot) e i = refl
rule_ends ru.AfterIndex (cl.Sign _) e i = refl
rule_ends ru.AfterIndex _ e i = refl
rule_ends ru.AfterYield c e i = yield_ends c
rule_ends ru.ForHead c e i = for_ends c
rule_ends _ c e i = cc
