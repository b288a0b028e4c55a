-- Rows of bindings, control and cases: each met once and not met once.
use Rattle.std.specs.Prelude.{◌≡◌, refl, pos, ◌^◌, true, false, [], ◌∷◌, codes, Some}
use Rattle.hare_tree.specs.declared.kind.Kind.TheVariants as ki
use Rattle.hare_types.specs.declared.coercion.Ty.TheVariants as ty
use Rattle.hare_rules.specs.declared.inside.Target.TheVariants as target
use Rattle.hare_rules.specs.declared.hint.Hint.TheVariants as hint
use Rattle.hare_rules.proofs.Worked.{absent, as_body, asked_for, bool_t, bytes_t, case_for, choice_t, dropped, either_t, fallible_t, fault, given, hidden_t, in_defer, in_labels, int_t, label_as, never_t, node, nothing, nullable_t, of_type, opaque_t, over, pointer_t, str_t, struct_t, three_t, to_bytes_t, type, u8_t, value, void_t, with_result, written_type, yielding}

let_of_iconst : type (over ki.Let (codes "x") (absent ∷ value 3 (ty.Iconst (pos 5)) ∷ [])) ≡ Some (ty.Of void_t)
let_of_iconst = refl

let_of_null : fault (over ki.Let (codes "x") (absent ∷ value 3 ty.Null ∷ [])) ≡ Some (25, 3)
let_of_null = refl

let_of_null_with_type : fault (over ki.Let (codes "x") (written_type 1 nullable_t ∷ value 3 ty.Null ∷ [])) ≡ nothing
let_of_null_with_type = refl

let_of_opaque : fault (over ki.Let (codes "x") (absent ∷ of_type 3 opaque_t ∷ [])) ≡ Some (17, 9)
let_of_opaque = refl

let_of_opaque_type : fault (over ki.Let (codes "x") (written_type 1 opaque_t ∷ of_type 3 int_t ∷ [])) ≡ Some (17, 1)
let_of_opaque_type = refl

if_joins_default : type (over ki.If [] (of_type 1 bool_t ∷ value 3 (ty.Iconst (pos 1)) ∷ of_type 5 int_t ∷ [])) ≡ Some (ty.Of int_t)
if_joins_default = refl

if_without_default : fault (over ki.If [] (of_type 1 bool_t ∷ value 3 ty.Null ∷ of_type 5 nullable_t ∷ [])) ≡ Some (25, 3)
if_without_default = refl

if_of_two_types : fault (over ki.If [] (of_type 1 bool_t ∷ of_type 3 int_t ∷ of_type 5 str_t ∷ [])) ≡ Some (39, 5)
if_of_two_types = refl

if_with_never : type (over ki.If [] (of_type 1 bool_t ∷ of_type 3 never_t ∷ of_type 5 str_t ∷ [])) ≡ Some (ty.Of str_t)
if_with_never = refl

if_never_behind : type (over ki.If [] (of_type 1 bool_t ∷ of_type 3 str_t ∷ of_type 5 never_t ∷ [])) ≡ Some (ty.Of str_t)
if_never_behind = refl

if_of_nevers : type (over ki.If [] (of_type 1 bool_t ∷ of_type 3 never_t ∷ of_type 5 never_t ∷ [])) ≡ Some (ty.Of never_t)
if_of_nevers = refl

if_of_nevers_dropped : type (dropped (over ki.If [] (of_type 1 bool_t ∷ of_type 3 never_t ∷ of_type 5 never_t ∷ []))) ≡ Some (ty.Of void_t)
if_of_nevers_dropped = refl

if_without_else : type (over ki.If [] (of_type 1 bool_t ∷ of_type 3 never_t ∷ absent ∷ [])) ≡ Some (ty.Of void_t)
if_without_else = refl

for_ever :
    type (over ki.For [] (absent ∷ node ki.Bool 3 (codes "true") (ty.Of bool_t) [] ∷ absent ∷ of_type 5 void_t ∷ [])) ≡ Some (ty.Of never_t)
for_ever = refl

for_with_break :
    type (over ki.For [] (absent ∷ node ki.Bool 3 (codes "true") (ty.Of bool_t) [] ∷ absent ∷ node ki.Break 6 [] (ty.Of never_t) [] ∷ []))
    ≡ Some (ty.Of void_t)
for_with_break = refl

for_with_named_break :
    type (over ki.For (codes "a") (absent ∷ node ki.Bool 3 (codes "true") (ty.Of bool_t) [] ∷ absent
    ∷ node ki.Break 6 (codes "a") (ty.Of never_t) [] ∷ []))
    ≡ Some (ty.Of void_t)
for_with_named_break = refl

for_with_break_of_another :
    type (over ki.For (codes "a") (absent ∷ node ki.Bool 3 (codes "true") (ty.Of bool_t) [] ∷ absent
    ∷ node ki.Break 6 (codes "b") (ty.Of never_t) [] ∷ []))
    ≡ Some (ty.Of never_t)
for_with_break_of_another = refl

for_with_inner_break :
    type (over ki.For [] (absent ∷ node ki.Bool 3 (codes "true") (ty.Of bool_t) [] ∷ absent ∷ node ki.For 5 [] (ty.Of void_t) (absent
    ∷ node ki.Bool 3 (codes "true") (ty.Of bool_t) [] ∷ absent ∷ node ki.Break 6 [] (ty.Of never_t) [] ∷ []) ∷ []))
    ≡ Some (ty.Of never_t)
for_with_inner_break = refl

for_with_break_out_of_inner :
    type (over ki.For (codes "a") (absent ∷ node ki.Bool 3 (codes "true") (ty.Of bool_t) [] ∷ absent
    ∷ node ki.For 5 [] (ty.Of void_t) (absent ∷ node ki.Bool 3 (codes "true") (ty.Of bool_t) [] ∷ absent
    ∷ node ki.Break 6 (codes "a") (ty.Of never_t) [] ∷ []) ∷ []))
    ≡ Some (ty.Of void_t)
for_with_break_out_of_inner = refl

for_with_inner_of_one_name :
    type (over ki.For (codes "a") (absent ∷ node ki.Bool 3 (codes "true") (ty.Of bool_t) [] ∷ absent
    ∷ node ki.For 5 (codes "a") (ty.Of void_t) (absent ∷ node ki.Bool 3 (codes "true") (ty.Of bool_t) [] ∷ absent
    ∷ node ki.Break 6 (codes "a") (ty.Of never_t) [] ∷ []) ∷ []))
    ≡ Some (ty.Of never_t)
for_with_inner_of_one_name = refl

for_in_parentheses :
    type (over ki.For [] (absent ∷ node ki.Paren 3 [] (ty.Of bool_t) (node ki.Bool 3 (codes "true") (ty.Of bool_t) [] ∷ []) ∷ absent
    ∷ of_type 5 void_t ∷ []))
    ≡ Some (ty.Of void_t)
for_in_parentheses = refl

for_each_of_slice : type (over ki.ForEach [] (absent ∷ of_type 3 bytes_t ∷ of_type 5 void_t ∷ [])) ≡ Some (ty.Of void_t)
for_each_of_slice = refl

for_each_of_int : fault (over ki.ForEach [] (absent ∷ of_type 3 int_t ∷ of_type 5 void_t ∷ [])) ≡ Some (33, 9)
for_each_of_int = refl

break_of_nothing : fault (over ki.Break [] (absent ∷ [])) ≡ Some (40, 9)
break_of_nothing = refl

break_of_loop : type (in_labels (label_as target.Loop [] false hint.None ∷ []) (over ki.Break [] (absent ∷ []))) ≡ Some (ty.Of never_t)
break_of_loop = refl

break_past_block :
    type (in_labels (label_as target.Loop (codes "a") false hint.None ∷ label_as target.Block (codes "a") false hint.None
    ∷ []) (over ki.Break (codes "a") (absent ∷ [])))
    ≡ Some (ty.Of never_t)
break_past_block = refl

break_of_unknown :
    fault (in_labels (label_as target.Loop (codes "a") false hint.None ∷ []) (over ki.Continue (codes "b") (absent ∷ []))) ≡ Some (40, 9)
break_of_unknown = refl

break_out_of_defer :
    fault (in_defer (in_labels (label_as target.Loop [] false hint.None ∷ []) (over ki.Break [] (absent ∷ [])))) ≡ Some (41, 9)
break_out_of_defer = refl

break_within_defer :
    type (in_defer (in_labels (label_as target.Loop [] true hint.None ∷ []) (over ki.Break [] (absent ∷ [])))) ≡ Some (ty.Of never_t)
break_within_defer = refl

return_in_defer : fault (in_defer (over ki.Return [] (absent ∷ []))) ≡ Some (41, 9)
return_in_defer = refl

return_of_nothing : fault (over ki.Return [] (absent ∷ [])) ≡ Some (25, 9)
return_of_nothing = refl

return_of_nothing_as_void : type (with_result void_t (over ki.Return [] (absent ∷ []))) ≡ Some (ty.Of never_t)
return_of_nothing_as_void = refl

yield_to_nothing : fault (over ki.Yield [] (of_type 5 int_t ∷ [])) ≡ Some (40, 9)
yield_to_nothing = refl

yield_to_case :
    type (in_labels (label_as target.Case [] false hint.None ∷ []) (over ki.Yield [] (of_type 5 int_t ∷ []))) ≡ Some (ty.Of never_t)
yield_to_case = refl

yield_past_case :
    fault (in_labels (label_as target.Case (codes "a") false hint.None ∷ []) (over ki.Yield (codes "a") (of_type 5 int_t ∷ [])))
    ≡ Some (40, 9)
yield_past_case = refl

yield_out_of_defer :
    fault (in_defer (in_labels (label_as target.Block [] false hint.None ∷ []) (over ki.Yield [] (of_type 5 int_t ∷ [])))) ≡ Some (41, 9)
yield_out_of_defer = refl

yield_of_nothing_to_int :
    fault (in_labels (label_as target.Block [] false (hint.Of int_t) ∷ []) (over ki.Yield [] (absent ∷ []))) ≡ Some (25, 9)
yield_of_nothing_to_int = refl

block_that_ends : type (over ki.Block [] (of_type 3 void_t ∷ [])) ≡ Some (ty.Of void_t)
block_that_ends = refl

block_that_leaves : type (over ki.Block [] (of_type 3 never_t ∷ [])) ≡ Some (ty.Of never_t)
block_that_leaves = refl

block_with_yield : type (yielding (given 5 (ty.Iconst (pos 6)) ∷ []) (over ki.Block [] (of_type 3 never_t ∷ []))) ≡ Some (ty.Of int_t)
block_with_yield = refl

block_with_yield_and_end : fault (yielding (given 5 (ty.Iconst (pos 6)) ∷ []) (over ki.Block [] (of_type 3 void_t ∷ []))) ≡ Some (39, 9)
block_with_yield_and_end = refl

block_with_two_yields :
    fault (yielding (given 5 (ty.Of int_t) ∷ given 7 (ty.Of str_t) ∷ []) (over ki.Block [] (of_type 3 never_t ∷ []))) ≡ Some (39, 7)
block_with_two_yields = refl

block_with_null_yield : fault (yielding (given 5 ty.Null ∷ []) (over ki.Block [] (of_type 3 never_t ∷ []))) ≡ Some (25, 5)
block_with_null_yield = refl

block_for_int : fault (asked_for int_t (over ki.Block [] (of_type 3 void_t ∷ []))) ≡ Some (25, 9)
block_for_int = refl

body_without_return : fault (as_body (asked_for fallible_t (over ki.Block [] (of_type 3 int_t ∷ [])))) ≡ Some (45, 9)
body_without_return = refl

body_that_leaves : fault (as_body (asked_for fallible_t (over ki.Block [] (of_type 3 never_t ∷ [])))) ≡ nothing
body_that_leaves = refl

match_of_all :
    type (over ki.Match [] (of_type 1 either_t ∷ node ki.Case 3 [] (ty.Of void_t) (written_type 4 int_t ∷ [])
    ∷ node ki.Case 5 [] (ty.Of void_t) (written_type 6 str_t ∷ []) ∷ []))
    ≡ Some (ty.Of void_t)
match_of_all = refl

match_lacks_one :
    fault (over ki.Match [] (of_type 1 either_t ∷ node ki.Case 3 [] (ty.Of void_t) (written_type 4 int_t ∷ []) ∷ [])) ≡ Some (37, 9)
match_lacks_one = refl

match_with_default :
    type (over ki.Match [] (of_type 1 either_t ∷ node ki.Case 3 [] (ty.Of void_t) (written_type 4 int_t ∷ [])
    ∷ node ki.Case 5 [] (ty.Of void_t) (absent ∷ []) ∷ []))
    ≡ Some (ty.Of void_t)
match_with_default = refl

match_of_no_member :
    fault (over ki.Match [] (of_type 1 either_t ∷ node ki.Case 3 [] (ty.Of void_t) (written_type 4 u8_t ∷ [])
    ∷ node ki.Case 5 [] (ty.Of void_t) (absent ∷ []) ∷ []))
    ≡ Some (36, 4)
match_of_no_member = refl

match_twice :
    fault (over ki.Match [] (of_type 1 either_t ∷ node ki.Case 3 [] (ty.Of void_t) (written_type 4 int_t ∷ [])
    ∷ node ki.Case 5 [] (ty.Of void_t) (written_type 6 int_t ∷ []) ∷ []))
    ≡ Some (38, 5)
match_twice = refl

match_default_twice :
    fault (over ki.Match [] (of_type 1 either_t ∷ node ki.Case 3 [] (ty.Of void_t) (absent ∷ [])
    ∷ node ki.Case 5 [] (ty.Of void_t) (absent ∷ []) ∷ []))
    ≡ Some (38, 5)
match_default_twice = refl

match_of_int : fault (over ki.Match [] (of_type 1 int_t ∷ node ki.Case 3 [] (ty.Of void_t) (absent ∷ []) ∷ [])) ≡ Some (35, 9)
match_of_int = refl

match_of_nullable :
    type (over ki.Match [] (of_type 1 nullable_t ∷ node ki.Case 3 [] (ty.Of void_t) (node ki.PatternNull 4 [] (ty.Of void_t) [] ∷ [])
    ∷ node ki.Case 5 [] (ty.Of void_t) (written_type 6 pointer_t ∷ []) ∷ []))
    ≡ Some (ty.Of void_t)
match_of_nullable = refl

match_null_of_union :
    fault (over ki.Match [] (of_type 1 either_t ∷ node ki.Case 3 [] (ty.Of void_t) (node ki.PatternNull 4 [] (ty.Of void_t) [] ∷ [])
    ∷ node ki.Case 5 [] (ty.Of void_t) (absent ∷ []) ∷ []))
    ≡ Some (36, 4)
match_null_of_union = refl

match_of_two_types :
    fault (over ki.Match [] (of_type 1 either_t ∷ node ki.Case 3 [] (ty.Of int_t) (written_type 4 int_t ∷ [])
    ∷ node ki.Case 5 [] (ty.Of str_t) (written_type 6 str_t ∷ []) ∷ []))
    ≡ Some (39, 5)
match_of_two_types = refl

let_pattern :
    type (over ki.Match [] (of_type 1 either_t
    ∷ node ki.Case 3 [] (ty.Of void_t) (node ki.PatternLet 4 (codes "n") (ty.Of void_t) (written_type 6 int_t ∷ []) ∷ [])
    ∷ node ki.Case 5 [] (ty.Of void_t) (absent ∷ []) ∷ []))
    ≡ Some (ty.Of void_t)
let_pattern = refl

switch_of_struct : fault (over ki.Switch [] (of_type 1 struct_t ∷ [])) ≡ Some (27, 9)
switch_of_struct = refl

switch_of_nothing : fault (over ki.Switch [] (of_type 1 bool_t ∷ [])) ≡ Some (37, 9)
switch_of_nothing = refl

let_of_great_exact : fault (over ki.Let (codes "x") (absent ∷ value 3 (ty.Iconst (pos (2 ^ 100))) ∷ [])) ≡ Some (25, 3)
let_of_great_exact = refl

let_of_never : fault (over ki.Let (codes "x") (absent ∷ of_type 3 never_t ∷ [])) ≡ Some (17, 9)
let_of_never = refl

let_of_named_opaque : fault (over ki.Let (codes "x") (absent ∷ of_type 3 hidden_t ∷ [])) ≡ Some (17, 9)
let_of_named_opaque = refl

const_of_i64 : type (over ki.Const (codes "x") (absent ∷ value 3 (ty.Iconst (pos (2 ^ 40))) ∷ [])) ≡ Some (ty.Of void_t)
const_of_i64 = refl

if_of_iconst_and_str : fault (over ki.If [] (of_type 1 bool_t ∷ value 3 (ty.Iconst (pos 1)) ∷ of_type 5 str_t ∷ [])) ≡ Some (39, 5)
if_of_iconst_and_str = refl

if_of_iconsts :
    type (over ki.If [] (of_type 1 bool_t ∷ value 3 (ty.Iconst (pos 1)) ∷ value 5 (ty.Iconst (pos 2)) ∷ [])) ≡ Some (ty.Of int_t)
if_of_iconsts = refl

if_int_and_wider_exact :
    fault (over ki.If [] (of_type 1 bool_t ∷ value 3 (ty.Iconst (pos 1)) ∷ value 5 (ty.Iconst (pos (2 ^ 40))) ∷ [])) ≡ Some (39, 5)
if_int_and_wider_exact = refl

if_for_hint : type (asked_for either_t (over ki.If [] (of_type 1 bool_t ∷ of_type 3 int_t ∷ of_type 5 str_t ∷ []))) ≡ Some (ty.Of either_t)
if_for_hint = refl

if_without_else_for_int : fault (asked_for int_t (over ki.If [] (of_type 1 bool_t ∷ of_type 3 void_t ∷ absent ∷ []))) ≡ Some (25, 9)
if_without_else_for_int = refl

for_with_break_in_condition :
    type (over ki.For [] (absent ∷ node ki.Bool 3 (codes "false") (ty.Of bool_t) ([]) ∷ absent ∷ of_type 5 void_t ∷ []))
    ≡ Some (ty.Of void_t)
for_with_break_in_condition = refl

for_ever_with_continue :
    type (over ki.For [] (absent ∷ node ki.Bool 3 (codes "true") (ty.Of bool_t) ([]) ∷ absent
    ∷ node ki.Continue 6 [] (ty.Of never_t) (absent ∷ []) ∷ []))
    ≡ Some (ty.Of never_t)
for_ever_with_continue = refl

for_each_of_array : type (over ki.ForEach [] (absent ∷ of_type 3 three_t ∷ of_type 5 void_t ∷ [])) ≡ Some (ty.Of void_t)
for_each_of_array = refl

for_each_of_pointer : fault (over ki.ForEach [] (absent ∷ of_type 3 to_bytes_t ∷ of_type 5 void_t ∷ [])) ≡ Some (33, 9)
for_each_of_pointer = refl

for_each_of_empty : fault (over ki.ForEach [] (absent ∷ value 3 (ty.Empty) ∷ of_type 5 void_t ∷ [])) ≡ Some (33, 9)
for_each_of_empty = refl

continue_of_block : fault (in_labels (label_as target.Block [] false hint.None ∷ []) (over ki.Continue [] (absent ∷ []))) ≡ Some (40, 9)
continue_of_block = refl

return_in_defer_of_value : fault (in_defer (over ki.Return [] (of_type 3 fallible_t ∷ []))) ≡ Some (41, 9)
return_in_defer_of_value = refl

yield_to_loop :
    fault (in_labels (label_as target.Loop (codes "a") false hint.None ∷ []) (over ki.Yield (codes "a") (of_type 5 int_t ∷ [])))
    ≡ Some (40, 9)
yield_to_loop = refl

yield_past_loop_and_case :
    type (in_labels (label_as target.Block (codes "a") false hint.None ∷ label_as target.Case [] false hint.None
    ∷ label_as target.Loop (codes "a") false hint.None ∷ []) (over ki.Yield (codes "a") (of_type 5 int_t ∷ [])))
    ≡ Some (ty.Of never_t)
yield_past_loop_and_case = refl

yield_of_nothing_to_void :
    fault (in_labels (label_as target.Block [] false (hint.Of void_t) ∷ []) (over ki.Yield [] (absent ∷ []))) ≡ nothing
yield_of_nothing_to_void = refl

yield_of_nothing_dropped : fault (in_labels (label_as target.Block [] false hint.Drop ∷ []) (over ki.Yield [] (absent ∷ []))) ≡ nothing
yield_of_nothing_dropped = refl

block_with_yields_of_never :
    type (yielding (given 5 (ty.Of never_t) ∷ []) (over ki.Block [] (of_type 3 never_t ∷ []))) ≡ Some (ty.Of never_t)
block_with_yields_of_never = refl

block_with_never_after_int :
    fault (yielding (given 5 (ty.Of int_t) ∷ given 7 (ty.Of never_t) ∷ []) (over ki.Block [] (of_type 3 never_t ∷ []))) ≡ nothing
block_with_never_after_int = refl

block_for_int_with_end :
    fault (asked_for int_t (yielding (given 5 (ty.Of int_t) ∷ []) (over ki.Block [] (of_type 3 void_t ∷ [])))) ≡ Some (39, 9)
block_for_int_with_end = refl

block_dropped_with_end : fault (dropped (yielding (given 5 (ty.Of int_t) ∷ []) (over ki.Block [] (of_type 3 void_t ∷ [])))) ≡ nothing
block_dropped_with_end = refl

body_of_void : type (as_body (with_result void_t (asked_for void_t (over ki.Block [] (of_type 3 int_t ∷ []))))) ≡ Some (ty.Of void_t)
body_of_void = refl

case_that_ends : type (over ki.Case [] (written_type 2 int_t ∷ of_type 3 void_t ∷ [])) ≡ Some (ty.Of void_t)
case_that_ends = refl

case_that_leaves : type (over ki.Case [] (written_type 2 int_t ∷ of_type 3 never_t ∷ [])) ≡ Some (ty.Of never_t)
case_that_leaves = refl

case_with_yield_and_end : fault (yielding (given 5 (ty.Of int_t) ∷ []) (over ki.Case [] (absent ∷ of_type 3 void_t ∷ []))) ≡ Some (39, 9)
case_with_yield_and_end = refl

case_with_null_yield : fault (yielding (given 5 ty.Null ∷ []) (over ki.Case [] (absent ∷ of_type 3 never_t ∷ []))) ≡ Some (25, 5)
case_with_null_yield = refl

case_for_int : fault (asked_for int_t (over ki.SwitchCase [] (absent ∷ of_type 3 void_t ∷ []))) ≡ Some (25, 9)
case_for_int = refl

pattern_of_never_statement :
    fault (asked_for int_t (over ki.Case [] (node ki.TypeScalar 2 [] (ty.Of never_t) ([]) ∷ of_type 3 void_t ∷ []))) ≡ Some (25, 9)
pattern_of_never_statement = refl

match_of_name :
    type (over ki.Match [] (of_type 1 choice_t ∷ case_for 3 void_t (written_type 4 int_t) ∷ case_for 5 void_t (written_type 6 str_t) ∷ []))
    ≡ Some (ty.Of void_t)
match_of_name = refl

match_null_lacks_pointer :
    fault (over ki.Match [] (of_type 1 nullable_t ∷ case_for 3 void_t (node ki.PatternNull 4 [] (ty.Of void_t) []) ∷ [])) ≡ Some (37, 9)
match_null_lacks_pointer = refl

match_of_union_as_pattern : fault (over ki.Match [] (of_type 1 either_t ∷ case_for 3 void_t (written_type 4 either_t) ∷ [])) ≡ Some (36, 4)
match_of_union_as_pattern = refl

match_pointer_twice :
    fault (over ki.Match [] (of_type 1 nullable_t ∷ case_for 3 void_t (written_type 4 pointer_t)
    ∷ case_for 5 void_t (written_type 6 pointer_t) ∷ []))
    ≡ Some (38, 5)
match_pointer_twice = refl

match_for_hint :
    type (asked_for either_t (over ki.Match [] (of_type 1 either_t ∷ case_for 3 either_t (written_type 4 int_t)
    ∷ case_for 5 either_t (absent) ∷ [])))
    ≡ Some (ty.Of either_t)
match_for_hint = refl

match_of_nevers_dropped : type (dropped (over ki.Match [] (of_type 1 either_t ∷ case_for 3 never_t absent ∷ []))) ≡ Some (ty.Of void_t)
match_of_nevers_dropped = refl

match_of_nevers : type (over ki.Match [] (of_type 1 either_t ∷ case_for 3 never_t absent ∷ [])) ≡ Some (ty.Of never_t)
match_of_nevers = refl
