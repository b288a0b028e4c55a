-- Of two rows that both fail, the one that stands first in the list is the fault.
use Rattle.std.specs.Prelude.{◌≡◌, refl, pos, negsuc, ◌^◌, ◌-◌, false, [], ◌∷◌, codes, Some}
use Rattle.hare_tree.specs.declared.kind.Kind.TheVariants as ki
use Rattle.hare_tree.specs.declared.token.Meaning.TheVariants as means
use Rattle.hare_tree.specs.declared.token.Suffix.TheVariants as suffix
use Rattle.hare_types.specs.declared.coercion.Ty.TheVariants as ty
use Rattle.hare_rules.specs.declared.inside.Target.TheVariants as target
use Rattle.hare_rules.specs.declared.hint.Hint.TheVariants as hint
use Rattle.hare_rules.specs.Context.{BindingType}
use Rattle.hare_rules.proofs.Worked.{absent, as_body, as_role, asked_for, bool_t, byte_of, bytes_t, case_else, case_for, case_of, dropped, either_t, fallible_t, fault, given, i32_t, in_defer, in_labels, int_t, known, label_as, meaning_, most_t, never_t, node, number_at, numbered_as, of_type, opaque_t, over, path_to, several_t, size_t, str_t, struct_t, three_t, u8_t, value, void_t, with_result, written_type, yielding}

fits_before_site : fault (asked_for str_t (numbered_as 256 suffix.U8 (over ki.Number [] []))) ≡ Some (22, 9)
fits_before_site = refl

integer_before_site : fault (asked_for u8_t (over ki.Neg [] (of_type 5 str_t ∷ []))) ≡ Some (27, 9)
integer_before_site = refl

range_before_site : fault (asked_for u8_t (over ki.Neg [] (value 5 (ty.Iconst (negsuc (2 ^ 127 - 1))) ∷ []))) ≡ Some (22, 9)
range_before_site = refl

boolean_before_site : fault (asked_for str_t (over ki.Bang [] (of_type 5 int_t ∷ []))) ≡ Some (27, 9)
boolean_before_site = refl

place_before_mutable : fault (over ki.Addr [] (of_type 5 int_t ∷ [])) ≡ Some (28, 9)
place_before_mutable = refl

place_before_site : fault (asked_for str_t (over ki.Addr [] (of_type 5 int_t ∷ []))) ≡ Some (28, 9)
place_before_site = refl

mutable_before_site : fault (asked_for str_t (over ki.Addr [] (path_to 5 (means.Local 1) int_t ∷ []))) ≡ Some (29, 9)
mutable_before_site = refl

common_before_site : fault (asked_for str_t (over ki.Arith (codes "+") (of_type 1 i32_t ∷ of_type 5 u8_t ∷ []))) ≡ Some (27, 9)
common_before_site = refl

division_before_site :
    fault (asked_for str_t (over ki.Arith (codes "/") (value 1 (ty.Iconst (pos 1)) ∷ value 5 (ty.Iconst (pos 0)) ∷ []))) ≡ Some (22, 9)
division_before_site = refl

integers_before_default : fault (over ki.Shift (codes "<<") (value 1 (ty.Null) ∷ value 5 (ty.Iconst (pos 1)) ∷ [])) ≡ Some (27, 9)
integers_before_default = refl

shift_range_before_site :
    fault (asked_for str_t (over ki.Shift (codes "<<") (value 1 (ty.Iconst (pos 1)) ∷ value 5 (ty.Iconst (pos 128)) ∷ []))) ≡ Some (22, 9)
shift_range_before_site = refl

ordered_before_site : fault (asked_for str_t (over ki.Less (codes "<") (of_type 1 bool_t ∷ of_type 5 bool_t ∷ []))) ≡ Some (27, 9)
ordered_before_site = refl

comparable_before_site : fault (asked_for str_t (over ki.Equal (codes "==") (of_type 1 struct_t ∷ of_type 5 struct_t ∷ []))) ≡ Some (27, 9)
comparable_before_site = refl

assigned_place_before_mutable : fault (over ki.Assign [] (of_type 1 int_t ∷ of_type 5 int_t ∷ [])) ≡ Some (28, 9)
assigned_place_before_mutable = refl

assigned_place_before_site : fault (asked_for int_t (over ki.Assign [] (of_type 1 int_t ∷ of_type 5 int_t ∷ []))) ≡ Some (28, 9)
assigned_place_before_site = refl

assigned_mutable_before_site :
    fault (asked_for int_t (over ki.Assign [] (path_to 1 (means.Local 1) int_t ∷ of_type 5 int_t ∷ []))) ≡ Some (29, 9)
assigned_mutable_before_site = refl

op_place_before_fitting : fault (over ki.OpAssign (codes "+=") (of_type 1 int_t ∷ of_type 5 str_t ∷ [])) ≡ Some (28, 9)
op_place_before_fitting = refl

op_mutable_before_fitting : fault (over ki.OpAssign (codes "+=") (path_to 1 (means.Local 1) int_t ∷ of_type 5 str_t ∷ [])) ≡ Some (29, 9)
op_mutable_before_fitting = refl

fitting_before_site :
    fault (asked_for int_t (over ki.OpAssign (codes "+=") (path_to 1 (means.Local 0) int_t ∷ of_type 5 str_t ∷ []))) ≡ Some (27, 9)
fitting_before_site = refl

castable_before_site : fault (asked_for str_t (over ki.Cast [] (of_type 1 bool_t ∷ written_type 5 int_t ∷ []))) ≡ Some (26, 9)
castable_before_site = refl

tagged_before_member : fault (over ki.As [] (of_type 1 int_t ∷ written_type 5 u8_t ∷ [])) ≡ Some (35, 9)
tagged_before_member = refl

tagged_before_site : fault (asked_for str_t (over ki.Is [] (of_type 1 int_t ∷ written_type 5 int_t ∷ []))) ≡ Some (35, 9)
tagged_before_site = refl

member_before_site : fault (asked_for int_t (over ki.As [] (of_type 1 either_t ∷ written_type 5 u8_t ∷ []))) ≡ Some (36, 9)
member_before_site = refl

size_before_site : fault (asked_for str_t (over ki.Size [] (written_type 5 opaque_t ∷ []))) ≡ Some (17, 9)
size_before_site = refl

callable_before_arity :
    fault (meaning_ (means.Local 0) (over ki.Call [] (path_to 1 (means.Local 0) void_t ∷ of_type 3 int_t ∷ absent ∷ []))) ≡ Some (31, 9)
callable_before_arity = refl

arity_before_site :
    fault (asked_for str_t (meaning_ (means.Decl 1) (over ki.Call [] (path_to 1 (means.Decl 1) void_t ∷ absent ∷ [])))) ≡ Some (30, 9)
arity_before_site = refl

arity_before_kept :
    fault (dropped (meaning_ (means.Decl 17) (over ki.Call [] (path_to 1 (means.Decl 17) void_t ∷ of_type 3 int_t ∷ absent ∷ []))))
    ≡ Some (30, 9)
arity_before_kept = refl

errors_before_undeferred : fault (in_defer (over ki.Try [] (of_type 1 int_t ∷ []))) ≡ Some (42, 9)
errors_before_undeferred = refl

undeferred_before_returned : fault (in_defer (with_result int_t (over ki.Try [] (of_type 1 fallible_t ∷ [])))) ≡ Some (41, 9)
undeferred_before_returned = refl

undeferred_before_site : fault (asked_for str_t (in_defer (over ki.Try [] (of_type 1 fallible_t ∷ [])))) ≡ Some (41, 9)
undeferred_before_site = refl

returned_before_site : fault (asked_for str_t (with_result int_t (over ki.Try [] (of_type 1 fallible_t ∷ [])))) ≡ Some (43, 9)
returned_before_site = refl

fields_before_site :
    fault (asked_for int_t (over ki.StructLit [] (written_type 1 struct_t
    ∷ node ki.FieldValue 3 (codes "x") (ty.Of void_t) (of_type 3 int_t ∷ []) ∷ absent ∷ [])))
    ≡ Some (34, 9)
fields_before_site = refl

tuple_size_before_site : fault (asked_for int_t (over ki.Tuple [] (of_type 1 int_t ∷ of_type 3 opaque_t ∷ absent ∷ []))) ≡ Some (17, 9)
tuple_size_before_site = refl

array_default_before_long :
    fault (over ki.Array [] (value 1 (ty.Null) ∷ node ki.Dots 3 [] (ty.Of void_t) ([]) ∷ absent ∷ [])) ≡ Some (25, 1)
array_default_before_long = refl

long_before_size : fault (over ki.Array [] (of_type 1 opaque_t ∷ node ki.Dots 3 [] (ty.Of void_t) ([]) ∷ absent ∷ [])) ≡ Some (25, 9)
long_before_size = refl

array_size_before_site : fault (asked_for str_t (over ki.Array [] (of_type 1 opaque_t ∷ absent ∷ absent ∷ []))) ≡ Some (17, 9)
array_size_before_site = refl

array_bound_before_site :
    fault (asked_for str_t (over ki.Array [] (of_type 1 most_t ∷ of_type 3 most_t ∷ absent ∷ absent ∷ []))) ≡ Some (18, 9)
array_bound_before_site = refl

sequence_before_kept : fault (dropped (over ki.Alloc [] (of_type 1 int_t ∷ of_type 3 size_t ∷ []))) ≡ Some (33, 9)
sequence_before_kept = refl

freeable_before_site : fault (asked_for int_t (over ki.Free [] (of_type 1 str_t ∷ []))) ≡ Some (27, 9)
freeable_before_site = refl

appended_place_before_sequence : fault (over ki.Append [] (of_type 1 int_t ∷ of_type 3 u8_t ∷ absent ∷ [])) ≡ Some (28, 9)
appended_place_before_sequence = refl

appended_mutable_before_sequence : fault (over ki.Append [] (path_to 1 (means.Local 1) int_t ∷ of_type 3 u8_t ∷ absent ∷ [])) ≡ Some (29, 9)
appended_mutable_before_sequence = refl

appended_sequence_before_kept :
    fault (dropped (over ki.Append [] (path_to 1 (means.Local 0) int_t ∷ of_type 3 u8_t ∷ absent ∷ []))) ≡ Some (33, 9)
appended_sequence_before_kept = refl

kind_before_sequence : fault (over ki.Delete [] (of_type 1 int_t ∷ [])) ≡ Some (28, 9)
kind_before_sequence = refl

deleted_sequence_before_place :
    fault (over ki.Delete [] (node ki.Index 5 [] (ty.Of int_t) (of_type 1 three_t ∷ of_type 6 size_t ∷ []) ∷ [])) ≡ Some (33, 9)
deleted_sequence_before_place = refl

deleted_sequence_before_mutable :
    fault (over ki.Delete [] (node ki.Index 5 [] (ty.Of int_t) (path_to 1 (means.Local 1) three_t ∷ of_type 6 size_t ∷ []) ∷ []))
    ≡ Some (33, 9)
deleted_sequence_before_mutable = refl

deleted_place_before_mutable :
    fault (over ki.Delete [] (node ki.Index 5 [] (ty.Of u8_t) (of_type 1 bytes_t ∷ of_type 6 size_t ∷ []) ∷ [])) ≡ Some (28, 9)
deleted_place_before_mutable = refl

deleted_mutable_before_site :
    fault (asked_for int_t (over ki.Delete [] (node ki.Index 5 [] (ty.Of u8_t) (path_to 1 (means.Local 1) bytes_t ∷ of_type 6 size_t
    ∷ []) ∷ [])))
    ≡ Some (29, 9)
deleted_mutable_before_site = refl

counted_before_site : fault (asked_for str_t (over ki.Len [] (of_type 1 int_t ∷ []))) ≡ Some (33, 9)
counted_before_site = refl

member_access_before_site : fault (asked_for str_t (over ki.Offset [] (of_type 1 int_t ∷ []))) ≡ Some (32, 9)
member_access_before_site = refl

default_before_constant :
    fault (over ki.Def [] (absent ∷ node ki.Name 2 (codes "d") (ty.Of void_t) [] ∷ absent ∷ value 5 (ty.Null) ∷ [])) ≡ Some (25, 5)
default_before_constant = refl

has_size_before_constant :
    fault (over ki.GlobalLet [] (absent ∷ node ki.Name 2 (codes "d") (ty.Of void_t) [] ∷ absent ∷ of_type 5 opaque_t ∷ [])) ≡ Some (17, 9)
has_size_before_constant = refl

constant_before_scalar :
    fault (over ki.Def [] (absent ∷ node ki.Name 2 (codes "d") (ty.Of void_t) [] ∷ absent
    ∷ node ki.Paren 5 [] (ty.Of struct_t) (of_type 6 struct_t ∷ []) ∷ []))
    ≡ Some (21, 6)
constant_before_scalar = refl

looped_before_site : fault (asked_for int_t (over ki.ForEach [] (absent ∷ of_type 3 int_t ∷ of_type 5 void_t ∷ []))) ≡ Some (33, 9)
looped_before_site = refl

undeferred_before_no_value : fault (in_defer (over ki.Return [] (absent ∷ []))) ≡ Some (41, 9)
undeferred_before_no_value = refl

inside_before_no_value :
    fault (in_defer (in_labels (label_as target.Block [] false (hint.Of int_t) ∷ []) (over ki.Yield [] (absent ∷ [])))) ≡ Some (41, 9)
inside_before_no_value = refl

returns_before_rest :
    fault (as_body (asked_for fallible_t (yielding (given 5 (ty.Of int_t) ∷ []) (over ki.Block [] (of_type 3 void_t ∷ []))))) ≡ Some (45, 9)
returns_before_rest = refl

returns_before_site : fault (as_body (asked_for fallible_t (over ki.Block [] (of_type 3 void_t ∷ [])))) ≡ Some (45, 9)
returns_before_site = refl

matched_tagged_before_patterns : fault (over ki.Match [] (of_type 1 int_t ∷ case_for 3 void_t (written_type 4 u8_t) ∷ [])) ≡ Some (35, 9)
matched_tagged_before_patterns = refl

patterns_before_distinct :
    fault (over ki.Match [] (of_type 1 either_t ∷ case_for 3 void_t (written_type 4 u8_t) ∷ case_for 5 void_t (written_type 6 u8_t) ∷ []))
    ≡ Some (36, 4)
patterns_before_distinct = refl

patterns_before_covered : fault (over ki.Match [] (of_type 1 either_t ∷ case_for 3 void_t (written_type 4 u8_t) ∷ [])) ≡ Some (36, 4)
patterns_before_covered = refl

later_pattern_before_earlier_repeat :
    fault (over ki.Match [] (of_type 1 either_t ∷ case_for 3 void_t (written_type 4 int_t) ∷ case_for 5 void_t (written_type 6 int_t)
    ∷ case_for 7 void_t (written_type 8 u8_t) ∷ []))
    ≡ Some (36, 8)
later_pattern_before_earlier_repeat = refl

distinct_before_covered :
    fault (over ki.Match [] (of_type 1 either_t ∷ case_for 3 void_t (written_type 4 int_t) ∷ case_for 5 void_t (written_type 6 int_t) ∷ []))
    ≡ Some (38, 5)
distinct_before_covered = refl

distinct_before_rest :
    fault (over ki.Match [] (of_type 1 either_t ∷ case_for 3 int_t (written_type 4 int_t) ∷ case_for 5 str_t (written_type 6 int_t) ∷ []))
    ≡ Some (38, 5)
distinct_before_rest = refl

covered_before_rest :
    fault (over ki.Match [] (of_type 1 several_t ∷ case_for 3 int_t (written_type 4 int_t) ∷ case_for 5 str_t (written_type 6 str_t) ∷ []))
    ≡ Some (37, 9)
covered_before_rest = refl

tagged_before_rest : fault (over ki.Match [] (of_type 1 int_t ∷ case_for 3 int_t absent ∷ case_for 5 str_t absent ∷ [])) ≡ Some (35, 9)
tagged_before_rest = refl

scalar_before_constants : fault (over ki.Switch [] (of_type 1 struct_t ∷ case_of 3 void_t (of_type 4 struct_t ∷ []) ∷ [])) ≡ Some (27, 9)
scalar_before_constants = refl

scalar_before_covered :
    fault (over ki.Switch [] (of_type 1 struct_t ∷ case_of 3 void_t (known 4 struct_t (byte_of 0) ∷ []) ∷ [])) ≡ Some (27, 9)
scalar_before_covered = refl

constants_before_distinct :
    fault (over ki.Switch [] (of_type 1 u8_t ∷ case_of 3 void_t (known 4 u8_t (byte_of 0) ∷ [])
    ∷ case_of 5 void_t (known 6 u8_t (byte_of 0) ∷ []) ∷ case_of 7 void_t (of_type 8 u8_t ∷ []) ∷ []))
    ≡ Some (21, 8)
constants_before_distinct = refl

constants_before_covered : fault (over ki.Switch [] (of_type 1 u8_t ∷ case_of 7 void_t (of_type 8 u8_t ∷ []) ∷ [])) ≡ Some (21, 8)
constants_before_covered = refl

switched_distinct_before_covered :
    fault (over ki.Switch [] (of_type 1 bool_t ∷ case_of 3 void_t (known 4 bool_t (byte_of 0) ∷ [])
    ∷ case_of 5 void_t (known 6 bool_t (byte_of 0) ∷ []) ∷ []))
    ≡ Some (38, 6)
switched_distinct_before_covered = refl

switched_distinct_before_rest : fault (over ki.Switch [] (of_type 1 u8_t ∷ case_else 3 int_t ∷ case_else 5 str_t ∷ [])) ≡ Some (38, 5)
switched_distinct_before_rest = refl

switched_covered_before_rest :
    fault (over ki.Switch [] (of_type 1 u8_t ∷ case_of 3 int_t (known 4 u8_t (byte_of 0) ∷ [])
    ∷ case_of 5 str_t (known 6 u8_t (byte_of 1) ∷ []) ∷ []))
    ≡ Some (37, 9)
switched_covered_before_rest = refl

length_before_element : fault (over ki.TypeArray [] (number_at 5 3 suffix.U8 ∷ written_type 7 opaque_t ∷ [])) ≡ Some (24, 5)
length_before_element = refl

length_before_bound : fault (over ki.TypeArray [] (number_at 5 67108865 suffix.None ∷ written_type 7 int_t ∷ [])) ≡ Some (24, 5)
length_before_bound = refl

spreads_before_members :
    fault (over ki.TypeUnion [] (node ki.Spread 3 [] (ty.Of void_t) (written_type 3 int_t ∷ []) ∷ written_type 5 opaque_t ∷ []))
    ≡ Some (35, 3)
spreads_before_members = refl

spreads_before_left :
    fault (over ki.TypeUnion [] (node ki.Spread 3 [] (ty.Of void_t) (written_type 3 int_t ∷ []) ∷ written_type 5 never_t ∷ []))
    ≡ Some (35, 3)
spreads_before_left = refl

bound_behind_its_own : fault (as_role BindingType (over ki.TypeSlice [] (written_type 5 opaque_t ∷ []))) ≡ Some (17, 9)
bound_behind_its_own = refl
