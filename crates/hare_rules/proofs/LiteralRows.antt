-- Rows of literals, paths and operators: names and bases, and what a literal fits.
use Rattle.std.specs.Prelude.{◌≡◌, refl, pos, ◌^◌, ◌-◌, [], ◌∷◌, codes, Some}
use Rattle.hare_tree.specs.declared.kind.Kind.TheVariants as ki
use Rattle.hare_tree.specs.declared.token.Meaning.TheVariants as means
use Rattle.hare_tree.specs.declared.token.Suffix.TheVariants as suffix
use Rattle.hare_types.specs.declared.coercion.Ty.TheVariants as ty
use Rattle.hare_rules.proofs.Worked.{asked_for, bool_t, choice_t, count_t, either_t, error_t, far_t, fault, flag_t, hidden_t, i64_t, int_t, link_t, maybe_t, meaning_, never_t, nothing, nullable_t, numbered_as, of_type, over, path_to, pointer_t, rune_t, size_t, str_t, to_struct_t, type, u64_t, u8_t, unit_t, value, void_t, written_type}

number_is_exact : type (numbered_as 7 suffix.None (over ki.Number [] [])) ≡ Some (ty.Iconst (pos 7))
number_is_exact = refl

number_of_u8 : type (numbered_as 255 suffix.U8 (over ki.Number [] [])) ≡ Some (ty.Of u8_t)
number_of_u8 = refl

number_past_u8 : fault (numbered_as 256 suffix.U8 (over ki.Number [] [])) ≡ Some (22, 9)
number_past_u8 = refl

least_of_i8_is_no_literal : fault (numbered_as 128 suffix.I8 (over ki.Number [] [])) ≡ Some (22, 9)
least_of_i8_is_no_literal = refl

number_of_size : type (numbered_as (2 ^ 64 - 1) suffix.Z (over ki.Number [] [])) ≡ Some (ty.Of size_t)
number_of_size = refl

number_past_size : fault (numbered_as (2 ^ 64) suffix.Z (over ki.Number [] [])) ≡ Some (22, 9)
number_past_size = refl

number_of_int : type (numbered_as (2 ^ 31 - 1) suffix.I (over ki.Number [] [])) ≡ Some (ty.Of int_t)
number_of_int = refl

number_past_int : fault (numbered_as (2 ^ 31) suffix.I (over ki.Number [] [])) ≡ Some (22, 9)
number_past_int = refl

greatest_number : fault (numbered_as (2 ^ 127 - 1) suffix.None (over ki.Number [] [])) ≡ nothing
greatest_number = refl

number_for_str : fault (asked_for str_t (numbered_as 7 suffix.None (over ki.Number [] []))) ≡ Some (25, 9)
number_for_str = refl

number_for_named_int : fault (asked_for count_t (numbered_as 7 suffix.None (over ki.Number [] []))) ≡ nothing
number_for_named_int = refl

number_for_u8 : fault (asked_for u8_t (numbered_as 256 suffix.None (over ki.Number [] []))) ≡ Some (25, 9)
number_for_u8 = refl

str_literal : type (over ki.Str (codes "a") []) ≡ Some (ty.Of str_t)
str_literal = refl

rune_literal : type (over ki.RuneLit (codes "'a'") []) ≡ Some (ty.Of rune_t)
rune_literal = refl

bool_literal : type (over ki.Bool (codes "true") []) ≡ Some (ty.Of bool_t)
bool_literal = refl

null_literal : type (over ki.Null [] []) ≡ Some ty.Null
null_literal = refl

null_for_nullable : fault (asked_for nullable_t (over ki.Null [] [])) ≡ nothing
null_for_nullable = refl

null_for_named_nullable : fault (asked_for maybe_t (over ki.Null [] [])) ≡ nothing
null_for_named_nullable = refl

null_for_pointer : fault (asked_for pointer_t (over ki.Null [] [])) ≡ Some (25, 9)
null_for_pointer = refl

void_literal : type (over ki.Void [] []) ≡ Some (ty.Of void_t)
void_literal = refl

void_for_error : fault (asked_for error_t (over ki.Void [] [])) ≡ nothing
void_for_error = refl

paren_keeps_exact : type (over ki.Paren [] (value 3 (ty.Iconst (pos 5)) ∷ [])) ≡ Some (ty.Iconst (pos 5))
paren_keeps_exact = refl

paren_keeps_empty : type (over ki.Paren [] (value 3 (ty.Empty) ∷ [])) ≡ Some ty.Empty
paren_keeps_empty = refl

path_to_named_void : type (meaning_ (means.Decl 9) (over ki.Path (codes "unit") [])) ≡ Some (ty.Of unit_t)
path_to_named_void = refl

path_to_named_int : fault (meaning_ (means.Decl 7) (over ki.Path (codes "count") [])) ≡ Some (27, 9)
path_to_named_int = refl

path_to_global : type (meaning_ (means.Decl 0) (over ki.Path (codes "g") [])) ≡ Some (ty.Of int_t)
path_to_global = refl

path_to_const_global : type (meaning_ (means.Decl 3) (over ki.Path (codes "g") [])) ≡ Some (ty.Of int_t)
path_to_const_global = refl

path_to_const_local : type (meaning_ (means.Local 1) (over ki.Path (codes "x") [])) ≡ Some (ty.Of int_t)
path_to_const_local = refl

neg_keeps_names : type (over ki.Neg [] (of_type 5 count_t ∷ [])) ≡ Some (ty.Of count_t)
neg_keeps_names = refl

bang_keeps_names : type (over ki.Bang [] (of_type 5 flag_t ∷ [])) ≡ Some (ty.Of flag_t)
bang_keeps_names = refl

deref_through_a_name : type (over ki.Deref [] (of_type 5 link_t ∷ [])) ≡ Some (ty.Of int_t)
deref_through_a_name = refl

deref_of_pointer_to_pointer : type (over ki.Deref [] (of_type 5 far_t ∷ [])) ≡ Some (ty.Of pointer_t)
deref_of_pointer_to_pointer = refl

deref_of_never : fault (over ki.Deref [] (of_type 5 never_t ∷ [])) ≡ Some (27, 9)
deref_of_never = refl

sum_of_one_name : type (over ki.Arith (codes "+") (of_type 1 count_t ∷ of_type 5 count_t ∷ [])) ≡ Some (ty.Of count_t)
sum_of_one_name = refl

sum_of_name_and_int : fault (over ki.Arith (codes "+") (of_type 1 count_t ∷ of_type 5 int_t ∷ [])) ≡ Some (27, 9)
sum_of_name_and_int = refl

sum_of_name_and_exact : type (over ki.Arith (codes "+") (of_type 1 count_t ∷ value 5 (ty.Iconst (pos 1)) ∷ [])) ≡ Some (ty.Of count_t)
sum_of_name_and_exact = refl

sum_of_int_and_i64 : type (over ki.Arith (codes "+") (of_type 1 int_t ∷ of_type 5 i64_t ∷ [])) ≡ Some (ty.Of i64_t)
sum_of_int_and_i64 = refl

sum_of_u8_and_i64 : fault (over ki.Arith (codes "+") (of_type 1 u8_t ∷ of_type 5 i64_t ∷ [])) ≡ Some (27, 9)
sum_of_u8_and_i64 = refl

sum_of_never : fault (over ki.Arith (codes "+") (of_type 1 never_t ∷ of_type 5 int_t ∷ [])) ≡ Some (27, 9)
sum_of_never = refl

shift_keeps_names : type (over ki.Shift (codes "<<") (of_type 1 count_t ∷ of_type 5 u8_t ∷ [])) ≡ Some (ty.Of count_t)
shift_keeps_names = refl

less_of_names : type (over ki.Less (codes "<") (of_type 1 count_t ∷ of_type 5 count_t ∷ [])) ≡ Some (ty.Of bool_t)
less_of_names = refl

equal_flags : type (over ki.Equal (codes "==") (of_type 1 flag_t ∷ of_type 5 flag_t ∷ [])) ≡ Some (ty.Of bool_t)
equal_flags = refl

equal_flag_and_bool : fault (over ki.Equal (codes "==") (of_type 1 flag_t ∷ of_type 5 bool_t ∷ [])) ≡ Some (27, 9)
equal_flag_and_bool = refl

equal_name_of_pointer_and_nullable : fault (over ki.Equal (codes "==") (of_type 1 link_t ∷ of_type 5 nullable_t ∷ [])) ≡ Some (27, 9)
equal_name_of_pointer_and_nullable = refl

equal_pointer_and_named_nullable : fault (over ki.Equal (codes "==") (of_type 1 pointer_t ∷ of_type 5 maybe_t ∷ [])) ≡ Some (27, 9)
equal_pointer_and_named_nullable = refl

equal_null_and_named_nullable : type (over ki.Equal (codes "==") (value 1 (ty.Null) ∷ of_type 5 maybe_t ∷ [])) ≡ Some (ty.Of bool_t)
equal_null_and_named_nullable = refl

equal_named_nullable_and_null : type (over ki.Equal (codes "==") (of_type 1 maybe_t ∷ value 5 (ty.Null) ∷ [])) ≡ Some (ty.Of bool_t)
equal_named_nullable_and_null = refl

equal_nullable_and_pointer : type (over ki.Equal (codes "!=") (of_type 1 nullable_t ∷ of_type 5 pointer_t ∷ [])) ≡ Some (ty.Of bool_t)
equal_nullable_and_pointer = refl

equal_empties : fault (over ki.Equal (codes "==") (value 1 (ty.Empty) ∷ value 5 (ty.Empty) ∷ [])) ≡ Some (27, 9)
equal_empties = refl

equal_voids : fault (over ki.Equal (codes "==") (of_type 1 void_t ∷ of_type 5 void_t ∷ [])) ≡ Some (27, 9)
equal_voids = refl

cast_of_name : type (over ki.Cast [] (of_type 1 count_t ∷ written_type 5 u8_t ∷ [])) ≡ Some (ty.Of u8_t)
cast_of_name = refl

cast_to_name : type (over ki.Cast [] (of_type 1 u8_t ∷ written_type 5 count_t ∷ [])) ≡ Some (ty.Of count_t)
cast_to_name = refl

cast_of_exact : type (over ki.Cast [] (value 1 (ty.Iconst (pos 300)) ∷ written_type 5 u8_t ∷ [])) ≡ Some (ty.Of u8_t)
cast_of_exact = refl

cast_of_named_pointer : fault (over ki.Cast [] (of_type 1 link_t ∷ written_type 5 to_struct_t ∷ [])) ≡ Some (26, 9)
cast_of_named_pointer = refl

cast_of_null_to_pointer : fault (over ki.Cast [] (value 1 (ty.Null) ∷ written_type 5 pointer_t ∷ [])) ≡ Some (26, 9)
cast_of_null_to_pointer = refl

as_of_named_union : type (over ki.As [] (of_type 1 choice_t ∷ written_type 5 str_t ∷ [])) ≡ Some (ty.Of str_t)
as_of_named_union = refl

as_of_union_itself : fault (over ki.As [] (of_type 1 either_t ∷ written_type 5 either_t ∷ [])) ≡ Some (36, 9)
as_of_union_itself = refl

as_of_named_nullable : type (over ki.As [] (of_type 1 maybe_t ∷ written_type 5 pointer_t ∷ [])) ≡ Some (ty.Of pointer_t)
as_of_named_nullable = refl

is_of_name_of_member : fault (over ki.Is [] (of_type 1 nullable_t ∷ written_type 5 link_t ∷ [])) ≡ Some (36, 9)
is_of_name_of_member = refl

op_assign_of_shift_by_exact :
    type (over ki.OpAssign (codes "<<=") (path_to 1 (means.Local 0) int_t ∷ value 5 (ty.Iconst (pos 200)) ∷ [])) ≡ Some (ty.Of void_t)
op_assign_of_shift_by_exact = refl

op_assign_shift_of_bool :
    fault (over ki.OpAssign (codes "<<=") (path_to 1 (means.Local 0) bool_t ∷ value 5 (ty.Iconst (pos 1)) ∷ [])) ≡ Some (27, 9)
op_assign_shift_of_bool = refl

op_assign_of_narrower : type (over ki.OpAssign (codes "+=") (path_to 1 (means.Local 0) u64_t ∷ of_type 5 u8_t ∷ [])) ≡ Some (ty.Of void_t)
op_assign_of_narrower = refl

size_of_never : fault (over ki.Size [] (written_type 5 never_t ∷ [])) ≡ Some (17, 9)
size_of_never = refl

size_of_named_opaque : fault (over ki.Size [] (written_type 5 hidden_t ∷ [])) ≡ Some (17, 9)
size_of_named_opaque = refl
