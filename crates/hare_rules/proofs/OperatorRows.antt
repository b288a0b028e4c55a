-- Rows of operators: each met once and not met once, and the types of the nodes.
use Rattle.std.specs.Prelude.{◌≡◌, refl, pos, negsuc, ◌^◌, ◌-◌, [], ◌∷◌, codes, Some}
use Rattle.hare_tree.specs.declared.kind.Kind.TheVariants as ki
use Rattle.hare_tree.specs.declared.token.Meaning.TheVariants as means
use Rattle.hare_types.specs.declared.coercion.Ty.TheVariants as ty
use Rattle.hare_rules.proofs.Worked.{asked_for, bool_t, dropped, either_t, fallible_t, fault, i32_t, int_t, nothing, nullable_t, of_type, opaque_t, over, path_to, pointer_t, rune_t, size_t, str_t, struct_t, to_opaque_t, to_struct_t, type, u64_t, u8_t, value, void_t, written_type}

neg_of_iconst : type (over ki.Neg [] (value 5 (ty.Iconst (pos 5)) ∷ [])) ≡ Some (ty.Iconst (negsuc 4))
neg_of_iconst = refl

neg_of_str : fault (over ki.Neg [] (of_type 5 str_t ∷ [])) ≡ Some (27, 9)
neg_of_str = refl

neg_past_128_bits : fault (over ki.Neg [] (value 5 (ty.Iconst (negsuc (2 ^ 127 - 1))) ∷ [])) ≡ Some (22, 9)
neg_past_128_bits = refl

not_of_iconst : type (over ki.Not [] (value 5 (ty.Iconst (pos 0)) ∷ [])) ≡ Some (ty.Iconst (negsuc 0))
not_of_iconst = refl

not_of_bool : fault (over ki.Not [] (of_type 5 bool_t ∷ [])) ≡ Some (27, 9)
not_of_bool = refl

bang_of_bool : type (over ki.Bang [] (of_type 5 bool_t ∷ [])) ≡ Some (ty.Of bool_t)
bang_of_bool = refl

bang_of_int : fault (over ki.Bang [] (of_type 5 int_t ∷ [])) ≡ Some (27, 9)
bang_of_int = refl

deref_of_pointer : type (over ki.Deref [] (of_type 5 pointer_t ∷ [])) ≡ Some (ty.Of int_t)
deref_of_pointer = refl

deref_of_nullable : fault (over ki.Deref [] (of_type 5 nullable_t ∷ [])) ≡ Some (27, 9)
deref_of_nullable = refl

deref_of_opaque : fault (over ki.Deref [] (of_type 5 to_opaque_t ∷ [])) ≡ Some (27, 9)
deref_of_opaque = refl

addr_of_local : type (over ki.Addr [] (path_to 5 (means.Local 0) int_t ∷ [])) ≡ Some (ty.Of pointer_t)
addr_of_local = refl

addr_of_value : fault (over ki.Addr [] (of_type 5 int_t ∷ [])) ≡ Some (28, 9)
addr_of_value = refl

addr_of_const : fault (over ki.Addr [] (path_to 5 (means.Local 1) int_t ∷ [])) ≡ Some (29, 9)
addr_of_const = refl

sum_of_iconsts :
    type (over ki.Arith (codes "+") (value 1 (ty.Iconst (pos 255)) ∷ value 5 (ty.Iconst (pos 1)) ∷ [])) ≡ Some (ty.Iconst (pos 256))
sum_of_iconsts = refl

sum_of_i32_and_u8 : fault (over ki.Arith (codes "+") (of_type 1 i32_t ∷ of_type 5 u8_t ∷ [])) ≡ Some (27, 9)
sum_of_i32_and_u8 = refl

sum_of_u8_and_u64 : type (over ki.Arith (codes "+") (of_type 1 u8_t ∷ of_type 5 u64_t ∷ [])) ≡ Some (ty.Of u64_t)
sum_of_u8_and_u64 = refl

sum_of_u64_and_u8 : type (over ki.Arith (codes "+") (of_type 1 u64_t ∷ of_type 5 u8_t ∷ [])) ≡ Some (ty.Of u64_t)
sum_of_u64_and_u8 = refl

sum_of_int_and_i32 : fault (over ki.Arith (codes "+") (of_type 1 int_t ∷ of_type 5 i32_t ∷ [])) ≡ Some (27, 9)
sum_of_int_and_i32 = refl

sum_of_iconst_and_int : type (over ki.Arith (codes "+") (value 1 (ty.Iconst (pos 7)) ∷ of_type 5 int_t ∷ [])) ≡ Some (ty.Of int_t)
sum_of_iconst_and_int = refl

sum_of_u8_and_256 : fault (over ki.Arith (codes "+") (of_type 1 u8_t ∷ value 5 (ty.Iconst (pos 256)) ∷ [])) ≡ Some (27, 9)
sum_of_u8_and_256 = refl

division_by_zero : fault (over ki.Arith (codes "/") (value 1 (ty.Iconst (pos 1)) ∷ value 5 (ty.Iconst (pos 0)) ∷ [])) ≡ Some (22, 9)
division_by_zero = refl

remainder_by_zero : fault (over ki.Arith (codes "%") (value 1 (ty.Iconst (pos 1)) ∷ value 5 (ty.Iconst (pos 0)) ∷ [])) ≡ Some (22, 9)
remainder_by_zero = refl

division_toward_zero :
    type (over ki.Arith (codes "/") (value 1 (ty.Iconst (negsuc 6)) ∷ value 5 (ty.Iconst (pos 2)) ∷ [])) ≡ Some (ty.Iconst (negsuc 2))
division_toward_zero = refl

remainder_of_negative :
    type (over ki.Arith (codes "%") (value 1 (ty.Iconst (negsuc 6)) ∷ value 5 (ty.Iconst (pos 2)) ∷ [])) ≡ Some (ty.Iconst (negsuc 0))
remainder_of_negative = refl

remainder_of_least :
    type (over ki.Arith (codes "%") (value 1 (ty.Iconst (negsuc (2 ^ 127 - 1))) ∷ value 5 (ty.Iconst (negsuc 0)) ∷ []))
    ≡ Some (ty.Iconst (pos 0))
remainder_of_least = refl

division_of_least :
    fault (over ki.Arith (codes "/") (value 1 (ty.Iconst (negsuc (2 ^ 127 - 1))) ∷ value 5 (ty.Iconst (negsuc 0)) ∷ [])) ≡ Some (22, 9)
division_of_least = refl

sum_past_128_bits :
    fault (over ki.Arith (codes "+") (value 1 (ty.Iconst (pos (2 ^ 127 - 1))) ∷ value 5 (ty.Iconst (pos 1)) ∷ [])) ≡ Some (22, 9)
sum_past_128_bits = refl

and_of_negative :
    type (over ki.Arith (codes "&") (value 1 (ty.Iconst (negsuc 0)) ∷ value 5 (ty.Iconst (pos 12)) ∷ [])) ≡ Some (ty.Iconst (pos 12))
and_of_negative = refl

or_of_negative :
    type (over ki.Arith (codes "|") (value 1 (ty.Iconst (negsuc 7)) ∷ value 5 (ty.Iconst (pos 3)) ∷ [])) ≡ Some (ty.Iconst (negsuc 4))
or_of_negative = refl

xor_of_negative :
    type (over ki.Arith (codes "^") (value 1 (ty.Iconst (negsuc 0)) ∷ value 5 (ty.Iconst (pos 0)) ∷ [])) ≡ Some (ty.Iconst (negsuc 0))
xor_of_negative = refl

runes_are_no_numbers : fault (over ki.Arith (codes "+") (of_type 1 rune_t ∷ of_type 5 rune_t ∷ [])) ≡ Some (27, 9)
runes_are_no_numbers = refl

shift_of_iconsts :
    type (over ki.Shift (codes "<<") (value 1 (ty.Iconst (pos 1)) ∷ value 5 (ty.Iconst (pos 10)) ∷ [])) ≡ Some (ty.Iconst (pos 1024))
shift_of_iconsts = refl

shift_by_128 : fault (over ki.Shift (codes "<<") (value 1 (ty.Iconst (pos 1)) ∷ value 5 (ty.Iconst (pos 128)) ∷ [])) ≡ Some (22, 9)
shift_by_128 = refl

shift_by_negative : fault (over ki.Shift (codes ">>") (value 1 (ty.Iconst (pos 1)) ∷ value 5 (ty.Iconst (negsuc 0)) ∷ [])) ≡ Some (22, 9)
shift_by_negative = refl

shift_loses_no_bits : fault (over ki.Shift (codes "<<") (value 1 (ty.Iconst (pos 3)) ∷ value 5 (ty.Iconst (pos 126)) ∷ [])) ≡ Some (22, 9)
shift_loses_no_bits = refl

shift_rounds_down :
    type (over ki.Shift (codes ">>") (value 1 (ty.Iconst (negsuc 2)) ∷ value 5 (ty.Iconst (pos 1)) ∷ [])) ≡ Some (ty.Iconst (negsuc 1))
shift_rounds_down = refl

shift_of_u8_by_200 : type (over ki.Shift (codes "<<") (of_type 1 u8_t ∷ value 5 (ty.Iconst (pos 200)) ∷ [])) ≡ Some (ty.Of u8_t)
shift_of_u8_by_200 = refl

shift_of_iconst_by_int : type (over ki.Shift (codes "<<") (value 1 (ty.Iconst (pos 1)) ∷ of_type 5 int_t ∷ [])) ≡ Some (ty.Of int_t)
shift_of_iconst_by_int = refl

shift_of_str : fault (over ki.Shift (codes "<<") (of_type 1 str_t ∷ value 5 (ty.Iconst (pos 1)) ∷ [])) ≡ Some (27, 9)
shift_of_str = refl

shift_of_great_iconst_by_int :
    fault (over ki.Shift (codes "<<") (value 1 (ty.Iconst (pos (2 ^ 100))) ∷ of_type 5 int_t ∷ [])) ≡ Some (27, 9)
shift_of_great_iconst_by_int = refl

less_of_runes : type (over ki.Less (codes "<") (of_type 1 rune_t ∷ of_type 5 rune_t ∷ [])) ≡ Some (ty.Of bool_t)
less_of_runes = refl

less_of_bools : fault (over ki.Less (codes "<") (of_type 1 bool_t ∷ of_type 5 bool_t ∷ [])) ≡ Some (27, 9)
less_of_bools = refl

less_of_rune_and_iconst : fault (over ki.Less (codes "<") (of_type 1 rune_t ∷ value 5 (ty.Iconst (pos 65)) ∷ [])) ≡ Some (27, 9)
less_of_rune_and_iconst = refl

equal_bools : type (over ki.Equal (codes "==") (of_type 1 bool_t ∷ of_type 5 bool_t ∷ [])) ≡ Some (ty.Of bool_t)
equal_bools = refl

equal_strs : type (over ki.Equal (codes "==") (of_type 1 str_t ∷ of_type 5 str_t ∷ [])) ≡ Some (ty.Of bool_t)
equal_strs = refl

equal_pointers : type (over ki.Equal (codes "==") (of_type 1 pointer_t ∷ of_type 5 pointer_t ∷ [])) ≡ Some (ty.Of bool_t)
equal_pointers = refl

equal_pointer_and_nullable : type (over ki.Equal (codes "==") (of_type 1 pointer_t ∷ of_type 5 nullable_t ∷ [])) ≡ Some (ty.Of bool_t)
equal_pointer_and_nullable = refl

equal_null_and_nullable : type (over ki.Equal (codes "!=") (value 1 ty.Null ∷ of_type 5 nullable_t ∷ [])) ≡ Some (ty.Of bool_t)
equal_null_and_nullable = refl

equal_null_and_pointer : fault (over ki.Equal (codes "==") (value 1 ty.Null ∷ of_type 5 pointer_t ∷ [])) ≡ Some (27, 9)
equal_null_and_pointer = refl

equal_nulls : fault (over ki.Equal (codes "==") (value 1 ty.Null ∷ value 5 ty.Null ∷ [])) ≡ Some (27, 9)
equal_nulls = refl

equal_structs : fault (over ki.Equal (codes "==") (of_type 1 struct_t ∷ of_type 5 struct_t ∷ [])) ≡ Some (27, 9)
equal_structs = refl

equal_int_and_i32 : fault (over ki.Equal (codes "==") (of_type 1 int_t ∷ of_type 5 i32_t ∷ [])) ≡ Some (27, 9)
equal_int_and_i32 = refl

logic_is_bool : type (over ki.Logic (codes "&&") (of_type 1 bool_t ∷ of_type 5 bool_t ∷ [])) ≡ Some (ty.Of bool_t)
logic_is_bool = refl

assign_to_local : type (over ki.Assign [] (path_to 1 (means.Local 0) int_t ∷ of_type 5 int_t ∷ [])) ≡ Some (ty.Of void_t)
assign_to_local = refl

assign_to_value : fault (over ki.Assign [] (of_type 1 int_t ∷ of_type 5 int_t ∷ [])) ≡ Some (28, 9)
assign_to_value = refl

assign_to_const_global : fault (over ki.Assign [] (path_to 1 (means.Decl 3) int_t ∷ of_type 5 int_t ∷ [])) ≡ Some (29, 9)
assign_to_const_global = refl

assign_to_global : type (over ki.Assign [] (path_to 1 (means.Decl 0) int_t ∷ of_type 5 int_t ∷ [])) ≡ Some (ty.Of void_t)
assign_to_global = refl

add_to_local :
    type (over ki.OpAssign (codes "+=") (path_to 1 (means.Local 0) int_t ∷ value 5 (ty.Iconst (pos 1)) ∷ [])) ≡ Some (ty.Of void_t)
add_to_local = refl

add_wider_to_local : fault (over ki.OpAssign (codes "+=") (path_to 1 (means.Local 0) int_t ∷ of_type 5 u64_t ∷ [])) ≡ Some (27, 9)
add_wider_to_local = refl

shift_local : type (over ki.OpAssign (codes "<<=") (path_to 1 (means.Local 0) int_t ∷ of_type 5 u64_t ∷ [])) ≡ Some (ty.Of void_t)
shift_local = refl

add_to_const : fault (over ki.OpAssign (codes "+=") (path_to 1 (means.Local 1) int_t ∷ value 5 (ty.Iconst (pos 1)) ∷ [])) ≡ Some (29, 9)
add_to_const = refl

add_to_value : fault (over ki.OpAssign (codes "+=") (of_type 1 int_t ∷ of_type 5 str_t ∷ [])) ≡ Some (28, 9)
add_to_value = refl

cast_of_bool : fault (over ki.Cast [] (of_type 1 bool_t ∷ written_type 5 int_t ∷ [])) ≡ Some (26, 9)
cast_of_bool = refl

cast_of_rune : type (over ki.Cast [] (of_type 1 rune_t ∷ written_type 5 u8_t ∷ [])) ≡ Some (ty.Of u8_t)
cast_of_rune = refl

cast_of_pointer : type (over ki.Cast [] (of_type 1 pointer_t ∷ written_type 5 to_struct_t ∷ [])) ≡ Some (ty.Of to_struct_t)
cast_of_pointer = refl

as_of_member : type (over ki.As [] (of_type 1 either_t ∷ written_type 5 str_t ∷ [])) ≡ Some (ty.Of str_t)
as_of_member = refl

as_of_no_member : fault (over ki.As [] (of_type 1 either_t ∷ written_type 5 u8_t ∷ [])) ≡ Some (36, 9)
as_of_no_member = refl

as_of_int : fault (over ki.As [] (of_type 1 int_t ∷ written_type 5 u8_t ∷ [])) ≡ Some (35, 9)
as_of_int = refl

is_of_nullable : type (over ki.Is [] (of_type 1 nullable_t ∷ written_type 5 pointer_t ∷ [])) ≡ Some (ty.Of bool_t)
is_of_nullable = refl

is_of_nullable_itself : fault (over ki.Is [] (of_type 1 nullable_t ∷ written_type 5 nullable_t ∷ [])) ≡ Some (36, 9)
is_of_nullable_itself = refl

size_of_int : type (over ki.Size [] (written_type 5 int_t ∷ [])) ≡ Some (ty.Of size_t)
size_of_int = refl

size_of_opaque : fault (over ki.Align [] (written_type 5 opaque_t ∷ [])) ≡ Some (17, 9)
size_of_opaque = refl

site_of_u8 :
    fault (asked_for u8_t (over ki.Arith (codes "+") (value 1 (ty.Iconst (pos 255)) ∷ value 5 (ty.Iconst (pos 1)) ∷ []))) ≡ Some (25, 9)
site_of_u8 = refl

site_of_u64 : fault (asked_for u64_t (over ki.Arith (codes "+") (of_type 1 u8_t ∷ of_type 5 u8_t ∷ []))) ≡ nothing
site_of_u64 = refl

dropped_error : fault (dropped (over ki.Paren [] (of_type 1 fallible_t ∷ []))) ≡ Some (44, 9)
dropped_error = refl

dropped_int : fault (dropped (over ki.Paren [] (of_type 1 int_t ∷ []))) ≡ nothing
dropped_int = refl
