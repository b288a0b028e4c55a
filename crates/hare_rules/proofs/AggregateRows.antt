-- Rows of paths, calls, members, elements, aggregates and the heap: each met once and not met once.
use Rattle.std.specs.Prelude.{◌≡◌, refl, pos, [], ◌∷◌, codes, Some}
use Rattle.hare_tree.specs.declared.kind.Kind.TheVariants as ki
use Rattle.hare_tree.specs.declared.token.Meaning.TheVariants as means
use Rattle.hare_tree.specs.declared.token.Suffix.TheVariants as suffix
use Rattle.hare_types.specs.declared.coercion.Ty.TheVariants as ty
use Rattle.hare_rules.proofs.Worked.{absent, appended_t, asked_for, bytes_t, dropped, either_t, error_t, fallible_t, fault, in_defer, int_t, ints_t, link_t, meaning_, most_t, named_t, never_t, new_bytes_t, new_int_t, node, nothing, nullable_t, numbered_as, of_type, opaque_t, over, path_to, pointer_t, row_t, size_t, str_t, struct_t, three_t, to_bytes_t, to_struct_t, tuple_t, type, u8_t, value, void_t, with_result, written_type}

path_to_local : type (meaning_ (means.Local 0) (over ki.Path (codes "x") ([]))) ≡ Some (ty.Of int_t)
path_to_local = refl

path_to_odd_local : fault (meaning_ (means.Local 2) (over ki.Path (codes "x") ([]))) ≡ Some (33, 3)
path_to_odd_local = refl

path_to_function : fault (meaning_ (means.Decl 1) (over ki.Path (codes "x") ([]))) ≡ Some (27, 9)
path_to_function = refl

path_to_runtime_function : fault (meaning_ (means.Rt 0) (over ki.Path (codes "x") ([]))) ≡ Some (27, 9)
path_to_runtime_function = refl

path_to_def : type (meaning_ (means.Decl 2) (over ki.Path (codes "x") ([]))) ≡ Some (ty.Of int_t)
path_to_def = refl

path_to_nomem : type (meaning_ (means.Decl 4294967295) (over ki.Path (codes "x") ([]))) ≡ Some (ty.Of named_t)
path_to_nomem = refl

call_of_function :
    type (meaning_ (means.Decl 1) (over ki.Call [] (path_to 1 (means.Decl 1) void_t ∷ of_type 3 int_t ∷ absent ∷ []))) ≡ Some (ty.Of int_t)
call_of_function = refl

call_with_too_many :
    fault (meaning_ (means.Decl 1) (over ki.Call [] (path_to 1 (means.Decl 1) void_t ∷ of_type 3 int_t ∷ of_type 5 int_t ∷ absent ∷ [])))
    ≡ Some (30, 9)
call_with_too_many = refl

call_of_local : fault (meaning_ (means.Local 0) (over ki.Call [] (path_to 1 (means.Local 0) void_t ∷ absent ∷ []))) ≡ Some (31, 9)
call_of_local = refl

call_of_value : fault (over ki.Call [] (of_type 1 int_t ∷ absent ∷ [])) ≡ Some (31, 9)
call_of_value = refl

call_of_puts :
    type (meaning_ (means.Rt 0) (over ki.Call [] (path_to 1 (means.Rt 0) void_t ∷ of_type 3 str_t ∷ absent ∷ []))) ≡ Some (ty.Of void_t)
call_of_puts = refl

call_of_exit :
    type (meaning_ (means.Rt 6) (over ki.Call [] (path_to 1 (means.Rt 6) void_t ∷ of_type 3 u8_t ∷ absent ∷ []))) ≡ Some (ty.Of never_t)
call_of_exit = refl

index_of_array : type (over ki.Index [] (of_type 1 three_t ∷ of_type 5 size_t ∷ [])) ≡ Some (ty.Of int_t)
index_of_array = refl

index_through_pointer : type (over ki.Index [] (of_type 1 to_bytes_t ∷ of_type 5 size_t ∷ [])) ≡ Some (ty.Of u8_t)
index_through_pointer = refl

index_of_str : fault (over ki.Index [] (of_type 1 str_t ∷ of_type 5 size_t ∷ [])) ≡ Some (33, 9)
index_of_str = refl

slice_of_array : type (over ki.Slice [] (of_type 1 three_t ∷ absent ∷ absent ∷ [])) ≡ Some (ty.Of ints_t)
slice_of_array = refl

slice_of_int : fault (over ki.Slice [] (of_type 1 int_t ∷ absent ∷ absent ∷ [])) ≡ Some (33, 9)
slice_of_int = refl

field_of_struct : type (over ki.Field (codes "y") (of_type 1 struct_t ∷ [])) ≡ Some (ty.Of bytes_t)
field_of_struct = refl

field_through_pointer : type (over ki.Field (codes "x") (of_type 1 to_struct_t ∷ [])) ≡ Some (ty.Of int_t)
field_through_pointer = refl

field_unknown : fault (over ki.Field (codes "z") (of_type 1 struct_t ∷ [])) ≡ Some (32, 9)
field_unknown = refl

try_of_fallible : type (over ki.Try [] (of_type 1 fallible_t ∷ [])) ≡ Some (ty.Of int_t)
try_of_fallible = refl

try_of_either : fault (over ki.Try [] (of_type 1 either_t ∷ [])) ≡ Some (42, 9)
try_of_either = refl

try_in_defer : fault (in_defer (over ki.Try [] (of_type 1 fallible_t ∷ []))) ≡ Some (41, 9)
try_in_defer = refl

try_not_returned : fault (with_result int_t (over ki.Try [] (of_type 1 fallible_t ∷ []))) ≡ Some (43, 9)
try_not_returned = refl

force_of_fallible : type (over ki.Force [] (of_type 1 new_int_t ∷ [])) ≡ Some (ty.Of pointer_t)
force_of_fallible = refl

force_of_int : fault (over ki.Force [] (of_type 1 int_t ∷ [])) ≡ Some (42, 9)
force_of_int = refl

struct_literal :
    type (over ki.StructLit [] (written_type 1 struct_t ∷ node ki.FieldValue 3 (codes "y") (ty.Of void_t) (of_type 3 bytes_t ∷ [])
    ∷ node ki.FieldValue 5 (codes "x") (ty.Of void_t) (of_type 5 int_t ∷ []) ∷ absent ∷ []))
    ≡ Some (ty.Of struct_t)
struct_literal = refl

struct_literal_lacks_a_field :
    fault (over ki.StructLit [] (written_type 1 struct_t ∷ node ki.FieldValue 3 (codes "y") (ty.Of void_t) (of_type 3 bytes_t ∷ [])
    ∷ absent ∷ []))
    ≡ Some (34, 9)
struct_literal_lacks_a_field = refl

struct_literal_repeats_a_field :
    fault (over ki.StructLit [] (written_type 1 struct_t ∷ node ki.FieldValue 3 (codes "y") (ty.Of void_t) (of_type 3 bytes_t ∷ [])
    ∷ node ki.FieldValue 5 (codes "y") (ty.Of void_t) (of_type 5 bytes_t ∷ []) ∷ absent ∷ []))
    ≡ Some (34, 9)
struct_literal_repeats_a_field = refl

struct_literal_of_int :
    fault (over ki.StructLit [] (written_type 1 int_t ∷ node ki.FieldValue 3 (codes "y") (ty.Of void_t) (of_type 3 bytes_t ∷ [])
    ∷ absent ∷ []))
    ≡ Some (34, 9)
struct_literal_of_int = refl

tuple_of_values : type (over ki.Tuple [] (value 1 (ty.Iconst (pos 5)) ∷ of_type 3 u8_t ∷ absent ∷ [])) ≡ Some (ty.Of tuple_t)
tuple_of_values = refl

tuple_without_default : fault (over ki.Tuple [] (value 1 (ty.Iconst (pos 5)) ∷ value 3 ty.Null ∷ absent ∷ [])) ≡ Some (25, 3)
tuple_without_default = refl

tuple_of_unsized : fault (over ki.Tuple [] (of_type 1 int_t ∷ of_type 3 opaque_t ∷ absent ∷ [])) ≡ Some (17, 9)
tuple_of_unsized = refl

array_of_three :
    type (over ki.Array [] (value 1 (ty.Iconst (pos 1)) ∷ of_type 3 int_t ∷ of_type 5 int_t ∷ absent ∷ absent ∷ [])) ≡ Some (ty.Of three_t)
array_of_three = refl

array_without_default : fault (over ki.Array [] (value 1 ty.Null ∷ absent ∷ absent ∷ [])) ≡ Some (25, 1)
array_without_default = refl

array_of_nothing : type (over ki.Array [] (absent ∷ absent ∷ [])) ≡ Some (ty.Empty)
array_of_nothing = refl

array_with_dots :
    type (asked_for three_t (over ki.Array [] (of_type 1 int_t ∷ node ki.Dots 3 [] (ty.Of void_t) [] ∷ absent ∷ []))) ≡ Some (ty.Of three_t)
array_with_dots = refl

array_with_dots_without_hint : fault (over ki.Array [] (of_type 1 int_t ∷ node ki.Dots 3 [] (ty.Of void_t) [] ∷ absent ∷ [])) ≡ Some (25, 9)
array_with_dots_without_hint = refl

empty_array_for_three : fault (asked_for three_t (over ki.Array [] (absent ∷ absent ∷ []))) ≡ Some (25, 9)
empty_array_for_three = refl

alloc_of_int : type (over ki.Alloc [] (value 1 (ty.Iconst (pos 5)) ∷ absent ∷ [])) ≡ Some (ty.Of new_int_t)
alloc_of_int = refl

alloc_of_null : fault (over ki.Alloc [] (value 1 ty.Null ∷ absent ∷ [])) ≡ Some (25, 1)
alloc_of_null = refl

alloc_of_opaque : fault (over ki.Alloc [] (of_type 1 opaque_t ∷ absent ∷ [])) ≡ Some (17, 9)
alloc_of_opaque = refl

alloc_of_slice : type (over ki.Alloc [] (of_type 1 bytes_t ∷ of_type 3 size_t ∷ [])) ≡ Some (ty.Of new_bytes_t)
alloc_of_slice = refl

alloc_of_int_with_capacity : fault (over ki.Alloc [] (of_type 1 int_t ∷ of_type 3 size_t ∷ [])) ≡ Some (33, 9)
alloc_of_int_with_capacity = refl

alloc_for_bytes : fault (asked_for bytes_t (over ki.Alloc [] (of_type 1 bytes_t ∷ of_type 3 size_t ∷ []))) ≡ Some (25, 9)
alloc_for_bytes = refl

free_of_pointer : type (over ki.Free [] (of_type 1 pointer_t ∷ [])) ≡ Some (ty.Of void_t)
free_of_pointer = refl

free_of_str : fault (over ki.Free [] (of_type 1 str_t ∷ [])) ≡ Some (27, 9)
free_of_str = refl

append_to_value : fault (over ki.Append [] (of_type 1 bytes_t ∷ of_type 3 u8_t ∷ absent ∷ [])) ≡ Some (28, 9)
append_to_value = refl

append_to_int : fault (over ki.Append [] (path_to 1 (means.Local 0) int_t ∷ of_type 3 u8_t ∷ absent ∷ [])) ≡ Some (33, 9)
append_to_int = refl

append_to_local : type (over ki.Append [] (path_to 1 (means.Local 0) bytes_t ∷ of_type 3 u8_t ∷ absent ∷ [])) ≡ Some (ty.Of appended_t)
append_to_local = refl

append_dropped : fault (dropped (over ki.Append [] (path_to 1 (means.Local 0) bytes_t ∷ of_type 3 u8_t ∷ absent ∷ []))) ≡ Some (44, 9)
append_dropped = refl

delete_of_element :
    type (over ki.Delete [] (node ki.Index 5 [] (ty.Of u8_t) (path_to 1 (means.Local 0) bytes_t ∷ of_type 6 size_t ∷ []) ∷ []))
    ≡ Some (ty.Of void_t)
delete_of_element = refl

delete_in_parentheses :
    fault (over ki.Delete [] (node ki.Paren 4 [] (ty.Of u8_t) (node ki.Index 5 [] (ty.Of u8_t) (path_to 1 (means.Local 0) bytes_t
    ∷ of_type 6 size_t ∷ []) ∷ []) ∷ []))
    ≡ Some (28, 9)
delete_in_parentheses = refl

delete_of_array_element :
    fault (over ki.Delete [] (node ki.Index 5 [] (ty.Of u8_t) (path_to 1 (means.Local 3) three_t ∷ of_type 6 size_t ∷ []) ∷ []))
    ≡ Some (33, 9)
delete_of_array_element = refl

delete_of_value :
    fault (over ki.Delete [] (node ki.Index 5 [] (ty.Of u8_t) (of_type 1 bytes_t ∷ of_type 6 size_t ∷ []) ∷ [])) ≡ Some (28, 9)
delete_of_value = refl

delete_of_const :
    fault (over ki.Delete [] (node ki.Index 5 [] (ty.Of u8_t) (path_to 1 (means.Local 1) bytes_t ∷ of_type 6 size_t ∷ []) ∷ []))
    ≡ Some (29, 9)
delete_of_const = refl

delete_through_pointer :
    type (over ki.Delete [] (node ki.Index 5 [] (ty.Of u8_t) (of_type 1 to_bytes_t ∷ of_type 6 size_t ∷ []) ∷ [])) ≡ Some (ty.Of void_t)
delete_through_pointer = refl

len_of_array : type (over ki.Len [] (of_type 1 three_t ∷ [])) ≡ Some (ty.Of size_t)
len_of_array = refl

len_of_str : type (over ki.Len [] (of_type 1 str_t ∷ [])) ≡ Some (ty.Of size_t)
len_of_str = refl

len_of_pointer : fault (over ki.Len [] (of_type 1 to_bytes_t ∷ [])) ≡ Some (33, 9)
len_of_pointer = refl

offset_of_field : type (over ki.Offset [] (node ki.Field 5 (codes "x") (ty.Of int_t) (of_type 6 struct_t ∷ []) ∷ [])) ≡ Some (ty.Of size_t)
offset_of_field = refl

offset_of_value : fault (over ki.Offset [] (of_type 5 int_t ∷ [])) ≡ Some (32, 9)
offset_of_value = refl

call_with_too_few : fault (meaning_ (means.Decl 1) (over ki.Call [] (path_to 1 (means.Decl 1) void_t ∷ absent ∷ []))) ≡ Some (30, 9)
call_with_too_few = refl

call_of_def : fault (meaning_ (means.Decl 2) (over ki.Call [] (path_to 1 (means.Decl 2) void_t ∷ absent ∷ []))) ≡ Some (31, 9)
call_of_def = refl

call_of_odd_local : fault (meaning_ (means.Local 2) (over ki.Call [] (path_to 1 (means.Local 2) void_t ∷ absent ∷ []))) ≡ Some (31, 9)
call_of_odd_local = refl

call_in_parentheses :
    fault (meaning_ means.None (over ki.Call [] (node ki.Paren 1 [] (ty.Of int_t) (path_to 2 (means.Decl 1) int_t ∷ []) ∷ absent ∷ [])))
    ≡ Some (31, 9)
call_in_parentheses = refl

call_of_rt_write :
    type (meaning_ (means.Rt 1) (over ki.Call [] (path_to 1 (means.Rt 1) void_t ∷ of_type 3 bytes_t ∷ absent ∷ []))) ≡ Some (ty.Of void_t)
call_of_rt_write = refl

call_of_rt_read :
    type (meaning_ (means.Rt 2) (over ki.Call [] (path_to 1 (means.Rt 2) void_t ∷ of_type 3 bytes_t ∷ absent ∷ []))) ≡ Some (ty.Of size_t)
call_of_rt_read = refl

call_of_rt_bytes :
    type (meaning_ (means.Rt 3) (over ki.Call [] (path_to 1 (means.Rt 3) void_t ∷ of_type 3 str_t ∷ absent ∷ []))) ≡ Some (ty.Of bytes_t)
call_of_rt_bytes = refl

call_of_rt_nargs : type (meaning_ (means.Rt 4) (over ki.Call [] (path_to 1 (means.Rt 4) void_t ∷ absent ∷ []))) ≡ Some (ty.Of size_t)
call_of_rt_nargs = refl

call_of_rt_arg :
    type (meaning_ (means.Rt 5) (over ki.Call [] (path_to 1 (means.Rt 5) void_t ∷ of_type 3 size_t ∷ absent ∷ []))) ≡ Some (ty.Of str_t)
call_of_rt_arg = refl

call_of_nargs_with_one :
    fault (meaning_ (means.Rt 4) (over ki.Call [] (path_to 1 (means.Rt 4) void_t ∷ of_type 3 int_t ∷ absent ∷ []))) ≡ Some (30, 9)
call_of_nargs_with_one = refl

index_of_named_array : type (over ki.Index [] (of_type 1 row_t ∷ of_type 5 size_t ∷ [])) ≡ Some (ty.Of int_t)
index_of_named_array = refl

index_of_nullable : fault (over ki.Index [] (of_type 1 nullable_t ∷ of_type 5 size_t ∷ [])) ≡ Some (33, 9)
index_of_nullable = refl

slice_through_pointer : type (over ki.Slice [] (of_type 1 to_bytes_t ∷ absent ∷ absent ∷ [])) ≡ Some (ty.Of bytes_t)
slice_through_pointer = refl

slice_of_empty : fault (over ki.Slice [] (value 1 (ty.Empty) ∷ absent ∷ absent ∷ [])) ≡ Some (33, 9)
slice_of_empty = refl

component_of_tuple : type (numbered_as 1 suffix.None (over ki.Field (codes "1") (of_type 1 tuple_t ∷ []))) ≡ Some (ty.Of u8_t)
component_of_tuple = refl

component_by_two_digits : type (numbered_as 0 suffix.None (over ki.Field (codes "00") (of_type 1 tuple_t ∷ []))) ≡ Some (ty.Of int_t)
component_by_two_digits = refl

component_past_the_last : fault (numbered_as 2 suffix.None (over ki.Field (codes "2") (of_type 1 tuple_t ∷ []))) ≡ Some (32, 9)
component_past_the_last = refl

component_with_suffix : fault (numbered_as 0 suffix.Z (over ki.Field (codes "0z") (of_type 1 tuple_t ∷ []))) ≡ Some (32, 9)
component_with_suffix = refl

component_in_hexadecimal : fault (numbered_as 0 suffix.None (over ki.Field (codes "0x0") (of_type 1 tuple_t ∷ []))) ≡ Some (32, 9)
component_in_hexadecimal = refl

number_of_struct : fault (numbered_as 0 suffix.None (over ki.Field (codes "0") (of_type 1 struct_t ∷ []))) ≡ Some (32, 9)
number_of_struct = refl

name_of_tuple : fault (over ki.Field (codes "x") (of_type 1 tuple_t ∷ [])) ≡ Some (32, 9)
name_of_tuple = refl

try_of_errors_alone : type (with_result error_t (over ki.Try [] (of_type 1 appended_t ∷ []))) ≡ Some (ty.Of void_t)
try_of_errors_alone = refl

force_in_defer : fault (in_defer (over ki.Force [] (of_type 1 fallible_t ∷ []))) ≡ nothing
force_in_defer = refl

tuple_for_hint : type (asked_for tuple_t (over ki.Tuple [] (of_type 1 int_t ∷ of_type 3 u8_t ∷ absent ∷ []))) ≡ Some (ty.Of tuple_t)
tuple_for_hint = refl

tuple_past_its_bound : fault (over ki.Tuple [] (of_type 1 most_t ∷ of_type 3 u8_t ∷ absent ∷ [])) ≡ Some (18, 9)
tuple_past_its_bound = refl

tuple_within_its_bound : fault (over ki.Tuple [] (of_type 1 most_t ∷ of_type 3 void_t ∷ absent ∷ [])) ≡ nothing
tuple_within_its_bound = refl

array_of_opaque : fault (over ki.Array [] (of_type 1 opaque_t ∷ absent ∷ absent ∷ [])) ≡ Some (17, 9)
array_of_opaque = refl

array_past_its_bound : fault (over ki.Array [] (of_type 1 most_t ∷ of_type 3 most_t ∷ absent ∷ absent ∷ [])) ≡ Some (18, 9)
array_past_its_bound = refl

array_within_its_bound : fault (over ki.Array [] (of_type 1 most_t ∷ absent ∷ absent ∷ [])) ≡ nothing
array_within_its_bound = refl

array_with_dots_too_long :
    fault (asked_for three_t (over ki.Array [] (of_type 1 int_t ∷ of_type 2 int_t ∷ of_type 3 int_t ∷ of_type 4 int_t
    ∷ node ki.Dots 5 [] (ty.Of void_t) ([]) ∷ absent ∷ [])))
    ≡ Some (25, 9)
array_with_dots_too_long = refl

array_with_dots_for_slice :
    fault (asked_for ints_t (over ki.Array [] (of_type 1 int_t ∷ node ki.Dots 5 [] (ty.Of void_t) ([]) ∷ absent ∷ []))) ≡ Some (25, 9)
array_with_dots_for_slice = refl

array_with_dots_for_a_name :
    type (asked_for row_t (over ki.Array [] (of_type 1 int_t ∷ node ki.Dots 5 [] (ty.Of void_t) ([]) ∷ absent ∷ []))) ≡ Some (ty.Of three_t)
array_with_dots_for_a_name = refl

array_for_slice :
    fault (asked_for ints_t (over ki.Array [] (of_type 1 int_t ∷ of_type 3 int_t ∷ of_type 5 int_t ∷ absent ∷ absent ∷ []))) ≡ nothing
array_for_slice = refl

empty_array_for_slice : fault (asked_for ints_t (over ki.Array [] (absent ∷ absent ∷ []))) ≡ nothing
empty_array_for_slice = refl

array_of_two_for_three :
    fault (asked_for three_t (over ki.Array [] (of_type 1 int_t ∷ of_type 3 int_t ∷ absent ∷ absent ∷ []))) ≡ Some (25, 9)
array_of_two_for_three = refl

alloc_of_union_hint : type (asked_for new_int_t (over ki.Alloc [] (of_type 1 int_t ∷ absent ∷ []))) ≡ Some (ty.Of new_int_t)
alloc_of_union_hint = refl

alloc_of_null_with_capacity : fault (over ki.Alloc [] (value 1 (ty.Null) ∷ of_type 3 size_t ∷ [])) ≡ Some (33, 9)
alloc_of_null_with_capacity = refl

free_of_nullable : type (over ki.Free [] (of_type 1 nullable_t ∷ [])) ≡ Some (ty.Of void_t)
free_of_nullable = refl

free_of_slice : type (over ki.Free [] (of_type 1 bytes_t ∷ [])) ≡ Some (ty.Of void_t)
free_of_slice = refl

free_of_named_pointer : type (over ki.Free [] (of_type 1 link_t ∷ [])) ≡ Some (ty.Of void_t)
free_of_named_pointer = refl

free_of_array : fault (over ki.Free [] (of_type 1 three_t ∷ [])) ≡ Some (27, 9)
free_of_array = refl

free_of_null : fault (over ki.Free [] (value 1 (ty.Null) ∷ [])) ≡ Some (27, 9)
free_of_null = refl

append_to_const : fault (over ki.Append [] (path_to 1 (means.Local 1) bytes_t ∷ of_type 3 u8_t ∷ absent ∷ [])) ≡ Some (29, 9)
append_to_const = refl

append_through_pointer : fault (over ki.Append [] (path_to 1 (means.Local 0) to_bytes_t ∷ of_type 3 u8_t ∷ absent ∷ [])) ≡ Some (33, 9)
append_through_pointer = refl

append_of_a_slice :
    type (over ki.Append [] (path_to 1 (means.Local 0) bytes_t ∷ of_type 3 bytes_t ∷ node ki.Dots 4 [] (ty.Of void_t) ([]) ∷ []))
    ≡ Some (ty.Of appended_t)
append_of_a_slice = refl

delete_of_slice :
    type (over ki.Delete [] (node ki.Slice 5 [] (ty.Of bytes_t) (path_to 1 (means.Local 0) bytes_t ∷ absent ∷ absent ∷ []) ∷ []))
    ≡ Some (ty.Of void_t)
delete_of_slice = refl

delete_of_call : fault (over ki.Delete [] (of_type 5 u8_t ∷ [])) ≡ Some (28, 9)
delete_of_call = refl

len_of_slice : type (over ki.Len [] (of_type 1 bytes_t ∷ [])) ≡ Some (ty.Of size_t)
len_of_slice = refl

len_of_empty : fault (over ki.Len [] (value 1 (ty.Empty) ∷ [])) ≡ Some (33, 9)
len_of_empty = refl

offset_in_parentheses :
    fault (over ki.Offset [] (node ki.Paren 4 [] (ty.Of int_t) (node ki.Field 5 (codes "x") (ty.Of int_t) (of_type 6 struct_t ∷ [])
    ∷ []) ∷ []))
    ≡ Some (32, 9)
offset_in_parentheses = refl

addr_of_element_of_const_slice :
    type (over ki.Addr [] (node ki.Index 5 [] (ty.Of int_t) (path_to 1 (means.Local 1) ints_t ∷ of_type 6 size_t ∷ []) ∷ []))
    ≡ Some (ty.Of pointer_t)
addr_of_element_of_const_slice = refl

addr_of_element_of_const_array :
    fault (over ki.Addr [] (node ki.Index 5 [] (ty.Of int_t) (path_to 1 (means.Local 1) three_t ∷ of_type 6 size_t ∷ []) ∷ []))
    ≡ Some (29, 9)
addr_of_element_of_const_array = refl

addr_of_element_of_value :
    fault (over ki.Addr [] (node ki.Index 5 [] (ty.Of int_t) (of_type 1 three_t ∷ of_type 6 size_t ∷ []) ∷ [])) ≡ Some (28, 9)
addr_of_element_of_value = refl

addr_of_element_of_slice_value :
    type (over ki.Addr [] (node ki.Index 5 [] (ty.Of int_t) (of_type 1 ints_t ∷ of_type 6 size_t ∷ []) ∷ [])) ≡ Some (ty.Of pointer_t)
addr_of_element_of_slice_value = refl

addr_of_field_of_const :
    fault (over ki.Addr [] (node ki.Field 5 (codes "x") (ty.Of int_t) (path_to 1 (means.Local 1) struct_t ∷ []) ∷ [])) ≡ Some (29, 9)
addr_of_field_of_const = refl

addr_of_field_through_const_pointer :
    type (over ki.Addr [] (node ki.Field 5 (codes "x") (ty.Of int_t) (path_to 1 (means.Local 1) to_struct_t ∷ []) ∷ []))
    ≡ Some (ty.Of pointer_t)
addr_of_field_through_const_pointer = refl

addr_of_deref : type (over ki.Addr [] (node ki.Deref 5 [] (ty.Of int_t) (of_type 6 pointer_t ∷ []) ∷ [])) ≡ Some (ty.Of pointer_t)
addr_of_deref = refl

addr_in_parentheses :
    type (over ki.Addr [] (node ki.Paren 5 [] (ty.Of int_t) (path_to 6 (means.Local 0) int_t ∷ []) ∷ [])) ≡ Some (ty.Of pointer_t)
addr_in_parentheses = refl

addr_of_def : fault (over ki.Addr [] (path_to 5 (means.Decl 2) int_t ∷ [])) ≡ Some (28, 9)
addr_of_def = refl

addr_of_function : fault (over ki.Addr [] (path_to 5 (means.Decl 1) int_t ∷ [])) ≡ Some (28, 9)
addr_of_function = refl

addr_of_cast :
    fault (over ki.Addr [] (node ki.Cast 5 [] (ty.Of int_t) (path_to 1 (means.Local 0) int_t ∷ written_type 6 int_t ∷ []) ∷ []))
    ≡ Some (28, 9)
addr_of_cast = refl

assign_to_slice :
    fault (over ki.Assign [] (node ki.Slice 1 [] (ty.Of ints_t) (path_to 1 (means.Local 0) ints_t ∷ absent ∷ absent ∷ [])
    ∷ of_type 5 ints_t ∷ []))
    ≡ Some (28, 9)
assign_to_slice = refl
