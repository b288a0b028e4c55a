-- Rows of unions and of coercions, worked out.
use Rattle.std.proofs.Common.{◌≡◌, ℕ, ◌++◌, [], ◌∷◌, Some, None, pos, negsuc, refl}
use Rattle.hare_types.specs.declared.coercion.Ty.TheVariants as kept
use Rattle.hare_types.specs.declared.coercion.Coercion.{Coercion}
use Rattle.hare_typed.specs.Answers.{Gives, IsUndefined}
use Rattle.hare_typed.specs.Scalars.{Address, Pointing, Nullable, cells}
use Rattle.hare_typed.specs.Words.{three}
use Rattle.hare_typed.specs.Unions.{member_by_tag, payload, union_cells}
use Rattle.hare_typed.specs.Coercions.{coerced, sliced_element, number_of_value}
use Rattle.hare_typed.proofs.Samples.{types, bytes, no_cells, void, str, i8, u8, i16, u16, i64, int, pointer, nullable, slice, three_ints, no_ints, void_or_int, void_str_or_int, void_or_nullable, void_or_slice, u8_or_size, named_int}

-- ---- values of unions

-- `(void | int)` has eight bytes: the tag of int is 1, and -2 stands at 4
int_of_two : union_cells types void_or_int int (bytes (254 ∷ 255 ∷ 255 ∷ 255 ∷ [])) ≡ bytes (1 ∷ 0 ∷ 0 ∷ 0 ∷ 254 ∷ 255 ∷ 255 ∷ 255 ∷ [])
int_of_two = refl

void_of_two : union_cells types void_or_int void [] ≡ bytes (2 ∷ 0 ∷ 0 ∷ 0 ∷ []) ++ no_cells 4
void_of_two = refl

-- `(u8 | size)` has sixteen bytes: its payload stands at 8, and what is not of the member is undefined
u8_of_two : union_cells types u8_or_size u8 (bytes (9 ∷ [])) ≡ bytes (7 ∷ 0 ∷ 0 ∷ 0 ∷ []) ++ no_cells 4 ++ bytes (9 ∷ []) ++ no_cells 7
u8_of_two = refl

tag_of_int : member_by_tag types void_or_int (bytes (1 ∷ 0 ∷ 0 ∷ 0 ∷ []) ++ no_cells 4) ≡ Gives int
tag_of_int = refl

tag_of_void : member_by_tag types void_or_int (bytes (2 ∷ 0 ∷ 0 ∷ 0 ∷ []) ++ no_cells 4) ≡ Gives void
tag_of_void = refl

-- 3 is the tag of str
tag_of_another : member_by_tag types void_or_int (bytes (3 ∷ 0 ∷ 0 ∷ 0 ∷ []) ++ no_cells 4) ≡ IsUndefined 8
tag_of_another = refl

tag_of_none : member_by_tag types void_or_int (bytes (0 ∷ 0 ∷ 0 ∷ 0 ∷ []) ++ no_cells 4) ≡ IsUndefined 8
tag_of_none = refl

undefined_tag : member_by_tag types void_or_int (no_cells 8) ≡ IsUndefined 3
undefined_tag = refl

half_a_tag : member_by_tag types void_or_int (bytes (1 ∷ 0 ∷ 0 ∷ []) ++ no_cells 5) ≡ IsUndefined 3
half_a_tag = refl

payload_of_int : payload types void_or_int int (bytes (1 ∷ 0 ∷ 0 ∷ 0 ∷ 5 ∷ 0 ∷ 0 ∷ 0 ∷ [])) ≡ Gives (bytes (5 ∷ 0 ∷ 0 ∷ 0 ∷ []))
payload_of_int = refl

payload_at_eight : payload types u8_or_size u8 (bytes (7 ∷ 0 ∷ 0 ∷ 0 ∷ 1 ∷ 1 ∷ 1 ∷ 1 ∷ 9 ∷ 2 ∷ 2 ∷ 2 ∷ 2 ∷ 2 ∷ 2 ∷ 2 ∷ []))
    ≡ Gives (bytes (9 ∷ []))
payload_at_eight = refl

undefined_payload : payload types void_or_int int (bytes (1 ∷ 0 ∷ 0 ∷ 0 ∷ []) ++ no_cells 4) ≡ IsUndefined 3
undefined_payload = refl

no_payload : payload types void_or_int void (bytes (2 ∷ 0 ∷ 0 ∷ 0 ∷ []) ++ no_cells 4) ≡ Gives []
no_payload = refl

-- an aggregate is copied as it is
payload_of_str : payload types void_str_or_int str (bytes (3 ∷ 0 ∷ 0 ∷ 0 ∷ []) ++ no_cells 28) ≡ Gives (no_cells 24)
payload_of_str = refl

-- ---- coercions

abbrev by : ℕ → ℕ → Coercion
by n t = record { row = n; to = kept.Of t }

same_type : coerced types (kept.Of int) (by 1 int) (bytes (1 ∷ 2 ∷ 3 ∷ 4 ∷ [])) ≡ Gives (bytes (1 ∷ 2 ∷ 3 ∷ 4 ∷ []))
same_type = refl

constant_finds_its_type : coerced types (kept.Iconst (negsuc 1)) (by 3 i16) [] ≡ Gives (bytes (254 ∷ 255 ∷ []))
constant_finds_its_type = refl

-- by its base
constant_of_a_name : coerced types (kept.Iconst (pos 300)) (by 3 named_int) [] ≡ Gives (bytes (44 ∷ 1 ∷ 0 ∷ 0 ∷ []))
constant_of_a_name = refl

widened_by_its_sign : coerced types (kept.Of i8) (by 4 i64) (bytes (128 ∷ []))
    ≡ Gives (bytes (128 ∷ 255 ∷ 255 ∷ 255 ∷ 255 ∷ 255 ∷ 255 ∷ 255 ∷ []))
widened_by_its_sign = refl

widened_without : coerced types (kept.Of u8) (by 4 u16) (bytes (128 ∷ [])) ≡ Gives (bytes (128 ∷ 0 ∷ []))
widened_without = refl

pointer_stays : coerced types (kept.Of pointer) (by 5 nullable) (cells Nullable (Pointing (Address 3 4)))
    ≡ Gives (cells Nullable (Pointing (Address 3 4)))
pointer_stays = refl

null_has_eight : coerced types kept.Null (by 6 nullable) [] ≡ Gives (bytes (0 ∷ 0 ∷ 0 ∷ 0 ∷ 0 ∷ 0 ∷ 0 ∷ 0 ∷ []))
null_has_eight = refl

name_stays : coerced types (kept.Of int) (by 8 named_int) (bytes (1 ∷ 0 ∷ 0 ∷ 0 ∷ [])) ≡ Gives (bytes (1 ∷ 0 ∷ 0 ∷ 0 ∷ []))
name_stays = refl

none_to_an_array_of_none : coerced types kept.Empty (by 7 no_ints) [] ≡ Gives []
none_to_an_array_of_none = refl

-- ---- coercions that make slices

array_becomes_a_slice : sliced_element types (kept.Of three_ints) (by 7 slice) ≡ Some int
array_becomes_a_slice = refl

none_becomes_a_slice : sliced_element types kept.Empty (by 7 slice) ≡ Some int
none_becomes_a_slice = refl

none_stays_an_array : sliced_element types kept.Empty (by 7 no_ints) ≡ None
none_stays_an_array = refl

array_joins_as_a_slice : sliced_element types (kept.Of three_ints) (by 9 void_or_slice) ≡ Some int
array_joins_as_a_slice = refl

slice_joins_as_it_is : sliced_element types (kept.Of slice) (by 9 void_or_slice) ≡ None
slice_joins_as_it_is = refl

-- ---- coercions to unions

member_joins : coerced types (kept.Of int) (by 9 void_or_int) (bytes (7 ∷ 0 ∷ 0 ∷ 0 ∷ []))
    ≡ Gives (bytes (1 ∷ 0 ∷ 0 ∷ 0 ∷ 7 ∷ 0 ∷ 0 ∷ 0 ∷ []))
member_joins = refl

-- a whole number without a suffix joins as its default type, int
default_joins : coerced types (kept.Iconst (pos 7)) (by 9 void_or_int) [] ≡ Gives (bytes (1 ∷ 0 ∷ 0 ∷ 0 ∷ 7 ∷ 0 ∷ 0 ∷ 0 ∷ []))
default_joins = refl

-- int is no member, and size alone holds 300
the_one_that_holds_it : coerced types (kept.Iconst (pos 300)) (by 9 u8_or_size) []
    ≡ Gives (bytes (6 ∷ 0 ∷ 0 ∷ 0 ∷ []) ++ no_cells 4 ++ bytes (44 ∷ 1 ∷ 0 ∷ 0 ∷ 0 ∷ 0 ∷ 0 ∷ 0 ∷ []))
the_one_that_holds_it = refl

null_joins : coerced types kept.Null (by 9 void_or_nullable) []
    ≡ Gives (bytes (4 ∷ 0 ∷ 0 ∷ 0 ∷ []) ++ no_cells 4 ++ bytes (0 ∷ 0 ∷ 0 ∷ 0 ∷ 0 ∷ 0 ∷ 0 ∷ 0 ∷ []))
null_joins = refl

pointer_joins : coerced types (kept.Of pointer) (by 9 void_or_nullable) (cells Nullable (Pointing (Address 3 4)))
    ≡ Gives (bytes (4 ∷ 0 ∷ 0 ∷ 0 ∷ []) ++ no_cells 4 ++ cells Nullable (Pointing (Address 3 4)))
pointer_joins = refl

slice_joins : coerced types (kept.Of three_ints) (by 9 void_or_slice)
    (three (record { data_at = Address 3 0; length = 3; capacity = 3 }))
    ≡ Gives (bytes (5 ∷ 0 ∷ 0 ∷ 0 ∷ []) ++ no_cells 4 ++ three (record { data_at = Address 3 0; length = 3; capacity = 3 }))
slice_joins = refl

-- a union goes over to one with more members: the payload moves from 4 to 8, and all else is undefined
union_joins : coerced types (kept.Of void_or_int) (by 9 void_str_or_int) (bytes (1 ∷ 0 ∷ 0 ∷ 0 ∷ 7 ∷ 0 ∷ 0 ∷ 0 ∷ []))
    ≡ Gives (bytes (1 ∷ 0 ∷ 0 ∷ 0 ∷ []) ++ no_cells 4 ++ bytes (7 ∷ 0 ∷ 0 ∷ 0 ∷ []) ++ no_cells 20)
union_joins = refl

union_joins_by_its_tag : coerced types (kept.Of void_or_int) (by 9 void_str_or_int) (bytes (3 ∷ 0 ∷ 0 ∷ 0 ∷ 7 ∷ 0 ∷ 0 ∷ 0 ∷ []))
    ≡ IsUndefined 8
union_joins_by_its_tag = refl

union_without_a_tag : coerced types (kept.Of void_or_int) (by 9 void_str_or_int) (no_cells 8) ≡ IsUndefined 3
union_without_a_tag = refl

union_reads_its_payload : coerced types (kept.Of void_or_int) (by 9 void_str_or_int) (bytes (1 ∷ 0 ∷ 0 ∷ 0 ∷ []) ++ no_cells 4)
    ≡ IsUndefined 3
union_reads_its_payload = refl

-- ---- numbers of values

number_of_int : number_of_value types (kept.Of int) (bytes (255 ∷ 255 ∷ 255 ∷ 255 ∷ [])) ≡ negsuc 0
number_of_int = refl

number_without_cells : number_of_value types (kept.Iconst (pos 12)) [] ≡ pos 12
number_without_cells = refl
