-- Rows of scalars and their cells, worked out.
use Rattle.std.proofs.Common.{◌≡◌, ℕ, ◌++◌, true, false, List, [], ◌∷◌, Some, None, pos, negsuc, refl}
use Rattle.std.specs.Prelude.{option_map}
use Rattle.hare_typed.specs.declared.cell.Cell.{Cell}
use Rattle.hare_typed.specs.declared.cell.Cell.TheVariants as cell
use Rattle.hare_typed.specs.Scalars.{Null, Address, Number, Pointing, Whole, Truth, Reference, Nullable, cells, spelled}
use Rattle.hare_typed.specs.Shapes.{shape_at}
use Rattle.hare_typed.proofs.Samples.{types, bytes, void, never, opaque, bool, rune, str, int, size, pointer, nullable, slice, pair, void_or_int, named_int, failure}

-- ---- which types are scalar

void_has_no_bytes : shape_at types void ≡ Some (Whole 0 false)
void_has_no_bytes = refl

never_is_none : shape_at types never ≡ None
never_is_none = refl

opaque_is_none : shape_at types opaque ≡ None
opaque_is_none = refl

bool_is_one : shape_at types bool ≡ Some Truth
bool_is_one = refl

rune_has_four : shape_at types rune ≡ Some (Whole 4 false)
rune_has_four = refl

str_is_none : shape_at types str ≡ None
str_is_none = refl

int_has_four : shape_at types int ≡ Some (Whole 4 true)
int_has_four = refl

size_has_eight : shape_at types size ≡ Some (Whole 8 false)
size_has_eight = refl

pointer_is_one : shape_at types pointer ≡ Some Reference
pointer_is_one = refl

nullable_is_one : shape_at types nullable ≡ Some Nullable
nullable_is_one = refl

slice_is_none : shape_at types slice ≡ None
slice_is_none = refl

struct_is_none : shape_at types pair ≡ None
struct_is_none = refl

union_is_none : shape_at types void_or_int ≡ None
union_is_none = refl

-- names and error marks are followed
name_is_followed : shape_at types named_int ≡ Some (Whole 4 true)
name_is_followed = refl

mark_is_followed : shape_at types failure ≡ Some (Whole 0 false)
mark_is_followed = refl

-- ---- the cells of numbers, at both ends

i8_least : cells (Whole 1 true) (Number (negsuc 127)) ≡ bytes (128 ∷ [])
i8_least = refl

i8_greatest : cells (Whole 1 true) (Number (pos 127)) ≡ bytes (127 ∷ [])
i8_greatest = refl

i8_minus_one : cells (Whole 1 true) (Number (negsuc 0)) ≡ bytes (255 ∷ [])
i8_minus_one = refl

u8_least : cells (Whole 1 false) (Number (pos 0)) ≡ bytes (0 ∷ [])
u8_least = refl

u8_greatest : cells (Whole 1 false) (Number (pos 255)) ≡ bytes (255 ∷ [])
u8_greatest = refl

i16_least : cells (Whole 2 true) (Number (negsuc 32767)) ≡ bytes (0 ∷ 128 ∷ [])
i16_least = refl

i16_greatest : cells (Whole 2 true) (Number (pos 32767)) ≡ bytes (255 ∷ 127 ∷ [])
i16_greatest = refl

u16_low_first : cells (Whole 2 false) (Number (pos 513)) ≡ bytes (1 ∷ 2 ∷ [])
u16_low_first = refl

u16_greatest : cells (Whole 2 false) (Number (pos 65535)) ≡ bytes (255 ∷ 255 ∷ [])
u16_greatest = refl

i32_least : cells (Whole 4 true) (Number (negsuc 2147483647)) ≡ bytes (0 ∷ 0 ∷ 0 ∷ 128 ∷ [])
i32_least = refl

i32_greatest : cells (Whole 4 true) (Number (pos 2147483647)) ≡ bytes (255 ∷ 255 ∷ 255 ∷ 127 ∷ [])
i32_greatest = refl

u32_greatest : cells (Whole 4 false) (Number (pos 4294967295)) ≡ bytes (255 ∷ 255 ∷ 255 ∷ 255 ∷ [])
u32_greatest = refl

i64_least : cells (Whole 8 true) (Number (negsuc 9223372036854775807)) ≡ bytes (0 ∷ 0 ∷ 0 ∷ 0 ∷ 0 ∷ 0 ∷ 0 ∷ 128 ∷ [])
i64_least = refl

i64_greatest : cells (Whole 8 true) (Number (pos 9223372036854775807)) ≡ bytes (255 ∷ 255 ∷ 255 ∷ 255 ∷ 255 ∷ 255 ∷ 255 ∷ 127 ∷ [])
i64_greatest = refl

u64_least : cells (Whole 8 false) (Number (pos 0)) ≡ bytes (0 ∷ 0 ∷ 0 ∷ 0 ∷ 0 ∷ 0 ∷ 0 ∷ 0 ∷ [])
u64_least = refl

u64_greatest : cells (Whole 8 false) (Number (pos 18446744073709551615)) ≡ bytes (255 ∷ 255 ∷ 255 ∷ 255 ∷ 255 ∷ 255 ∷ 255 ∷ 255 ∷ [])
u64_greatest = refl

void_has_none : cells (Whole 0 false) (Number (pos 0)) ≡ []
void_has_none = refl

false_is_zero : cells Truth (Number (pos 0)) ≡ bytes (0 ∷ [])
false_is_zero = refl

true_is_one : cells Truth (Number (pos 1)) ≡ bytes (1 ∷ [])
true_is_one = refl

null_is_zero : cells Nullable (Pointing Null) ≡ bytes (0 ∷ 0 ∷ 0 ∷ 0 ∷ 0 ∷ 0 ∷ 0 ∷ 0 ∷ [])
null_is_zero = refl

-- from 0 to 2 ^ 32 - 1, as u32
rune_greatest : option_map (λ shape. cells shape (Number (pos 4294967295))) (shape_at types rune)
    ≡ Some (bytes (255 ∷ 255 ∷ 255 ∷ 255 ∷ []))
rune_greatest = refl

-- the eight fragments of a pointer to offset d of object o
abbrev pointed : ℕ → ℕ → List Cell
pointed o d =
    cell.Fragment o d 0 ∷ cell.Fragment o d 1 ∷ cell.Fragment o d 2 ∷ cell.Fragment o d 3 ∷ cell.Fragment o d 4 ∷ cell.Fragment o d 5
    ∷ cell.Fragment o d 6 ∷ cell.Fragment o d 7 ∷ []

address_has_eight : cells Reference (Pointing (Address 5 12)) ≡ pointed 5 12
address_has_eight = refl

-- ---- what cells spell

i8_high_bit : spelled (Whole 1 true) (bytes (128 ∷ [])) ≡ Some (Number (negsuc 127))
i8_high_bit = refl

u8_high_bit : spelled (Whole 1 false) (bytes (128 ∷ [])) ≡ Some (Number (pos 128))
u8_high_bit = refl

i32_all_ones : spelled (Whole 4 true) (bytes (255 ∷ 255 ∷ 255 ∷ 255 ∷ [])) ≡ Some (Number (negsuc 0))
i32_all_ones = refl

u32_all_ones : spelled (Whole 4 false) (bytes (255 ∷ 255 ∷ 255 ∷ 255 ∷ [])) ≡ Some (Number (pos 4294967295))
u32_all_ones = refl

i64_highest_bit : spelled (Whole 8 true) (bytes (0 ∷ 0 ∷ 0 ∷ 0 ∷ 0 ∷ 0 ∷ 0 ∷ 128 ∷ [])) ≡ Some (Number (negsuc 9223372036854775807))
i64_highest_bit = refl

no_cells_spell_void : spelled (Whole 0 false) [] ≡ Some (Number (pos 0))
no_cells_spell_void = refl

undefined_spells_nothing : spelled (Whole 1 false) (cell.Undef ∷ []) ≡ None
undefined_spells_nothing = refl

one_undefined_is_enough : spelled (Whole 4 false) (cell.Byte 0 ∷ cell.Byte 0 ∷ cell.Undef ∷ cell.Byte 0 ∷ []) ≡ None
one_undefined_is_enough = refl

too_few_spell_nothing : spelled (Whole 4 false) (bytes (0 ∷ 0 ∷ 0 ∷ [])) ≡ None
too_few_spell_nothing = refl

too_many_spell_nothing : spelled (Whole 1 false) (bytes (0 ∷ 0 ∷ [])) ≡ None
too_many_spell_nothing = refl

fragments_are_no_number : spelled (Whole 8 false) (pointed 5 12) ≡ None
fragments_are_no_number = refl

zero_is_false : spelled Truth (bytes (0 ∷ [])) ≡ Some (Number (pos 0))
zero_is_false = refl

one_is_true : spelled Truth (bytes (1 ∷ [])) ≡ Some (Number (pos 1))
one_is_true = refl

two_is_no_bool : spelled Truth (bytes (2 ∷ [])) ≡ None
two_is_no_bool = refl

eight_spell_an_address : spelled Reference (pointed 5 12) ≡ Some (Pointing (Address 5 12))
eight_spell_an_address = refl

eight_spell_one_that_may_be_null : spelled Nullable (pointed 5 12) ≡ Some (Pointing (Address 5 12))
eight_spell_one_that_may_be_null = refl

zeros_spell_null : spelled Nullable (bytes (0 ∷ 0 ∷ 0 ∷ 0 ∷ 0 ∷ 0 ∷ 0 ∷ 0 ∷ [])) ≡ Some (Pointing Null)
zeros_spell_null = refl

null_is_no_address : spelled Reference (bytes (0 ∷ 0 ∷ 0 ∷ 0 ∷ 0 ∷ 0 ∷ 0 ∷ 0 ∷ [])) ≡ None
null_is_no_address = refl

other_bytes_are_no_pointer : spelled Nullable (bytes (1 ∷ 0 ∷ 0 ∷ 0 ∷ 0 ∷ 0 ∷ 0 ∷ 0 ∷ [])) ≡ None
other_bytes_are_no_pointer = refl

abbrev seven : ℕ → ℕ → List Cell
seven o d =
    cell.Fragment o d 0 ∷ cell.Fragment o d 1 ∷ cell.Fragment o d 2 ∷ cell.Fragment o d 3 ∷ cell.Fragment o d 4 ∷ cell.Fragment o d 5
    ∷ cell.Fragment o d 6 ∷ []

seven_and_a_byte_spell_nothing : spelled Nullable (seven 5 12 ++ bytes (0 ∷ [])) ≡ None
seven_and_a_byte_spell_nothing = refl

seven_spell_nothing : spelled Reference (seven 5 12) ≡ None
seven_spell_nothing = refl

fragments_of_two_objects_spell_nothing : spelled Nullable (seven 5 12 ++ cell.Fragment 6 12 7 ∷ []) ≡ None
fragments_of_two_objects_spell_nothing = refl

fragments_of_two_offsets_spell_nothing : spelled Reference (seven 5 12 ++ cell.Fragment 5 11 7 ∷ []) ≡ None
fragments_of_two_offsets_spell_nothing = refl

fragments_out_of_order_spell_nothing : spelled Reference
    (cell.Fragment 5 12 1 ∷ cell.Fragment 5 12 0 ∷ cell.Fragment 5 12 2 ∷ cell.Fragment 5 12 3 ∷ cell.Fragment 5 12 4
    ∷ cell.Fragment 5 12 5 ∷ cell.Fragment 5 12 6 ∷ cell.Fragment 5 12 7 ∷ []) ≡ None
fragments_out_of_order_spell_nothing = refl
