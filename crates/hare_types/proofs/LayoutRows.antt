-- Rows of the table of sizes and alignments, worked out.
use Rattle.std.proofs.Common.{◌≡◌, ℕ, zero, suc, [], ◌∷◌, Option, Some, None, refl}
use Rattle.hare_types.specs.declared.row.Scalar.TheVariants as keyword
use Rattle.hare_types.specs.declared.extent.Extent.{Extent}
use Rattle.hare_types.specs.Trees.{Tree, Scalar, Pointer, Nullable, Slice, Array, Struct, Tuple, Union, Error, Named, none, more}
use Rattle.hare_types.specs.Layout.{extent_with, payload_start, field_start}
use Rattle.hare_types.specs.Kept.{told}

-- the extent of a type, where no name is defined but 0, which is `struct { a: u8, b: u32 }`
abbrev named : ℕ → Option Extent
named zero = Some (record { size = 8; align = 4 })
named (suc d) = None

abbrev lies : Tree → Option Extent
lies = extent_with named

abbrev bytes_at : (size align : ℕ) → Option Extent
bytes_at size align = Some (record { size = size; align = align })

abbrev u8 : Tree
u8 = Scalar keyword.U8

abbrev u16 : Tree
u16 = Scalar keyword.U16

abbrev i32 : Tree
i32 = Scalar keyword.I32

abbrev u64 : Tree
u64 = Scalar keyword.U64

abbrev void : Tree
void = Scalar keyword.Void

abbrev never : Tree
never = Scalar keyword.Never

abbrev opaque : Tree
opaque = Scalar keyword.Opaque

-- ---- types of one word, pointers and slices

void_has_none : lies void ≡ bytes_at 0 1
void_has_none = refl

bool_has_one : lies (Scalar keyword.Bool) ≡ bytes_at 1 1
bool_has_one = refl

u16_has_two : lies u16 ≡ bytes_at 2 2
u16_has_two = refl

int_has_four : lies (Scalar keyword.Int) ≡ bytes_at 4 4
int_has_four = refl

rune_has_four : lies (Scalar keyword.Rune) ≡ bytes_at 4 4
rune_has_four = refl

size_has_eight : lies (Scalar keyword.Size) ≡ bytes_at 8 8
size_has_eight = refl

str_has_three_words : lies (Scalar keyword.Str) ≡ bytes_at 24 8
str_has_three_words = refl

never_has_no_size : lies never ≡ None
never_has_no_size = refl

opaque_has_no_size : lies opaque ≡ None
opaque_has_no_size = refl

pointer_has_eight : lies (Pointer opaque) ≡ bytes_at 8 8
pointer_has_eight = refl

nullable_has_eight : lies (Nullable never) ≡ bytes_at 8 8
nullable_has_eight = refl

slice_has_three_words : lies (Slice u8) ≡ bytes_at 24 8
slice_has_three_words = refl

-- ---- arrays

array_is_of_its_items : lies (Array 3 i32) ≡ bytes_at 12 4
array_is_of_its_items = refl

array_of_none : lies (Array 0 u64) ≡ bytes_at 0 8
array_of_none = refl

array_of_no_size : lies (Array 0 opaque) ≡ None
array_of_no_size = refl

-- ---- structs and tuples

fields_are_rounded_up : lies (Struct (0 ∷ 1 ∷ 2 ∷ []) (more u8 (more i32 (more u16 none)))) ≡ bytes_at 12 4
fields_are_rounded_up = refl

last_field_begins_behind : field_start 0
    (record { size = 1; align = 1 } ∷ record { size = 4; align = 4 } ∷ record { size = 2; align = 2 } ∷ []) 2 ≡ Some 8
last_field_begins_behind = refl

end_is_rounded_up : lies (Tuple (more u64 (more u8 none))) ≡ bytes_at 16 8
end_is_rounded_up = refl

void_takes_nothing : lies (Tuple (more u8 (more void none))) ≡ bytes_at 1 1
void_takes_nothing = refl

-- ---- unions

payload_of_a_long_stands_at_8 : payload_start (record { size = 1; align = 1 } ∷ record { size = 8; align = 8 } ∷ []) ≡ 8
payload_of_a_long_stands_at_8 = refl

union_with_a_long : lies (Union (more u8 (more u64 none))) ≡ bytes_at 16 8
union_with_a_long = refl

union_of_small_members : lies (Union (more u8 (more void none))) ≡ bytes_at 8 4
union_of_small_members = refl

-- ---- names and error marks

error_lies_as_what_it_marks : lies (Error u16) ≡ bytes_at 2 2
error_lies_as_what_it_marks = refl

name_lies_as_its_definition : lies (Tuple (more u8 (more (Named 0) none))) ≡ bytes_at 12 4
name_lies_as_its_definition = refl

undefined_name_has_none : lies (Array 2 (Named 1)) ≡ None
undefined_name_has_none = refl

-- ---- what is told of sizes

told_exactly : told (record { size = 1099511627776; align = 8 }) ≡ record { size = 1099511627776; align = 8 }
told_exactly = refl

told_as_above : told (record { size = 2199023255552; align = 8 }) ≡ record { size = 1099511627777; align = 8 }
told_as_above = refl
