-- What cases cover, worked out.
use Rattle.std.proofs.Common.{◌≡◌, [], ◌∷◌, true, false, Some, None, refl, pos}
use Rattle.std.specs.Prelude.{negsuc}
use Rattle.hare_types.specs.declared.row.Row.TheVariants as row
use Rattle.hare_types.specs.declared.row.Scalar.TheVariants as word
use Rattle.hare_types.specs.declared.coercion.Ty.TheVariants as ty
use Rattle.hare_types.specs.Store.{Store}
use Rattle.hare_typed.specs.Given.{base_row}
use Rattle.hare_typed.specs.Cover.{range_of, match_covers}
use Rattle.hare_typed.proofs.ExampleTrees.{types, int, u8, bool, str, three, named_three}

-- ---- the values of a type

of_u8 : range_of (base_row types u8) ≡ Some (record { least = pos 0; greatest = pos 255 })
of_u8 = refl

of_int : range_of (base_row types int) ≡ Some (record { least = negsuc 2147483647; greatest = pos 2147483647 })
of_int = refl

of_bool : range_of (base_row types bool) ≡ Some (record { least = pos 0; greatest = pos 1 })
of_bool = refl

of_rune : range_of (Some (row.Scalar word.Rune)) ≡ Some (record { least = pos 0; greatest = pos 4294967295 })
of_rune = refl

of_i64 : range_of (Some (row.Scalar word.I64)) ≡ Some (record { least = negsuc 9223372036854775807; greatest = pos 9223372036854775807 })
of_i64 = refl

of_str : range_of (base_row types str) ≡ None
of_str = refl

-- ---- members, where void has the id 0, int 1, str 2 and `!void` 6

each_member : match_covers types three (record { has_default = false; has_null = false; types = 6 ∷ 1 ∷ 2 ∷ [] }) ≡ true
each_member = refl

one_member_lacks : match_covers types three (record { has_default = false; has_null = false; types = 1 ∷ 2 ∷ [] }) ≡ false
one_member_lacks = refl

default : match_covers types three (record { has_default = true; has_null = false; types = 1 ∷ [] }) ≡ true
default = refl

of_a_name : match_covers types named_three (record { has_default = false; has_null = false; types = 1 ∷ 2 ∷ 6 ∷ [] }) ≡ true
of_a_name = refl

-- a store in which 0 is u8, 1 is `*u8` and 2 is `nullable *u8`
abbrev pointers : Store
pointers = record { names = []; rows = row.Scalar word.U8 ∷ row.Pointer 0 ∷ row.Nullable 0 ∷ []; declared = []; listed = [] }

both_pointers : match_covers pointers (ty.Of 2) (record { has_default = false; has_null = true; types = 1 ∷ [] }) ≡ true
both_pointers = refl

null_alone : match_covers pointers (ty.Of 2) (record { has_default = false; has_null = true; types = [] }) ≡ false
null_alone = refl

pointer_alone : match_covers pointers (ty.Of 2) (record { has_default = false; has_null = false; types = 1 ∷ [] }) ≡ false
pointer_alone = refl
