-- Rows of array types: their lengths and elements; and what is given to a length and to a callee, which others judge.
use Rattle.std.specs.Prelude.{◌≡◌, refl, pos, [], ◌∷◌, codes, Some}
use Rattle.hare_tree.specs.declared.kind.Kind.TheVariants as ki
use Rattle.hare_tree.specs.declared.token.Meaning.TheVariants as means
use Rattle.hare_tree.specs.declared.token.Suffix.TheVariants as suffix
use Rattle.hare_types.specs.declared.coercion.Ty.TheVariants as ty
use Rattle.hare_typed.specs.declared.cell.Cell.TheVariants as cell
use Rattle.hare_typed.specs.declared.constant.Const.TheVariants as constant
use Rattle.hare_rules.specs.Context.{Callee, Length}
use Rattle.hare_rules.proofs.Worked.{as_role, byte_of, fault, hidden_t, int_t, meaning_, most_t, nothing, number_at, numbered_as, opaque_t, over, path_to, names_def, str_t, text_as, three_bytes_t, three_t, type, u8_t, void_t, written_type, zero_t}

plain_length : type (over ki.TypeArray [] (number_at 5 3 suffix.None ∷ written_type 7 int_t ∷ [])) ≡ Some (ty.Of three_t)
plain_length = refl

length_of_size : type (over ki.TypeArray [] (number_at 5 3 suffix.Z ∷ written_type 7 u8_t ∷ [])) ≡ Some (ty.Of three_bytes_t)
length_of_size = refl

length_of_u8 : fault (over ki.TypeArray [] (number_at 5 3 suffix.U8 ∷ written_type 7 int_t ∷ [])) ≡ Some (24, 5)
length_of_u8 = refl

length_of_int : fault (over ki.TypeArray [] (number_at 5 3 suffix.I ∷ written_type 7 int_t ∷ [])) ≡ Some (24, 5)
length_of_int = refl

no_length : type (over ki.TypeArray [] (number_at 5 0 suffix.None ∷ written_type 7 int_t ∷ [])) ≡ Some (ty.Of zero_t)
no_length = refl

greatest_length : type (over ki.TypeArray [] (number_at 5 67108864 suffix.None ∷ written_type 7 u8_t ∷ [])) ≡ Some (ty.Of most_t)
greatest_length = refl

length_past_the_greatest : fault (over ki.TypeArray [] (number_at 5 67108865 suffix.None ∷ written_type 7 void_t ∷ [])) ≡ Some (24, 5)
length_past_the_greatest = refl

array_too_large : fault (over ki.TypeArray [] (number_at 5 67108864 suffix.None ∷ written_type 7 int_t ∷ [])) ≡ Some (18, 9)
array_too_large = refl

length_by_def : type (over ki.TypeArray [] (names_def 5 5 u8_t (byte_of 3) ∷ written_type 7 int_t ∷ [])) ≡ Some (ty.Of three_t)
length_by_def = refl

length_by_negative_def :
    fault (over ki.TypeArray [] (names_def 5 15 int_t (constant.Known (cell.Byte 255 ∷ cell.Byte 255 ∷ cell.Byte 255 ∷ cell.Byte 255
    ∷ []) []) ∷ written_type 7 int_t ∷ []))
    ≡ Some (24, 5)
length_by_negative_def = refl

length_by_def_of_str : fault (over ki.TypeArray [] (names_def 5 6 str_t (text_as (codes "a")) ∷ written_type 7 int_t ∷ [])) ≡ Some (24, 5)
length_by_def_of_str = refl

length_by_global : fault (over ki.TypeArray [] (path_to 5 (means.Decl 0) int_t ∷ written_type 7 int_t ∷ [])) ≡ Some (24, 5)
length_by_global = refl

length_by_local : fault (over ki.TypeArray [] (path_to 5 (means.Local 0) int_t ∷ written_type 7 int_t ∷ [])) ≡ Some (24, 5)
length_by_local = refl

length_by_type : fault (over ki.TypeArray [] (names_def 5 7 void_t constant.Absent ∷ written_type 7 int_t ∷ [])) ≡ Some (24, 5)
length_by_type = refl

element_without_size : fault (over ki.TypeArray [] (number_at 5 3 suffix.None ∷ written_type 7 opaque_t ∷ [])) ≡ Some (17, 9)
element_without_size = refl

element_of_named_opaque : fault (over ki.TypeArray [] (number_at 5 3 suffix.None ∷ written_type 7 hidden_t ∷ [])) ≡ Some (17, 9)
element_of_named_opaque = refl

length_is_exact : type (as_role Length (numbered_as 3 suffix.None (over ki.Number [] []))) ≡ Some (ty.Iconst (pos 3))
length_is_exact = refl

length_with_any_suffix : type (as_role Length (numbered_as 300 suffix.U8 (over ki.Number [] []))) ≡ Some (ty.Of u8_t)
length_with_any_suffix = refl

length_names_def : type (as_role Length (meaning_ (means.Decl 5) (over ki.Path (codes "d") []))) ≡ Some (ty.Of u8_t)
length_names_def = refl

length_names_local : type (as_role Length (meaning_ (means.Local 0) (over ki.Path (codes "x") []))) ≡ Some (ty.Of void_t)
length_names_local = refl

callee_is_void : type (as_role Callee (meaning_ (means.Decl 1) (over ki.Path (codes "f") []))) ≡ Some (ty.Of void_t)
callee_is_void = refl

callee_is_not_judged : fault (as_role Callee (meaning_ (means.Decl 1) (over ki.Path (codes "f") []))) ≡ nothing
callee_is_not_judged = refl
