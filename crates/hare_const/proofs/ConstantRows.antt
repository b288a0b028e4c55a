-- The numbers that constants are, and the lengths that nodes are, worked out.
use Rattle.std.proofs.Common.{◌≡◌, refl, [], ◌∷◌, Some, None, pos, negsuc}
use Rattle.hare_tree.specs.declared.kind.Kind.TheVariants as kind
use Rattle.hare_tree.specs.declared.token.Suffix.TheVariants as suffix
use Rattle.hare_types.specs.declared.coercion.Ty.TheVariants as ty
use Rattle.hare_typed.specs.declared.constant.Const.TheVariants as constant
use Rattle.hare_const.specs.Numbers.{number_of, numbers_of}
use Rattle.hare_const.specs.Lengths.{length_of, bad_length}
use Rattle.hare_const.proofs.ExampleConstants.{types, bytes, node}

-- ---- numbers

of_u8 : number_of types 0 (bytes (255 ∷ [])) ≡ Some (pos 255)
of_u8 = refl

of_i16 : number_of types 3 (bytes (254 ∷ 255 ∷ [])) ≡ Some (negsuc 1)
of_i16 = refl

of_a_name : number_of types 4 (bytes (0 ∷ 1 ∷ [])) ≡ Some (pos 256)
of_a_name = refl

of_rune : number_of types 5 (bytes (97 ∷ 0 ∷ 0 ∷ 0 ∷ [])) ≡ Some (pos 97)
of_rune = refl

of_true : number_of types 1 (bytes (1 ∷ [])) ≡ Some (pos 1)
of_true = refl

two_is_no_bool : number_of types 1 (bytes (2 ∷ [])) ≡ None
two_is_no_bool = refl

two_bytes_are_no_u8 : number_of types 0 (bytes (1 ∷ 0 ∷ [])) ≡ None
two_bytes_are_no_u8 = refl

text_is_no_number : number_of types 2 (bytes []) ≡ None
text_is_no_number = refl

in_their_order : numbers_of types 0 (bytes (3 ∷ []) ∷ constant.Absent ∷ bytes (4 ∷ []) ∷ []) ≡ pos 3 ∷ pos 4 ∷ []
in_their_order = refl

-- ---- lengths

none : length_of types (node kind.Number (ty.Iconst (pos 0)) 0 suffix.None constant.Absent) ≡ Some 0
none = refl

most : length_of types (node kind.Number (ty.Iconst (pos 67108864)) 67108864 suffix.Z constant.Absent) ≡ Some 67108864
most = refl

one_more : length_of types (node kind.Number (ty.Iconst (pos 67108865)) 67108865 suffix.None constant.Absent) ≡ None
one_more = refl

of_another_suffix : length_of types (node kind.Number (ty.Of 0) 3 suffix.U8 constant.Absent) ≡ None
of_another_suffix = refl

of_a_def : length_of types (node kind.Path (ty.Of 4) 0 suffix.None (bytes (0 ∷ 1 ∷ []))) ≡ Some 256
of_a_def = refl

below_zero : length_of types (node kind.Path (ty.Of 3) 0 suffix.None (bytes (255 ∷ 255 ∷ []))) ≡ None
below_zero = refl

of_a_rune : length_of types (node kind.Path (ty.Of 5) 0 suffix.None (bytes (97 ∷ 0 ∷ 0 ∷ 0 ∷ []))) ≡ None
of_a_rune = refl

of_a_bool : length_of types (node kind.Path (ty.Of 1) 0 suffix.None (bytes (1 ∷ []))) ≡ None
of_a_bool = refl

of_a_text : length_of types (node kind.Path (ty.Of 2) 0 suffix.None (bytes [])) ≡ None
of_a_text = refl

of_a_global : length_of types (node kind.Path (ty.Of 0) 0 suffix.None constant.Absent) ≡ None
of_a_global = refl

of_a_sum : length_of types (node kind.Arith (ty.Iconst (pos 2)) 0 suffix.None constant.Absent) ≡ None
of_a_sum = refl

at_the_node : bad_length (node kind.Arith (ty.Iconst (pos 2)) 0 suffix.None constant.Absent) ≡
    record { number = 24; place = record { file = 0; line = 1; column = 9 } }
at_the_node = refl
