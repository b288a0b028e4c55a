-- Rows of written types.
use Rattle.std.specs.Prelude.{◌≡◌, refl, ℕ, zero, suc, List, [], ◌∷◌, codes, Some}
use Rattle.hare_tree.specs.declared.kind.Kind.TheVariants as ki
use Rattle.hare_tree.specs.declared.token.Meaning.TheVariants as means
use Rattle.hare_types.specs.declared.coercion.Ty.TheVariants as ty
use Rattle.hare_types.specs.declared.row.Row.{Row}
use Rattle.hare_types.specs.declared.row.Row.TheVariants as row
use Rattle.hare_types.specs.declared.row.Scalar.TheVariants as keyword
use Rattle.hare_types.specs.Store.{Store}
use Rattle.hare_typed.specs.Typed.{TypedNode}
use Rattle.hare_rules.specs.Context.{BindingType}
use Rattle.hare_rules.proofs.Worked.{absent, as_role, bytes_t, choice_t, count_t, either_t, error_t, fault, hidden_t, in_store, int_t, meaning_, most_t, never_t, node, nothing, nullable_t, opaque_t, over, pointer_t, several_t, size_t, str_t, struct_t, to_opaque_t, tuple_t, type, u8_t, void_t, written_type}

slice_type : type (over ki.TypeSlice [] (written_type 5 u8_t ∷ [])) ≡ Some (ty.Of bytes_t)
slice_type = refl

slice_of_opaque : fault (over ki.TypeSlice [] (written_type 5 opaque_t ∷ [])) ≡ Some (17, 9)
slice_of_opaque = refl

pointer_type : type (over ki.TypePointer [] (written_type 5 int_t ∷ [])) ≡ Some (ty.Of pointer_t)
pointer_type = refl

pointer_to_opaque : type (over ki.TypePointer [] (written_type 5 opaque_t ∷ [])) ≡ Some (ty.Of to_opaque_t)
pointer_to_opaque = refl

tuple_type : type (over ki.TypeTuple [] (written_type 3 int_t ∷ written_type 5 u8_t ∷ absent ∷ [])) ≡ Some (ty.Of tuple_t)
tuple_type = refl

tuple_type_of_never : fault (over ki.TypeTuple [] (written_type 3 int_t ∷ written_type 5 never_t ∷ absent ∷ [])) ≡ Some (17, 9)
tuple_type_of_never = refl

struct_type :
    type (over ki.TypeStruct [] (node ki.StructField 3 (codes "x") (ty.Of void_t) (written_type 3 int_t ∷ [])
    ∷ node ki.StructField 5 (codes "y") (ty.Of void_t) (written_type 5 bytes_t ∷ []) ∷ absent ∷ []))
    ≡ Some (ty.Of struct_t)
struct_type = refl

struct_type_of_opaque :
    fault (over ki.TypeStruct [] (node ki.StructField 3 (codes "x") (ty.Of void_t) (written_type 3 opaque_t ∷ []) ∷ absent ∷ []))
    ≡ Some (17, 9)
struct_type_of_opaque = refl

union_type : type (over ki.TypeUnion [] (written_type 3 str_t ∷ written_type 5 int_t ∷ [])) ≡ Some (ty.Of either_t)
union_type = refl

union_drops_never : type (over ki.TypeUnion [] (written_type 3 str_t ∷ written_type 5 never_t ∷ [])) ≡ Some (ty.Of str_t)
union_drops_never = refl

union_of_nevers : fault (over ki.TypeUnion [] (written_type 3 never_t ∷ written_type 5 never_t ∷ [])) ≡ Some (19, 9)
union_of_nevers = refl

union_of_opaque : fault (over ki.TypeUnion [] (written_type 3 int_t ∷ written_type 5 opaque_t ∷ [])) ≡ Some (17, 9)
union_of_opaque = refl

union_flattens : type (over ki.TypeUnion [] (written_type 3 int_t ∷ written_type 5 either_t ∷ [])) ≡ Some (ty.Of either_t)
union_flattens = refl

union_spreads :
    type (over ki.TypeUnion [] (node ki.Spread 3 [] (ty.Of void_t) (written_type 3 either_t ∷ []) ∷ written_type 5 int_t ∷ []))
    ≡ Some (ty.Of either_t)
union_spreads = refl

union_spreads_int :
    fault (over ki.TypeUnion [] (node ki.Spread 3 [] (ty.Of void_t) (written_type 3 int_t ∷ []) ∷ written_type 5 int_t ∷ [])) ≡ Some (35, 3)
union_spreads_int = refl

scalar_type : type (over ki.TypeScalar (codes "size") ([])) ≡ Some (ty.Of size_t)
scalar_type = refl

binding_of_opaque : fault (as_role BindingType (meaning_ (means.Decl 10) (over ki.TypePath (codes "hidden") []))) ≡ Some (17, 9)
binding_of_opaque = refl

result_of_opaque : fault (meaning_ (means.Decl 10) (over ki.TypePath (codes "hidden") [])) ≡ nothing
result_of_opaque = refl

binding_of_count : type (as_role BindingType (meaning_ (means.Decl 7) (over ki.TypePath (codes "count") []))) ≡ Some (ty.Of count_t)
binding_of_count = refl

binding_of_never : fault (as_role BindingType (over ki.TypeScalar (codes "never") [])) ≡ Some (17, 9)
binding_of_never = refl

never_alone : fault (over ki.TypeScalar (codes "never") []) ≡ nothing
never_alone = refl

slice_of_never : fault (over ki.TypeSlice [] (written_type 5 never_t ∷ [])) ≡ Some (17, 9)
slice_of_never = refl

slice_of_named_opaque : fault (over ki.TypeSlice [] (written_type 5 hidden_t ∷ [])) ≡ Some (17, 9)
slice_of_named_opaque = refl

error_of_void : type (over ki.TypeError [] (written_type 5 void_t ∷ [])) ≡ Some (ty.Of error_t)
error_of_void = refl

nullable_of_int : type (over ki.TypeNullable [] (written_type 5 int_t ∷ [])) ≡ Some (ty.Of nullable_t)
nullable_of_int = refl

tuple_type_too_large : fault (over ki.TypeTuple [] (written_type 3 most_t ∷ written_type 5 u8_t ∷ absent ∷ [])) ≡ Some (18, 9)
tuple_type_too_large = refl

struct_type_too_large :
    fault (over ki.TypeStruct [] (node ki.StructField 3 (codes "x") (ty.Of void_t) (written_type 3 most_t ∷ [])
    ∷ node ki.StructField 5 (codes "y") (ty.Of void_t) (written_type 5 u8_t ∷ []) ∷ absent ∷ []))
    ≡ Some (18, 9)
struct_type_too_large = refl

union_of_named_never : fault (over ki.TypeUnion [] (written_type 3 int_t ∷ written_type 5 hidden_t ∷ [])) ≡ Some (17, 9)
union_of_named_never = refl

union_of_one_type : type (over ki.TypeUnion [] (written_type 3 int_t ∷ written_type 5 int_t ∷ [])) ≡ Some (ty.Of int_t)
union_of_one_type = refl

union_spreads_a_name :
    type (over ki.TypeUnion [] (node ki.Spread 3 [] (ty.Of void_t) (written_type 3 choice_t ∷ []) ∷ written_type 5 u8_t ∷ []))
    ≡ Some (ty.Of several_t)
union_spreads_a_name = refl

union_too_large : fault (over ki.TypeUnion [] (written_type 3 most_t ∷ written_type 5 int_t ∷ [])) ≡ Some (18, 9)
union_too_large = refl

union_of_large_alone : fault (over ki.TypeUnion [] (written_type 3 most_t ∷ written_type 5 never_t ∷ [])) ≡ nothing
union_of_large_alone = refl

-- ---- unions of many types

-- a store with u8, opaque and so many array types, the last first
abbrev pub arrays_below : ℕ → List Row
arrays_below zero = []
arrays_below (suc n) = row.Array n 0 ∷ arrays_below n

abbrev pub many : Store
many = record { names = []; rows = row.Scalar keyword.U8 ∷ row.Scalar keyword.Opaque ∷ arrays_below 66; declared = []; listed = [] }

-- so many written types, the one with this id first
abbrev pub written_from : (first count : ℕ) → List TypedNode
written_from i zero = []
written_from i (suc n) = written_type 3 i ∷ written_from (suc i) n

union_of_64 : fault (in_store many (over ki.TypeUnion [] (written_from 2 64))) ≡ nothing
union_of_64 = refl

union_of_65 : fault (in_store many (over ki.TypeUnion [] (written_from 2 65))) ≡ Some (20, 9)
union_of_65 = refl

members_before_narrow : fault (in_store many (over ki.TypeUnion [] (written_from 1 66))) ≡ Some (17, 9)
members_before_narrow = refl
