-- Rows of definitions and globals, and the constants that values carry.
use Rattle.std.specs.Prelude.{◌≡◌, refl, [], ◌∷◌, codes, Some}
use Rattle.hare_tree.specs.declared.kind.Kind.TheVariants as ki
use Rattle.hare_tree.specs.declared.token.Meaning.TheVariants as means
use Rattle.hare_tree.specs.declared.token.Suffix.TheVariants as suffix
use Rattle.hare_types.specs.declared.coercion.Ty.TheVariants as ty
use Rattle.hare_typed.specs.declared.cell.Cell.TheVariants as cell
use Rattle.hare_typed.specs.declared.constant.Const.TheVariants as constant
use Rattle.hare_rules.specs.Context.{Ordinary, CaseValue, DeclaredValue}
use Rattle.hare_rules.specs.Values.{value_of}
use Rattle.hare_rules.specs.Above.{role_of}
use Rattle.hare_rules.proofs.Worked.{absent, as_role, asked_for, byte_of, count_t, either_t, fault, int_t, known, meaning_, never_t, node, nothing, nullable_t, number_at, numbered_as, of_type, opaque_t, over, names_def, pointer_t, rune_t, struct_t, type, u64_t, u8_t, value, void_t, written_type}

def_of_u8 :
    type (over ki.Def [] (absent ∷ node ki.Name 2 (codes "d") (ty.Of void_t) [] ∷ absent ∷ known 5 u8_t (byte_of 3) ∷ []))
    ≡ Some (ty.Of void_t)
def_of_u8 = refl

def_without_default :
    fault (over ki.Def [] (absent ∷ node ki.Name 2 (codes "d") (ty.Of void_t) [] ∷ absent ∷ value 5 (ty.Null) ∷ [])) ≡ Some (25, 5)
def_without_default = refl

def_without_size :
    fault (over ki.Def [] (absent ∷ node ki.Name 2 (codes "d") (ty.Of void_t) [] ∷ absent ∷ of_type 5 opaque_t ∷ [])) ≡ Some (17, 9)
def_without_size = refl

def_of_unsized_type :
    fault (over ki.Def [] (absent ∷ node ki.Name 2 (codes "d") (ty.Of void_t) [] ∷ written_type 3 opaque_t ∷ of_type 5 int_t ∷ []))
    ≡ Some (17, 3)
def_of_unsized_type = refl

def_of_call : fault (over ki.Def [] (absent ∷ node ki.Name 2 (codes "d") (ty.Of void_t) [] ∷ absent ∷ of_type 5 int_t ∷ [])) ≡ Some (21, 5)
def_of_call = refl

def_of_call_in_sum :
    fault (over ki.Def [] (absent ∷ node ki.Name 2 (codes "d") (ty.Of void_t) [] ∷ absent
    ∷ node ki.Arith 5 (codes "+") (ty.Of int_t) (known 4 int_t (byte_of 3) ∷ of_type 7 int_t ∷ []) ∷ []))
    ≡ Some (21, 7)
def_of_call_in_sum = refl

def_of_abort :
    fault (over ki.Def [] (absent ∷ node ki.Name 2 (codes "d") (ty.Of void_t) [] ∷ absent ∷ node ki.Abort 5 [] (ty.Of never_t) (absent
    ∷ []) ∷ []))
    ≡ Some (17, 9)
def_of_abort = refl

def_of_abort_as_int :
    fault (over ki.Def [] (absent ∷ node ki.Name 2 (codes "d") (ty.Of void_t) [] ∷ written_type 3 int_t
    ∷ node ki.Abort 5 [] (ty.Of never_t) (absent ∷ []) ∷ []))
    ≡ Some (21, 5)
def_of_abort_as_int = refl

def_of_struct :
    fault (over ki.Def [] (absent ∷ node ki.Name 2 (codes "d") (ty.Of void_t) [] ∷ absent ∷ known 5 struct_t (byte_of 3) ∷ []))
    ≡ Some (21, 5)
def_of_struct = refl

def_of_pointer :
    fault (over ki.Def [] (absent ∷ node ki.Name 2 (codes "d") (ty.Of void_t) [] ∷ absent ∷ known 5 pointer_t (byte_of 3) ∷ []))
    ≡ Some (21, 5)
def_of_pointer = refl

def_of_rune :
    fault (over ki.Def [] (absent ∷ node ki.Name 2 (codes "d") (ty.Of void_t) [] ∷ absent ∷ known 5 rune_t (byte_of 3) ∷ [])) ≡ nothing
def_of_rune = refl

def_of_name :
    fault (over ki.Def [] (absent ∷ node ki.Name 2 (codes "d") (ty.Of void_t) [] ∷ absent ∷ known 5 count_t (byte_of 3) ∷ [])) ≡ nothing
def_of_name = refl

def_by_its_written_type :
    fault (over ki.Def [] (absent ∷ node ki.Name 2 (codes "d") (ty.Of void_t) [] ∷ written_type 3 either_t ∷ known 5 int_t (byte_of 3)
    ∷ []))
    ≡ Some (21, 5)
def_by_its_written_type = refl

global_of_struct :
    fault (over ki.GlobalLet [] (absent ∷ node ki.Name 2 (codes "d") (ty.Of void_t) [] ∷ absent ∷ known 5 struct_t (byte_of 3) ∷ []))
    ≡ nothing
global_of_struct = refl

const_global_of_call :
    fault (over ki.GlobalConst [] (absent ∷ node ki.Name 2 (codes "d") (ty.Of void_t) [] ∷ absent ∷ of_type 5 int_t ∷ [])) ≡ Some (21, 5)
const_global_of_call = refl

global_without_default :
    fault (over ki.GlobalLet [] (absent ∷ node ki.Name 2 (codes "d") (ty.Of void_t) [] ∷ absent ∷ value 5 (ty.Empty) ∷ [])) ≡ Some (25, 5)
global_without_default = refl

global_of_null_with_type :
    fault (over ki.GlobalLet [] (absent ∷ node ki.Name 2 (codes "d") (ty.Of void_t) [] ∷ written_type 3 nullable_t
    ∷ known 5 nullable_t (byte_of 3) ∷ []))
    ≡ nothing
global_of_null_with_type = refl

global_of_unsized_type :
    fault (over ki.GlobalConst [] (absent ∷ node ki.Name 2 (codes "d") (ty.Of void_t) [] ∷ written_type 3 never_t ∷ of_type 5 int_t ∷ []))
    ≡ Some (17, 3)
global_of_unsized_type = refl

-- ---- the constants that values carry

value_of_case : value_of (as_role CaseValue (asked_for u8_t (numbered_as 7 suffix.None (over ki.Number [] [])))) ≡ byte_of 7
value_of_case = refl

value_of_other : value_of (asked_for u8_t (numbered_as 7 suffix.None (over ki.Number [] []))) ≡ constant.Absent
value_of_other = refl

value_by_default :
    value_of (as_role DeclaredValue (numbered_as 7 suffix.None (over ki.Number [] [])))
    ≡ constant.Known (cell.Byte 7 ∷ cell.Byte 0 ∷ cell.Byte 0 ∷ cell.Byte 0 ∷ []) []
value_by_default = refl

value_of_sum_of_exacts :
    value_of (as_role CaseValue (asked_for u8_t (over ki.Arith (codes "+") (number_at 1 3 suffix.None ∷ number_at 5 4 suffix.None ∷ [])))) ≡
    byte_of 7
value_of_sum_of_exacts = refl

-- the 4 becomes a u8 at the turn of the sum itself
value_of_sum_with_def :
    value_of (as_role CaseValue (asked_for u8_t
    (over ki.Arith (codes "+") (names_def 1 5 u8_t (byte_of 3) ∷ number_at 5 4 suffix.None ∷ []))))
    ≡ byte_of 7
value_of_sum_with_def = refl

value_of_path : value_of (meaning_ (means.Decl 5) (over ki.Path (codes "d") [])) ≡ byte_of 3
value_of_path = refl

value_of_path_as_int :
    value_of (as_role CaseValue (asked_for u64_t (meaning_ (means.Decl 5) (over ki.Path (codes "d") []))))
    ≡ constant.Known (cell.Byte 3 ∷ cell.Byte 0 ∷ cell.Byte 0 ∷ cell.Byte 0 ∷ cell.Byte 0 ∷ cell.Byte 0 ∷ cell.Byte 0 ∷ cell.Byte 0 ∷ []) []
value_of_path_as_int = refl

value_of_local : value_of (meaning_ (means.Local 0) (over ki.Path (codes "x") [])) ≡ constant.Absent
value_of_local = refl

value_of_division_by_zero :
    value_of (as_role CaseValue (asked_for u8_t
    (over ki.Arith (codes "/") (names_def 1 5 u8_t (byte_of 3) ∷ number_at 5 0 suffix.None ∷ []))))
    ≡ constant.Absent
value_of_division_by_zero = refl

comma_is_no_value : role_of ki.Values 1 ki.TrailingComma ≡ Ordinary
comma_is_no_value = refl

number_is_value : role_of ki.Values 1 ki.Number ≡ CaseValue
number_is_value = refl
