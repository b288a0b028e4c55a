-- Rows of `switch`: values of cases that are constant, that differ, and that cover the type or do not.
use Rattle.std.specs.Prelude.{◌≡◌, refl, ℕ, zero, suc, pos, ◌^◌, List, [], ◌∷◌, ◌++◌, codes, Some}
use Rattle.hare_tree.specs.declared.kind.Kind.TheVariants as ki
use Rattle.hare_types.specs.declared.coercion.Ty.TheVariants as ty
use Rattle.hare_typed.specs.Typed.{TypedNode}
use Rattle.hare_rules.proofs.Worked.{bool_t, byte_of, case_else, case_of, count_t, fault, flag_t, int_t, known, never_t, nothing, of_type, over, pointer_t, rune_t, str_t, text_as, type, u8_t, value, void_t}

bool_covered :
    type (over ki.Switch [] (of_type 1 bool_t ∷ case_of 3 void_t (known 4 bool_t (byte_of 0) ∷ [])
    ∷ case_of 5 void_t (known 6 bool_t (byte_of 1) ∷ []) ∷ []))
    ≡ Some (ty.Of void_t)
bool_covered = refl

bool_in_one_case :
    type (over ki.Switch [] (of_type 1 bool_t ∷ case_of 3 void_t (known 4 bool_t (byte_of 1) ∷ known 5 bool_t (byte_of 0) ∷ []) ∷ []))
    ≡ Some (ty.Of void_t)
bool_in_one_case = refl

named_bool_covered :
    type (over ki.Switch [] (of_type 1 flag_t ∷ case_of 3 void_t (known 4 flag_t (byte_of 0) ∷ [])
    ∷ case_of 5 void_t (known 6 flag_t (byte_of 1) ∷ []) ∷ []))
    ≡ Some (ty.Of void_t)
named_bool_covered = refl

bool_lacks_true : fault (over ki.Switch [] (of_type 1 bool_t ∷ case_of 3 void_t (known 4 bool_t (byte_of 0) ∷ []) ∷ [])) ≡ Some (37, 9)
bool_lacks_true = refl

bool_lacks_false : fault (over ki.Switch [] (of_type 1 bool_t ∷ case_of 3 void_t (known 4 bool_t (byte_of 1) ∷ []) ∷ [])) ≡ Some (37, 9)
bool_lacks_false = refl

bool_with_default :
    type (over ki.Switch [] (of_type 1 bool_t ∷ case_of 3 void_t (known 4 bool_t (byte_of 0) ∷ []) ∷ case_else 5 void_t ∷ []))
    ≡ Some (ty.Of void_t)
bool_with_default = refl

default_alone : type (over ki.Switch [] (of_type 1 int_t ∷ case_else 5 void_t ∷ [])) ≡ Some (ty.Of void_t)
default_alone = refl

value_twice :
    fault (over ki.Switch [] (of_type 1 bool_t ∷ case_of 3 void_t (known 4 bool_t (byte_of 0) ∷ [])
    ∷ case_of 5 void_t (known 6 bool_t (byte_of 0) ∷ []) ∷ []))
    ≡ Some (38, 6)
value_twice = refl

value_twice_in_one_case :
    fault (over ki.Switch [] (of_type 1 u8_t ∷ case_of 3 void_t (known 4 u8_t (byte_of 7) ∷ known 6 u8_t (byte_of 7) ∷ [])
    ∷ case_else 8 void_t ∷ []))
    ≡ Some (38, 6)
value_twice_in_one_case = refl

default_twice : fault (over ki.Switch [] (of_type 1 u8_t ∷ case_else 3 void_t ∷ case_else 5 void_t ∷ [])) ≡ Some (38, 5)
default_twice = refl

value_without_constant :
    fault (over ki.Switch [] (of_type 1 u8_t ∷ case_of 3 void_t (of_type 4 u8_t ∷ []) ∷ case_else 8 void_t ∷ [])) ≡ Some (21, 4)
value_without_constant = refl

text_twice :
    fault (over ki.Switch [] (of_type 1 str_t ∷ case_of 3 void_t (known 4 str_t (text_as (codes "ab")) ∷ [])
    ∷ case_of 5 void_t (known 6 str_t (text_as (codes "ab")) ∷ []) ∷ case_else 8 void_t ∷ []))
    ≡ Some (38, 6)
text_twice = refl

texts_that_differ :
    fault (over ki.Switch [] (of_type 1 str_t ∷ case_of 3 void_t (known 4 str_t (text_as (codes "ab")) ∷ [])
    ∷ case_of 5 void_t (known 6 str_t (text_as (codes "a")) ∷ []) ∷ case_else 8 void_t ∷ []))
    ≡ nothing
texts_that_differ = refl

texts_without_default :
    fault (over ki.Switch [] (of_type 1 str_t ∷ case_of 3 void_t (known 4 str_t (text_as (codes "ab")) ∷ [])
    ∷ case_of 5 void_t (known 6 str_t (text_as (codes "a")) ∷ []) ∷ []))
    ≡ Some (37, 9)
texts_without_default = refl

empty_text_twice :
    fault (over ki.Switch [] (of_type 1 str_t ∷ case_of 3 void_t (known 4 str_t (text_as (codes "")) ∷ [])
    ∷ case_of 5 void_t (known 6 str_t (text_as (codes "")) ∷ []) ∷ case_else 8 void_t ∷ []))
    ≡ Some (38, 6)
empty_text_twice = refl

rune_lacks_most : fault (over ki.Switch [] (of_type 1 rune_t ∷ [])) ≡ Some (37, 9)
rune_lacks_most = refl

exact_operand : fault (over ki.Switch [] (value 1 (ty.Iconst (pos 5)) ∷ case_else 3 void_t ∷ [])) ≡ nothing
exact_operand = refl

great_exact_operand : fault (over ki.Switch [] (value 1 (ty.Iconst (pos (2 ^ 100))) ∷ case_else 3 void_t ∷ [])) ≡ Some (27, 9)
great_exact_operand = refl

null_operand : fault (over ki.Switch [] (value 1 (ty.Null) ∷ case_else 3 void_t ∷ [])) ≡ Some (27, 9)
null_operand = refl

empty_operand : fault (over ki.Switch [] (value 1 (ty.Empty) ∷ case_else 3 void_t ∷ [])) ≡ Some (27, 9)
empty_operand = refl

pointer_operand : fault (over ki.Switch [] (of_type 1 pointer_t ∷ case_else 3 void_t ∷ [])) ≡ Some (27, 9)
pointer_operand = refl

never_operand : fault (over ki.Switch [] (of_type 1 never_t ∷ case_else 3 void_t ∷ [])) ≡ Some (27, 9)
never_operand = refl

void_operand : fault (over ki.Switch [] (of_type 1 void_t ∷ case_else 3 void_t ∷ [])) ≡ Some (27, 9)
void_operand = refl

named_int_operand : type (over ki.Switch [] (of_type 1 count_t ∷ case_else 3 void_t ∷ [])) ≡ Some (ty.Of void_t)
named_int_operand = refl

cases_of_two_types :
    fault (over ki.Switch [] (of_type 1 bool_t ∷ case_of 3 int_t (known 4 bool_t (byte_of 0) ∷ []) ∷ case_else 5 str_t ∷ [])) ≡ Some (39, 5)
cases_of_two_types = refl

cases_of_one_type :
    type (over ki.Switch [] (of_type 1 bool_t ∷ case_of 3 int_t (known 4 bool_t (byte_of 0) ∷ []) ∷ case_else 5 int_t ∷ []))
    ≡ Some (ty.Of int_t)
cases_of_one_type = refl

case_of_never_first :
    type (over ki.Switch [] (of_type 1 bool_t ∷ case_of 3 never_t (known 4 bool_t (byte_of 0) ∷ []) ∷ case_else 5 str_t ∷ []))
    ≡ Some (ty.Of str_t)
case_of_never_first = refl

-- ---- all values of u8, and all but one

-- a case for each byte below n, in descending order
abbrev pub byte_cases : ℕ → List TypedNode
byte_cases zero = []
byte_cases (suc n) = case_of 3 void_t (known 4 u8_t (byte_of n) ∷ []) ∷ byte_cases n

u8_covered : type (over ki.Switch [] (of_type 1 u8_t ∷ byte_cases 256)) ≡ Some (ty.Of void_t)
u8_covered = refl

u8_lacks_the_greatest : fault (over ki.Switch [] (of_type 1 u8_t ∷ byte_cases 255)) ≡ Some (37, 9)
u8_lacks_the_greatest = refl

u8_but_the_greatest_with_default : fault (over ki.Switch [] (of_type 1 u8_t ∷ byte_cases 255 ++ case_else 5 void_t ∷ [])) ≡ nothing
u8_but_the_greatest_with_default = refl
