-- Literals, names and operators in small bodies. The nodes of a well-typed body stand in check order, without
-- parts that are left out; of a fault the number is given, and the column, counted from the body's first character.
use Rattle.std.specs.Prelude.{◌≡◌, refl, pos, negsuc, [], ◌∷◌}
use Rattle.hare_tree.specs.declared.kind.Kind.TheVariants as ki
use Rattle.hare_tree.specs.Shape.{is_shaped, stops, begins_labelled}
use Rattle.hare_types.specs.declared.coercion.Ty.TheVariants as ty
use Rattle.hare_inference.specs.Inferred.{infer, infer_each}
use Rattle.worked_bodies.proofs.Store.{void, opaque, bool, rune, str, int, u8, size, pointer, nullable, either, to_opaque}
use Rattle.worked_bodies.proofs.Trees.{rules_say, Types, Fault, Goes, function, form, named, unary, binary, operator, number, character, local, declared, word, is, goes, exact, number_to}

-- ---- literals

-- fn() str = "a"
string : rules_say (function str [] 0 (named ki.Str 1 "a" [])) ≡ Types (is str ∷ [])
unfolding infer infer_each is_shaped stops begins_labelled
string = refl

-- fn() int = "a"
string_for_int : rules_say (function int [] 0 (named ki.Str 1 "a" [])) ≡ Fault 25 1
unfolding infer infer_each is_shaped stops begins_labelled
string_for_int = refl

-- fn() rune = 'a'
rune_literal : rules_say (function rune [] 0 (character 1 "'a'" 97)) ≡ Types (is rune ∷ [])
unfolding infer infer_each is_shaped stops begins_labelled
rune_literal = refl

-- fn() u8 = 'a'
rune_literal_for_u8 : rules_say (function u8 [] 0 (character 1 "'a'" 97)) ≡ Fault 25 1
unfolding infer infer_each is_shaped stops begins_labelled
rune_literal_for_u8 = refl

-- fn() void = void
void_literal : rules_say (function void [] 0 (form ki.Void 1 [])) ≡ Types (is void ∷ [])
unfolding infer infer_each is_shaped stops begins_labelled
void_literal = refl

-- fn() int = void
void_literal_for_int : rules_say (function int [] 0 (form ki.Void 1 [])) ≡ Fault 25 1
unfolding infer infer_each is_shaped stops begins_labelled
void_literal_for_int = refl

-- fn() nullable *int = null
null_literal : rules_say (function nullable [] 0 (form ki.Null 1 [])) ≡ Types (Goes ty.Null 6 (ty.Of nullable) ∷ [])
unfolding infer infer_each is_shaped stops begins_labelled
null_literal = refl

-- fn() *int = null
null_for_a_pointer : rules_say (function pointer [] 0 (form ki.Null 1 [])) ≡ Fault 25 1
unfolding infer infer_each is_shaped stops begins_labelled
null_for_a_pointer = refl

-- fn() bool = true
bool_literal : rules_say (function bool [] 0 (named ki.Bool 1 "true" [])) ≡ Types (is bool ∷ [])
unfolding infer infer_each is_shaped stops begins_labelled
bool_literal = refl

-- fn() str = true
bool_literal_for_str : rules_say (function str [] 0 (named ki.Bool 1 "true" [])) ≡ Fault 25 1
unfolding infer infer_each is_shaped stops begins_labelled
bool_literal_for_str = refl

-- fn() u8 = 255
number_literal : rules_say (function u8 [] 0 (number 1 "255" 255)) ≡ Types (number_to (pos 255) u8 ∷ [])
unfolding infer infer_each is_shaped stops begins_labelled
number_literal = refl

-- fn() u8 = 256
number_past_u8 : rules_say (function u8 [] 0 (number 1 "256" 256)) ≡ Fault 25 1
unfolding infer infer_each is_shaped stops begins_labelled
number_past_u8 = refl

-- ---- names and parentheses

-- fn(n: int) int = n
parameter : rules_say (function int (int ∷ []) 0 (local 1 "n" 0)) ≡ Types (is int ∷ [])
unfolding infer infer_each is_shaped stops begins_labelled
parameter = refl

-- fn() int = f
function_as_value : rules_say (function int [] 0 (declared 1 "f" 1)) ≡ Fault 27 1
unfolding infer infer_each is_shaped stops begins_labelled
function_as_value = refl

-- fn() u8 = (255)
parentheses : rules_say (function u8 [] 0 (unary ki.Paren 1 (number 2 "255" 255))) ≡ Types (number_to (pos 255) u8 ∷ is u8 ∷ [])
unfolding infer infer_each is_shaped stops begins_labelled
parentheses = refl

-- fn() u8 = (256)
parentheses_hand_their_hint_on : rules_say (function u8 [] 0 (unary ki.Paren 1 (number 2 "256" 256))) ≡ Fault 25 2
unfolding infer infer_each is_shaped stops begins_labelled
parentheses_hand_their_hint_on = refl

-- ---- one operand

-- fn(b: u8) u8 = -b
negation : rules_say (function u8 (u8 ∷ []) 0 (unary ki.Neg 1 (local 2 "b" 0))) ≡ Types (is u8 ∷ is u8 ∷ [])
unfolding infer infer_each is_shaped stops begins_labelled
negation = refl

-- fn() int = -true
negation_of_bool : rules_say (function int [] 0 (unary ki.Neg 1 (named ki.Bool 2 "true" []))) ≡ Fault 27 1
unfolding infer infer_each is_shaped stops begins_labelled
negation_of_bool = refl

-- fn() int = ~0
complement : rules_say (function int [] 0 (unary ki.Not 1 (number 2 "0" 0))) ≡ Types (exact (pos 0) ∷ number_to (negsuc 0) int ∷ [])
unfolding infer infer_each is_shaped stops begins_labelled
complement = refl

-- fn() int = ~"a"
complement_of_str : rules_say (function int [] 0 (unary ki.Not 1 (named ki.Str 2 "a" []))) ≡ Fault 27 1
unfolding infer infer_each is_shaped stops begins_labelled
complement_of_str = refl

-- fn() bool = !true
bang : rules_say (function bool [] 0 (unary ki.Bang 1 (named ki.Bool 2 "true" []))) ≡ Types (is bool ∷ is bool ∷ [])
unfolding infer infer_each is_shaped stops begins_labelled
bang = refl

-- fn() bool = !1
bang_of_number : rules_say (function bool [] 0 (unary ki.Bang 1 (number 2 "1" 1))) ≡ Fault 27 1
unfolding infer infer_each is_shaped stops begins_labelled
bang_of_number = refl

-- fn(p: *int) int = *p
dereference : rules_say (function int (pointer ∷ []) 0 (unary ki.Deref 1 (local 2 "p" 0))) ≡ Types (is pointer ∷ is int ∷ [])
unfolding infer infer_each is_shaped stops begins_labelled
dereference = refl

-- fn(p: nullable *int) int = *p
dereference_of_nullable : rules_say (function int (nullable ∷ []) 0 (unary ki.Deref 1 (local 2 "p" 0))) ≡ Fault 27 1
unfolding infer infer_each is_shaped stops begins_labelled
dereference_of_nullable = refl

-- fn(n: int) *int = &n
address : rules_say (function pointer (int ∷ []) 0 (unary ki.Addr 1 (local 2 "n" 0))) ≡ Types (is int ∷ is pointer ∷ [])
unfolding infer infer_each is_shaped stops begins_labelled
address = refl

-- fn() *int = &5
address_of_no_place : rules_say (function pointer [] 0 (unary ki.Addr 1 (number 2 "5" 5))) ≡ Fault 28 1
unfolding infer infer_each is_shaped stops begins_labelled
address_of_no_place = refl

-- ---- two operands

-- fn(n: int) int = n + 1
sum : rules_say (function int (int ∷ []) 0
    (operator ki.Arith 3 "+" (local 1 "n" 0) (number 5 "1" 1)))
    ≡ Types (is int ∷ number_to (pos 1) int ∷ is int ∷ [])
unfolding infer infer_each is_shaped stops begins_labelled
sum = refl

-- fn(n: int) int = n + "a"
sum_with_str : rules_say (function int (int ∷ []) 0 (operator ki.Arith 3 "+" (local 1 "n" 0) (named ki.Str 5 "a" []))) ≡ Fault 27 3
unfolding infer infer_each is_shaped stops begins_labelled
sum_with_str = refl

-- fn(b: u8) u8 = b << 900
shift : rules_say (function u8 (u8 ∷ []) 0
    (operator ki.Shift 3 "<<" (local 1 "b" 0) (number 6 "900" 900)))
    ≡ Types (is u8 ∷ exact (pos 900) ∷ is u8 ∷ [])
unfolding infer infer_each is_shaped stops begins_labelled
shift = refl

-- fn() int = 1 << 128
shift_of_numbers_by_128 : rules_say (function int [] 0 (operator ki.Shift 3 "<<" (number 1 "1" 1) (number 6 "128" 128))) ≡ Fault 22 3
unfolding infer infer_each is_shaped stops begins_labelled
shift_of_numbers_by_128 = refl

-- fn(n: int) bool = n < 5
comparison : rules_say (function bool (int ∷ []) 0
    (operator ki.Less 3 "<" (local 1 "n" 0) (number 5 "5" 5)))
    ≡ Types (is int ∷ number_to (pos 5) int ∷ is bool ∷ [])
unfolding infer infer_each is_shaped stops begins_labelled
comparison = refl

-- fn() bool = true < false
comparison_of_bools : rules_say (function bool [] 0
    (operator ki.Less 6 "<" (named ki.Bool 1 "true" []) (named ki.Bool 8 "false" [])))
    ≡ Fault 27 6
unfolding infer infer_each is_shaped stops begins_labelled
comparison_of_bools = refl

-- fn(p: *int, q: nullable *int) bool = p == q
equality_with_nullable : rules_say (function bool (pointer ∷ nullable ∷ []) 0
    (operator ki.Equal 3 "==" (local 1 "p" 0) (local 6 "q" 1)))
    ≡ Types (goes pointer 5 nullable ∷ is nullable ∷ is bool ∷ [])
unfolding infer infer_each is_shaped stops begins_labelled
equality_with_nullable = refl

-- fn(n: int) bool = n == "a"
equality_with_str : rules_say (function bool (int ∷ []) 0 (operator ki.Equal 3 "==" (local 1 "n" 0) (named ki.Str 6 "a" []))) ≡ Fault 27 3
unfolding infer infer_each is_shaped stops begins_labelled
equality_with_str = refl

-- fn(a: bool) bool = a && true
conjunction : rules_say (function bool (bool ∷ []) 0
    (operator ki.Logic 3 "&&" (local 1 "a" 0) (named ki.Bool 6 "true" [])))
    ≡ Types (is bool ∷ is bool ∷ is bool ∷ [])
unfolding infer infer_each is_shaped stops begins_labelled
conjunction = refl

-- fn(a: bool) bool = a && 1
conjunction_with_number : rules_say (function bool (bool ∷ []) 0 (operator ki.Logic 3 "&&" (local 1 "a" 0) (number 6 "1" 1))) ≡ Fault 25 6
unfolding infer infer_each is_shaped stops begins_labelled
conjunction_with_number = refl

-- fn(n: int) void = n += 1
compound_assignment : rules_say (function void (int ∷ []) 0
    (operator ki.OpAssign 3 "+=" (local 1 "n" 0) (number 6 "1" 1)))
    ≡ Types (is int ∷ number_to (pos 1) int ∷ is void ∷ [])
unfolding infer infer_each is_shaped stops begins_labelled
compound_assignment = refl

-- fn() void = 5 += 1
compound_assignment_to_no_place : rules_say (function void [] 0 (operator ki.OpAssign 3 "+=" (number 1 "5" 5) (number 6 "1" 1))) ≡ Fault 28
    3
unfolding infer infer_each is_shaped stops begins_labelled
compound_assignment_to_no_place = refl

-- fn(n: int) void = n = 1
assignment : rules_say (function void (int ∷ []) 0
    (binary ki.Assign 3 (local 1 "n" 0) (number 5 "1" 1)))
    ≡ Types (is int ∷ number_to (pos 1) int ∷ is void ∷ [])
unfolding infer infer_each is_shaped stops begins_labelled
assignment = refl

-- fn() void = 5 = 6
assignment_to_no_place : rules_say (function void [] 0 (binary ki.Assign 3 (number 1 "5" 5) (number 5 "6" 6))) ≡ Fault 28 3
unfolding infer infer_each is_shaped stops begins_labelled
assignment_to_no_place = refl

-- ---- an operand and a type, and measures of types

-- fn(n: int) u8 = n: u8
cast : rules_say (function u8 (int ∷ []) 0 (binary ki.Cast 2 (local 1 "n" 0) (word 4 "u8"))) ≡ Types (is int ∷ is u8 ∷ is u8 ∷ [])
unfolding infer infer_each is_shaped stops begins_labelled
cast = refl

-- fn() bool = 1: bool
cast_to_bool : rules_say (function bool [] 0 (binary ki.Cast 2 (number 1 "1" 1) (word 4 "bool"))) ≡ Fault 26 2
unfolding infer infer_each is_shaped stops begins_labelled
cast_to_bool = refl

-- fn(x: (int | str)) int = x as int
member : rules_say (function int (either ∷ []) 0 (binary ki.As 3 (local 1 "x" 0) (word 6 "int"))) ≡ Types (is either ∷ is int ∷ is int ∷ [])
unfolding infer infer_each is_shaped stops begins_labelled
member = refl

-- fn(x: (int | str)) bool = x as bool
no_member : rules_say (function bool (either ∷ []) 0 (binary ki.As 3 (local 1 "x" 0) (word 6 "bool"))) ≡ Fault 36 3
unfolding infer infer_each is_shaped stops begins_labelled
no_member = refl

-- fn(x: (int | str)) bool = x is str
test_of_member : rules_say (function bool (either ∷ []) 0
    (binary ki.Is 3 (local 1 "x" 0) (word 6 "str")))
    ≡ Types (is either ∷ is str ∷ is bool ∷ [])
unfolding infer infer_each is_shaped stops begins_labelled
test_of_member = refl

-- fn(n: int) bool = n is int
test_of_no_union : rules_say (function bool (int ∷ []) 0 (binary ki.Is 3 (local 1 "n" 0) (word 6 "int"))) ≡ Fault 35 3
unfolding infer infer_each is_shaped stops begins_labelled
test_of_no_union = refl

-- fn() size = size(int)
size_of_int : rules_say (function size [] 0 (unary ki.Size 1 (word 6 "int"))) ≡ Types (is int ∷ is size ∷ [])
unfolding infer infer_each is_shaped stops begins_labelled
size_of_int = refl

-- fn() size = size(opaque)
size_of_opaque : rules_say (function size [] 0 (unary ki.Size 1 (word 6 "opaque"))) ≡ Fault 17 1
unfolding infer infer_each is_shaped stops begins_labelled
size_of_opaque = refl

-- fn() size = align(*opaque)
alignment_of_pointer : rules_say (function size [] 0
    (unary ki.Align 1 (unary ki.TypePointer 7 (word 8 "opaque"))))
    ≡ Types (is opaque ∷ is to_opaque ∷ is size ∷ [])
unfolding infer infer_each is_shaped stops begins_labelled
alignment_of_pointer = refl

-- fn() size = align(never)
alignment_of_never : rules_say (function size [] 0 (unary ki.Align 1 (word 7 "never"))) ≡ Fault 17 1
unfolding infer infer_each is_shaped stops begins_labelled
alignment_of_never = refl
