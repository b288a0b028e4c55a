-- Rows of the evaluation of constants, worked out.
use Rattle.std.proofs.Common.{◌≡◌, ℕ, ◌++◌, List, [], ◌∷◌, codes, pos, refl}
use Rattle.std.specs.Prelude.{map}
use Rattle.std.specs.Fmt.{digits}
use Rattle.hare_tree.specs.declared.kind.Kind.{Kind}
use Rattle.hare_tree.specs.declared.kind.Kind.TheVariants as kind
use Rattle.hare_tree.specs.declared.token.Meaning.{Meaning}
use Rattle.hare_tree.specs.declared.token.Meaning.TheVariants as meant
use Rattle.hare_tree.specs.declared.token.Suffix.TheVariants as suffix
use Rattle.hare_types.specs.declared.coercion.Ty.{Ty}
use Rattle.hare_types.specs.declared.coercion.Ty.TheVariants as kept
use Rattle.hare_typed.specs.declared.cell.Cell.{Cell}
use Rattle.hare_typed.specs.declared.constant.Const.{Const}
use Rattle.hare_typed.specs.declared.constant.Const.TheVariants as constant
use Rattle.hare_typed.specs.Typed.{TypedNode, marked, typed_nodes}
use Rattle.hare_typed.specs.Scalars.{Address, Pointing, Nullable, cells}
use Rattle.hare_typed.specs.Words.{three}
use Rattle.hare_typed.specs.State.{Outcome, Value, Abort}
use Rattle.hare_typed.specs.ConstantValues.{constant_result}
use Rattle.hare_typed.proofs.Samples.{types, bytes, no_cells, void, bool, rune, str, u8, i8, u16, int, size, pointer, slice, three_ints, pair, tuple, void_or_int, void_or_slice}

-- ---- trees in few words

-- a node with a text and a number, at line 1, column 2
abbrev node : Kind → List ℕ → ℕ → Ty → List TypedNode → TypedNode
node k x n t ts =
    marked record { kind = k; place = record { file = 0; line = 1; column = 2 }; text = x; number = n; suffix = suffix.None }
    record { node = 0; ty = t; coerce = record { row = 1; to = t }; meaning = meant.None; value = constant.Absent } (typed_nodes ts)

-- with a coercion, a node number, a meaning, a constant
abbrev to : ℕ → ℕ → TypedNode → TypedNode
to r t (marked h m ts) = marked h (record m { coerce = record { row = r; to = kept.Of t } }) ts

abbrev at : ℕ → TypedNode → TypedNode
at n (marked h m ts) = marked h (record m { node = n }) ts

abbrev meaning : Meaning → TypedNode → TypedNode
meaning w (marked h m ts) = marked h (record m { meaning = w }) ts

abbrev known : Const → TypedNode → TypedNode
known c (marked h m ts) = marked h (record m { value = c }) ts

abbrev none : TypedNode
none = node kind.None [] 0 kept.Empty []

-- a number with a suffix, and one without at a type that holds it
abbrev num : ℕ → ℕ → TypedNode
num t n = node kind.Number [] n (kept.Of t) []

abbrev bare : ℕ → ℕ → TypedNode
bare n t = to 3 t (node kind.Number [] n (kept.Iconst (pos n)) [])

abbrev text : ℕ → List ℕ → TypedNode
text n bs = at n (node kind.Str bs 0 (kept.Of str) [])

abbrev type_node : ℕ → TypedNode
type_node t = node kind.TypeScalar [] 0 (kept.Of t) []

abbrev two : Kind → List ℕ → ℕ → TypedNode → TypedNode → TypedNode
two k x t a b = node k x 0 (kept.Of t) (a ∷ b ∷ [])

-- the outcome in declaration 2
abbrev outcome : TypedNode → Outcome
outcome t = (constant_result types 2 t).0

-- the static object of node 0 of declaration 2
abbrev first_object : ℕ
first_object = 12884901888

-- ---- literals

number_with_a_suffix : outcome (num u8 200) ≡ Value (bytes (200 ∷ []))
number_with_a_suffix = refl

number_without_one : outcome (node kind.Number [] 200 (kept.Iconst (pos 200)) []) ≡ Value []
number_without_one = refl

number_at_its_site : outcome (bare 513 int) ≡ Value (bytes (1 ∷ 2 ∷ 0 ∷ 0 ∷ []))
number_at_its_site = refl

rune_of_four_bytes : outcome (node kind.RuneLit [] 8364 (kept.Of rune) []) ≡ Value (bytes (172 ∷ 32 ∷ 0 ∷ 0 ∷ []))
rune_of_four_bytes = refl

true_literal : outcome (node kind.Bool (codes "true") 0 (kept.Of bool) []) ≡ Value (bytes (1 ∷ []))
true_literal = refl

false_literal : outcome (node kind.Bool (codes "false") 0 (kept.Of bool) []) ≡ Value (bytes (0 ∷ []))
false_literal = refl

null_at_its_site : outcome (to 6 pointer (node kind.Null [] 0 kept.Null [])) ≡ Value (bytes (0 ∷ 0 ∷ 0 ∷ 0 ∷ 0 ∷ 0 ∷ 0 ∷ 0 ∷ []))
null_at_its_site = refl

void_has_no_cells : outcome (node kind.Void [] 0 (kept.Of void) []) ≡ Value []
void_has_no_cells = refl

void_as_a_member : outcome (to 9 void_or_int (node kind.Void [] 0 (kept.Of void) [])) ≡ Value (bytes (2 ∷ 0 ∷ 0 ∷ 0 ∷ []) ++ no_cells 4)
void_as_a_member = refl

string_is_three_words : outcome (text 7 (codes "abc"))
    ≡ Value (three (record { data_at = Address 12884901895 0; length = 3; capacity = 3 }))
string_is_three_words = refl

-- ---- paths

def_has_its_constant : outcome (known (constant.Known (bytes (9 ∷ 0 ∷ 0 ∷ 0 ∷ [])) []) (node kind.Path [] 0 (kept.Of int) []))
    ≡ Value (bytes (9 ∷ 0 ∷ 0 ∷ 0 ∷ []))
def_has_its_constant = refl

address_of_a_global : outcome (node kind.Addr [] 0 (kept.Of pointer)
    (meaning (meant.Decl 5) (node kind.Path [] 0 (kept.Of int) []) ∷ [])) ≡ Value (cells Nullable (Pointing (Address 5 0)))
address_of_a_global = refl

address_in_parentheses : outcome (node kind.Addr [] 0 (kept.Of pointer)
    (node kind.Paren [] 0 (kept.Of int) (meaning (meant.Decl 5) (node kind.Path [] 0 (kept.Of int) []) ∷ []) ∷ []))
    ≡ Value (cells Nullable (Pointing (Address 5 0)))
address_in_parentheses = refl

-- ---- operators

sum_is_cut : outcome (two kind.Arith (codes "+") u8 (num u8 200) (num u8 100)) ≡ Value (bytes (44 ∷ []))
sum_is_cut = refl

sum_of_widened : outcome (two kind.Arith (codes "+") u16 (to 4 u16 (num u8 200)) (num u16 100)) ≡ Value (bytes (44 ∷ 1 ∷ []))
sum_of_widened = refl

division_by_zero : outcome (two kind.Arith (codes "/") u8 (num u8 1) (num u8 0)) ≡ Abort (codes ":1:2: abort 8")
unfolding digits
division_by_zero = refl

division_without_a_type : outcome (node kind.Arith (codes "/") 0 (kept.Iconst (pos 3))
    (node kind.Number [] 7 (kept.Iconst (pos 7)) [] ∷ node kind.Number [] 2 (kept.Iconst (pos 2)) [] ∷ [])) ≡ Value []
division_without_a_type = refl

least_by_minus_one : outcome (two kind.Arith (codes "/") i8 (num i8 128) (node kind.Neg [] 0 (kept.Of i8) (num i8 1 ∷ [])))
    ≡ Value (bytes (128 ∷ []))
least_by_minus_one = refl

minus_one : outcome (node kind.Neg [] 0 (kept.Of int) (num int 1 ∷ [])) ≡ Value (bytes (255 ∷ 255 ∷ 255 ∷ 255 ∷ []))
minus_one = refl

complement : outcome (node kind.Not [] 0 (kept.Of u8) (num u8 15 ∷ [])) ≡ Value (bytes (240 ∷ []))
complement = refl

shift_by_the_width : outcome (two kind.Shift (codes "<<") u8 (num u8 5) (bare 9 int)) ≡ Value (bytes (10 ∷ []))
shift_by_the_width = refl

less_without_a_type : outcome (two kind.Less (codes "<") bool (node kind.Number [] 1 (kept.Iconst (pos 1)) [])
    (node kind.Number [] 2 (kept.Iconst (pos 2)) [])) ≡ Value (bytes (1 ∷ []))
less_without_a_type = refl

signed_is_less : outcome (two kind.Less (codes "<") bool (node kind.Neg [] 0 (kept.Of int) (num int 1 ∷ [])) (num int 0))
    ≡ Value (bytes (1 ∷ []))
signed_is_less = refl

equal_numbers : outcome (two kind.Equal (codes "==") bool (num u8 3) (num u8 3)) ≡ Value (bytes (1 ∷ []))
equal_numbers = refl

unequal_bools : outcome (two kind.Equal (codes "!=") bool (node kind.Bool (codes "true") 0 (kept.Of bool) [])
    (node kind.Bool (codes "false") 0 (kept.Of bool) [])) ≡ Value (bytes (1 ∷ []))
unequal_bools = refl

equal_texts : outcome (two kind.Equal (codes "==") bool (text 0 (codes "ab")) (text 1 (codes "ab"))) ≡ Value (bytes (1 ∷ []))
equal_texts = refl

other_text : outcome (two kind.Equal (codes "==") bool (text 0 (codes "ab")) (text 1 (codes "ac"))) ≡ Value (bytes (0 ∷ []))
other_text = refl

longer_text : outcome (two kind.Equal (codes "==") bool (text 0 (codes "ab")) (text 1 (codes "abc"))) ≡ Value (bytes (0 ∷ []))
longer_text = refl

-- a def whose string is that of node 3 of declaration 0
text_of_a_def : outcome (two kind.Equal (codes "==") bool
    (known (constant.Known (three (record { data_at = Address 4294967299 0; length = 1; capacity = 1 }))
    (record { object = 4294967299; cells = bytes (97 ∷ []) } ∷ [])) (node kind.Path [] 0 (kept.Of str) [])) (text 1 (codes "a")))
    ≡ Value (bytes (1 ∷ []))
text_of_a_def = refl

-- the right operand is not evaluated where the left one decides
and_stops : outcome (two kind.Logic (codes "&&") bool (node kind.Bool (codes "false") 0 (kept.Of bool) [])
    (two kind.Equal (codes "==") bool (two kind.Arith (codes "/") u8 (num u8 1) (num u8 0)) (num u8 0))) ≡ Value (bytes (0 ∷ []))
and_stops = refl

or_goes_on : outcome (two kind.Logic (codes "||") bool (node kind.Bool (codes "false") 0 (kept.Of bool) [])
    (node kind.Bool (codes "true") 0 (kept.Of bool) [])) ≡ Value (bytes (1 ∷ []))
or_goes_on = refl

one_of_two : outcome (two kind.Logic (codes "^^") bool (node kind.Bool (codes "true") 0 (kept.Of bool) [])
    (node kind.Bool (codes "true") 0 (kept.Of bool) [])) ≡ Value (bytes (0 ∷ []))
one_of_two = refl

bang : outcome (node kind.Bang [] 0 (kept.Of bool) (node kind.Bool (codes "true") 0 (kept.Of bool) [] ∷ [])) ≡ Value (bytes (0 ∷ []))
bang = refl

cast_cuts : outcome (two kind.Cast [] u8 (num u16 511) (type_node u8)) ≡ Value (bytes (255 ∷ []))
cast_cuts = refl

cast_keeps_the_sign : outcome (two kind.Cast [] int (num i8 128) (type_node int)) ≡ Value (bytes (128 ∷ 255 ∷ 255 ∷ 255 ∷ []))
cast_keeps_the_sign = refl

cast_without_a_type : outcome (two kind.Cast [] u8 (node kind.Number [] 300 (kept.Iconst (pos 300)) []) (type_node u8))
    ≡ Value (bytes (44 ∷ []))
cast_without_a_type = refl

cast_of_a_rune : outcome (two kind.Cast [] u8 (node kind.RuneLit [] 353 (kept.Of rune) []) (type_node u8)) ≡ Value (bytes (97 ∷ []))
cast_of_a_rune = refl

-- ---- values with parts

-- b stands at 4; what lies between is undefined
struct_in_written_order : outcome (node kind.StructLit [] 0 (kept.Of pair)
    (type_node pair ∷ node kind.FieldValue (codes "b") 0 (kept.Of void) (num int 1 ∷ []) ∷ node kind.FieldValue (codes "a") 0
    (kept.Of void) (num u8 2 ∷ []) ∷ none ∷ [])) ≡ Value (bytes (2 ∷ []) ++ no_cells 3 ++ bytes (1 ∷ 0 ∷ 0 ∷ 0 ∷ []))
struct_in_written_order = refl

tuple_rounds_up : outcome (node kind.Tuple [] 0 (kept.Of tuple) (num u8 1 ∷ num int 2 ∷ num size 3 ∷ none ∷ []))
    ≡ Value (bytes (1 ∷ []) ++ no_cells 3 ++ bytes (2 ∷ 0 ∷ 0 ∷ 0 ∷ 3 ∷ 0 ∷ 0 ∷ 0 ∷ 0 ∷ 0 ∷ 0 ∷ 0 ∷ []))
tuple_rounds_up = refl

abbrev ints : List TypedNode → TypedNode
ints ts = at 4 (node kind.Array [] 0 (kept.Of three_ints) ts)

array_of_items : outcome (ints (num int 1 ∷ num int 2 ∷ num int 3 ∷ none ∷ none ∷ []))
    ≡ Value (bytes (1 ∷ 0 ∷ 0 ∷ 0 ∷ 2 ∷ 0 ∷ 0 ∷ 0 ∷ 3 ∷ 0 ∷ 0 ∷ 0 ∷ []))
array_of_items = refl

array_repeats_its_last : outcome (ints (num int 1 ∷ num int 2 ∷ node kind.Dots [] 0 (kept.Of void) [] ∷ none ∷ []))
    ≡ Value (bytes (1 ∷ 0 ∷ 0 ∷ 0 ∷ 2 ∷ 0 ∷ 0 ∷ 0 ∷ 2 ∷ 0 ∷ 0 ∷ 0 ∷ []))
array_repeats_its_last = refl

array_of_none : outcome (node kind.Array [] 0 kept.Empty (none ∷ none ∷ [])) ≡ Value []
array_of_none = refl

-- ---- arrays that become slices in the value of a global

array_as_a_slice : outcome (to 7 slice (ints (num int 1 ∷ num int 2 ∷ num int 3 ∷ none ∷ none ∷ [])))
    ≡ Value (three (record { data_at = Address 12884901892 0; length = 3; capacity = 3 }))
array_as_a_slice = refl

its_object_is_static : map {B = ℕ × List Cell} (λ o. (o.0, o.1.cells))
    (constant_result types 2 (to 7 slice (ints (num int 1 ∷ num int 2 ∷ num int 3 ∷ none ∷ none ∷ [])))).1.memory.objects.named
    ≡ (12884901892, bytes (1 ∷ 0 ∷ 0 ∷ 0 ∷ 2 ∷ 0 ∷ 0 ∷ 0 ∷ 3 ∷ 0 ∷ 0 ∷ 0 ∷ [])) ∷ []
its_object_is_static = refl

array_as_a_member : outcome (to 9 void_or_slice (ints (num int 1 ∷ num int 2 ∷ num int 3 ∷ none ∷ none ∷ [])))
    ≡ Value (bytes (5 ∷ 0 ∷ 0 ∷ 0 ∷ []) ++ no_cells 4 ++ three (record { data_at = Address 12884901892 0; length = 3; capacity = 3 }))
array_as_a_member = refl

-- the pointer is not null
none_as_a_slice : outcome (to 7 slice (node kind.Array [] 0 kept.Empty (none ∷ none ∷ [])))
    ≡ Value (three (record { data_at = Address first_object 0; length = 0; capacity = 0 }))
none_as_a_slice = refl

-- ---- sizes

size_of_a_tuple : outcome (node kind.Size [] 0 (kept.Of size) (type_node tuple ∷ [])) ≡ Value (bytes (16 ∷ 0 ∷ 0 ∷ 0 ∷ 0 ∷ 0 ∷ 0 ∷ 0 ∷ []))
size_of_a_tuple = refl

align_of_a_pair : outcome (node kind.Align [] 0 (kept.Of size) (type_node pair ∷ [])) ≡ Value (bytes (4 ∷ 0 ∷ 0 ∷ 0 ∷ 0 ∷ 0 ∷ 0 ∷ 0 ∷ []))
align_of_a_pair = refl

offset_of_a_field : outcome (node kind.Offset [] 0 (kept.Of size)
    (node kind.Field (codes "b") 0 (kept.Of int) (node kind.Path [] 0 (kept.Of pair) [] ∷ []) ∷ []))
    ≡ Value (bytes (4 ∷ 0 ∷ 0 ∷ 0 ∷ 0 ∷ 0 ∷ 0 ∷ 0 ∷ []))
offset_of_a_field = refl

offset_of_a_component : outcome (node kind.Offset [] 0 (kept.Of size)
    (node kind.Field (codes "2") 2 (kept.Of size) (node kind.Path [] 0 (kept.Of tuple) [] ∷ []) ∷ []))
    ≡ Value (bytes (8 ∷ 0 ∷ 0 ∷ 0 ∷ 0 ∷ 0 ∷ 0 ∷ 0 ∷ []))
offset_of_a_component = refl

length_of_an_array : outcome (node kind.Len [] 0 (kept.Of size)
    (ints (num int 1 ∷ node kind.Dots [] 0 (kept.Of void) [] ∷ none ∷ []) ∷ [])) ≡ Value (bytes (3 ∷ 0 ∷ 0 ∷ 0 ∷ 0 ∷ 0 ∷ 0 ∷ 0 ∷ []))
length_of_an_array = refl

length_of_a_string : outcome (node kind.Len [] 0 (kept.Of size) (text 0 (codes "abcd") ∷ []))
    ≡ Value (bytes (4 ∷ 0 ∷ 0 ∷ 0 ∷ 0 ∷ 0 ∷ 0 ∷ 0 ∷ []))
length_of_a_string = refl
