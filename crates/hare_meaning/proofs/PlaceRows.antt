-- Rows of places: pointers, elements, fields, slices, assignments.
use Rattle.std.proofs.Common.{◌≡◌, [], ◌∷◌, codes, refl}
use Rattle.std.specs.Fmt.{digits}
use Rattle.hare_tree.specs.declared.kind.Kind.TheVariants as kind
use Rattle.hare_typed.specs.declared.cell.Cell.TheVariants.{Byte as byte}
use Rattle.hare_typed.specs.Typed.{TypedNode}
use Rattle.hare_typed.specs.State.{Exit, Abort}
use Rattle.hare_meaning.proofs.Samples.{void, u8, int, size, bytes, four_bytes, byte_pointer, pair, pair_pointer, pair_pointer_pointer, slice, slice_pointer, three_ints, tuple}
use Rattle.hare_meaning.proofs.Trees.{at, absent, node, one, main, function, call, puts, text, block, giving, outcome, ends, shows, exit, tell, bind, local, global, hand, set, set_by, n8, num, plus, times, equal, array, part, index, field, type_node, known}

abbrev four : TypedNode
four = array four_bytes (n8 1 ∷ n8 2 ∷ n8 3 ∷ n8 4 ∷ [])

abbrev both : TypedNode → TypedNode → TypedNode
both a b = plus (times a (n8 16)) b

-- `pair { a = 1, b = 2 }`
abbrev made : TypedNode
made =
    node kind.StructLit [] 0 pair
    (type_node pair ∷ node kind.FieldValue (codes "a") 0 u8 (n8 1 ∷ []) ∷ node kind.FieldValue (codes "b") 0 int (num int 2 ∷ [])
    ∷ absent ∷ [])

-- ---- pointers

through_a_pointer : ends (bind (n8 5) ∷ bind (one kind.Addr byte_pointer (local 0 u8))
    ∷ set (one kind.Deref u8 (local 1 byte_pointer)) (n8 6) ∷ exit (local 0 u8) ∷ []) 0 ≡ Exit 6
through_a_pointer = refl

-- ---- elements

element : ends (bind four ∷ exit (index u8 (local 0 four_bytes) (num size 2)) ∷ []) 0 ≡ Exit 3
element = refl

element_set : ends (bind four ∷ set (index u8 (local 0 four_bytes) (num size 2)) (n8 9)
    ∷ exit (index u8 (local 0 four_bytes) (num size 2)) ∷ []) 0 ≡ Exit 9
element_set = refl

element_of_a_value : ends (exit (index u8 four (num size 3)) ∷ []) 0 ≡ Exit 4
element_of_a_value = refl

past_the_length : ends (bind four ∷ exit (at 5 (index u8 (local 0 four_bytes) (num size 4))) ∷ []) 0 ≡ Abort (codes "m.ha:1:5: abort 0")
unfolding digits
past_the_length = refl

-- the operand is evaluated before the index, and the abort comes behind both
index_order : shows (bind (index u8 (giving four_bytes (puts 0 (codes "a") ∷ hand four ∷ [])) (giving size (puts 1 (codes "b")
    ∷ hand (num size 4) ∷ []))) ∷ []) 0 ≡ codes "ab"
index_order = refl

-- a slice over an array stores into it
abbrev whole : TypedNode
whole = part bytes (local 0 four_bytes) absent absent

slice_of_an_array : ends (bind four ∷ bind whole ∷ set (index u8 (local 1 bytes) (num size 1)) (n8 9)
    ∷ exit (index u8 (local 0 four_bytes) (num size 1)) ∷ []) 0 ≡ Exit 9
slice_of_an_array = refl

abbrev length_of : TypedNode → TypedNode
length_of e = node kind.Cast [] 0 u8 (one kind.Len size e ∷ type_node u8 ∷ [])

slice_of_a_slice : ends (bind four ∷ bind (part bytes (local 0 four_bytes) (num size 1) absent)
    ∷ bind (part bytes (local 1 bytes) (num size 1) (num size 2))
    ∷ exit (both (index u8 (local 2 bytes) (num size 0)) (length_of (local 2 bytes))) ∷ []) 0 ≡ Exit 49
slice_of_a_slice = refl

-- a whole slice ends at its length
upper_bound_past_the_length : ends (bind four ∷ bind (at 5 (part bytes (local 0 four_bytes) (num size 1) (num size 5))) ∷ []) 0
    ≡ Abort (codes "m.ha:1:5: abort 0")
unfolding digits
upper_bound_past_the_length = refl

bounds_the_wrong_way : ends (bind four ∷ bind (at 5 (part bytes (local 0 four_bytes) (num size 3) (num size 2))) ∷ []) 0
    ≡ Abort (codes "m.ha:1:5: abort 0")
unfolding digits
bounds_the_wrong_way = refl

empty_slice_at_the_end : ends (bind four ∷ bind (part bytes (local 0 four_bytes) (num size 4) absent)
    ∷ exit (length_of (local 1 bytes)) ∷ []) 0 ≡ Exit 0
empty_slice_at_the_end = refl

-- ---- fields

field_of_a_local : ends (bind made
    ∷ exit (both (field u8 (codes "a") (local 0 pair)) (node kind.Cast [] 0 u8 (field int (codes "b") (local 0 pair) ∷ type_node u8
    ∷ []))) ∷ []) 0 ≡ Exit 18
field_of_a_local = refl

field_set : ends (bind made ∷ set (field u8 (codes "a") (local 0 pair)) (n8 7) ∷ exit (field u8 (codes "a") (local 0 pair)) ∷ []) 0
    ≡ Exit 7
field_set = refl

-- of a value that is no place: it is read from the object that holds this
field_of_a_value : ends (exit (field u8 (codes "a") made) ∷ []) 0 ≡ Exit 1
field_of_a_value = refl

field_of_a_call : outcome (main (exit (field u8 (codes "a") (call 1 pair [])) ∷ []) ∷ function [] pair made ∷ []) 1 ≡ Exit 1
field_of_a_call = refl

-- pointers before a field, an element or a slice are followed
field_through_a_pointer : ends (bind made ∷ bind (one kind.Addr pair_pointer (local 0 pair))
    ∷ set (field u8 (codes "a") (local 1 pair_pointer)) (n8 7) ∷ exit (field u8 (codes "a") (local 0 pair)) ∷ []) 0 ≡ Exit 7
field_through_a_pointer = refl

component : ends (bind (node kind.Tuple [] 0 tuple (n8 3 ∷ num int 4 ∷ absent ∷ []))
    ∷ tell (node kind.Field (codes "1") 1 int (local 0 tuple ∷ [])) ∷ []) 0 ≡ Exit 4
component = refl

element_through_a_pointer : ends (bind (array three_ints (num int 1 ∷ num int 2 ∷ num int 3 ∷ []))
    ∷ bind (part slice (local 0 three_ints) absent absent)
    ∷ bind (one kind.Addr slice_pointer (local 1 slice)) ∷ tell (index int (local 2 slice_pointer) (num size 2)) ∷ []) 0 ≡ Exit 3
element_through_a_pointer = refl

-- also more than one
field_through_two_pointers : ends (bind made ∷ bind (one kind.Addr pair_pointer (local 0 pair))
    ∷ bind (one kind.Addr pair_pointer_pointer (local 1 pair_pointer))
    ∷ set (field u8 (codes "a") (local 2 pair_pointer_pointer)) (n8 7) ∷ exit (field u8 (codes "a") (local 0 pair)) ∷ []) 0 ≡ Exit 7
field_through_two_pointers = refl

-- each is read where the one before it leads: a store to the inner one is seen
field_through_another_pointer : ends (bind made ∷ bind made ∷ bind (one kind.Addr pair_pointer (local 0 pair))
    ∷ bind (one kind.Addr pair_pointer_pointer (local 2 pair_pointer)) ∷ set (field u8 (codes "a") (local 1 pair)) (n8 9)
    ∷ set (local 2 pair_pointer) (one kind.Addr pair_pointer (local 1 pair))
    ∷ exit (field u8 (codes "a") (local 3 pair_pointer_pointer)) ∷ []) 0 ≡ Exit 9
field_through_another_pointer = refl

-- ---- assignments

-- the place is found before the value is computed
place_before_value : ends (bind four ∷ bind (num size 0)
    ∷ set (index u8 (local 0 four_bytes) (local 1 size)) (giving u8 (set (local 1 size) (num size 2) ∷ hand (n8 9) ∷ []))
    ∷ exit (index u8 (local 0 four_bytes) (num size 0)) ∷ []) 0 ≡ Exit 9
place_before_value = refl

-- with an operator it is read behind that
read_behind_the_value : ends (bind (n8 1) ∷ set_by (codes "+=") (local 0 u8) (giving u8 (set (local 0 u8) (n8 5) ∷ hand (n8 2) ∷ []))
    ∷ exit (local 0 u8) ∷ []) 0 ≡ Exit 7
read_behind_the_value = refl

operators_that_store : ends (bind (n8 7) ∷ set_by (codes "*=") (local 0 u8) (n8 6) ∷ set_by (codes "%=") (local 0 u8) (n8 16)
    ∷ set_by (codes "<<=") (local 0 u8) (n8 2)
    ∷ set_by (codes "|=") (local 0 u8) (n8 3) ∷ exit (local 0 u8) ∷ []) 0 ≡ Exit 43
operators_that_store = refl

divided_by_zero : ends (bind (n8 7) ∷ at 5 (set_by (codes "/=") (local 0 u8) (n8 0)) ∷ []) 0 ≡ Abort (codes "m.ha:1:5: abort 8")
unfolding digits
divided_by_zero = refl

-- ---- globals

-- `let g: u8 = 5`, and the same as a constant
abbrev variable : TypedNode
variable = node kind.GlobalLet [] 0 void (absent ∷ absent ∷ absent ∷ known (byte 5 ∷ []) (n8 5) ∷ [])

abbrev fixed : TypedNode
fixed = node kind.GlobalConst [] 0 void (absent ∷ absent ∷ absent ∷ known (byte 5 ∷ []) (n8 5) ∷ [])

global_read : outcome (main (exit (global 1 u8) ∷ []) ∷ variable ∷ []) 0 ≡ Exit 5
global_read = refl

global_set : outcome (main (set (global 1 u8) (n8 6) ∷ call 2 void [] ∷ []) ∷ variable ∷ function [] void (block (exit (global 1 u8)
    ∷ [])) ∷ []) 1 ≡ Exit 6
global_set = refl

constant_read : outcome (main (exit (global 1 u8) ∷ []) ∷ fixed ∷ []) 0 ≡ Exit 5
constant_read = refl

-- texts are compared by their bytes
texts_of_two_nodes : ends (node kind.Assert [] 0 void (equal (text 0 (codes "ab")) (text 1 (codes "ab")) ∷ absent ∷ []) ∷ exit (n8 1)
    ∷ []) 0 ≡ Exit 1
texts_of_two_nodes = refl
