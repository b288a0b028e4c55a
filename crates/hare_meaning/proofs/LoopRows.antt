-- Rows of loops, and of turns.
use Rattle.std.proofs.Common.{◌≡◌, ℕ, [], ◌∷◌, codes, refl}
use Rattle.hare_tree.specs.declared.kind.Kind.TheVariants as kind
use Rattle.hare_typed.specs.Typed.{TypedNode}
use Rattle.hare_typed.specs.State.{Exit, Undefined, Spent}
use Rattle.hare_meaning.proofs.Samples.{bool, u8, int, size, pointer, pointer_to_pointer, three_ints, byte_pointer, bytes, four_bytes}
use Rattle.hare_meaning.proofs.Trees.{place, at, absent, one, puts, block, giving, labelled, ends, shows, exit, bind, local, hand, set, set_by, leave, again, loop, each, element, element_address, when, yes, no, n8, num, less, equal, array, part, index}

-- `for (let i = 0u8; i < n; i += 1) body`
abbrev counting : ℕ → TypedNode → TypedNode
counting n b = loop (bind (n8 0)) (less (codes "<") (local 0 u8) (n8 n)) (set_by (codes "+=") (local 0 u8) (n8 1)) b

-- ---- turns

-- three turns with a body, and one in which the test fails
three_times : shows (counting 3 (puts 0 (codes "x")) ∷ []) 4 ≡ codes "xxx"
three_times = refl

three_times_ends : ends (counting 3 (puts 0 (codes "x")) ∷ []) 4 ≡ Exit 0
three_times_ends = refl

a_turn_too_few : ends (counting 3 (puts 0 (codes "x")) ∷ []) 3 ≡ Spent
a_turn_too_few = refl

spent_behind_its_output : shows (counting 3 (puts 0 (codes "x")) ∷ []) 2 ≡ codes "xx"
spent_behind_its_output = refl

-- the first turn is one too, and the head is evaluated before it
no_turn_at_all : ends (counting 0 (puts 0 (codes "x")) ∷ []) 0 ≡ Spent
no_turn_at_all = refl

head_before_the_first_turn : shows (loop (bind (giving u8 (puts 0 (codes "h") ∷ hand (n8 0) ∷ []))) no absent (block []) ∷ []) 0
    ≡ codes "h"
head_before_the_first_turn = refl

main_uses_no_turn : ends (exit (n8 3) ∷ []) 0 ≡ Exit 3
main_uses_no_turn = refl

-- loops one behind another have the same turns
one_behind_another : ends (counting 2 (block []) ∷ loop absent no absent (block []) ∷ exit (n8 3) ∷ []) 3 ≡ Exit 3
one_behind_another = refl

-- `for (let i = 0u8; i < 2; i += 1) for (let j = 0u8; j < 2; j += 1) puts("x")`: in the first turn of the outer loop the inner one
-- has one turn less than that, and in the second two
abbrev nest : TypedNode
nest =
    counting 2
    (loop (bind (n8 0)) (less (codes "<") (local 1 u8) (n8 2)) (set_by (codes "+=") (local 1 u8) (n8 1)) (puts 0 (codes "x")))

nested_at_0 : ends (nest ∷ []) 0 ≡ Spent
nested_at_0 = refl

nested_output_at_0 : shows (nest ∷ []) 0 ≡ codes ""
nested_output_at_0 = refl

nested_at_1 : ends (nest ∷ []) 1 ≡ Spent
nested_at_1 = refl

nested_output_at_1 : shows (nest ∷ []) 1 ≡ codes ""
nested_output_at_1 = refl

nested_at_2 : ends (nest ∷ []) 2 ≡ Spent
nested_at_2 = refl

nested_output_at_2 : shows (nest ∷ []) 2 ≡ codes "x"
nested_output_at_2 = refl

nested_at_3 : ends (nest ∷ []) 3 ≡ Spent
nested_at_3 = refl

nested_output_at_3 : shows (nest ∷ []) 3 ≡ codes "xx"
nested_output_at_3 = refl

nested_at_4 : ends (nest ∷ []) 4 ≡ Spent
nested_at_4 = refl

nested_output_at_4 : shows (nest ∷ []) 4 ≡ codes "xxxx"
nested_output_at_4 = refl

nested_at_5 : ends (nest ∷ []) 5 ≡ Exit 0
nested_at_5 = refl

nested_output_at_5 : shows (nest ∷ []) 5 ≡ codes "xxxx"
nested_output_at_5 = refl

-- ---- jumps

-- a `continue` goes on with the afterthought
continued : shows (counting 3 (block (when (equal (local 0 u8) (n8 1)) again absent ∷ puts 0 (codes "x") ∷ [])) ∷ []) 4 ≡ codes "xx"
continued = refl

broken : shows (counting 3 (block (when (equal (local 0 u8) (n8 1)) leave absent ∷ puts 0 (codes "x") ∷ [])) ∷ puts 1 (codes "y")
    ∷ []) 4 ≡ codes "xy"
broken = refl

-- with a label, the outer loop
broken_by_label : shows (labelled (codes "a") (counting 2 (loop absent yes absent (block (puts 0 (codes "x")
    ∷ labelled (codes "a") leave ∷ [])))) ∷ puts 1 (codes "y") ∷ []) 3
    ≡ codes "xy"
broken_by_label = refl

continued_by_label : shows (labelled (codes "a") (counting 2 (loop absent yes absent (block (puts 0 (codes "x")
    ∷ labelled (codes "a") again ∷ [])))) ∷ puts 1 (codes "y") ∷ []) 3
    ≡ codes "xxy"
continued_by_label = refl

-- a `break` in the condition ends the loop, and one in the afterthought does
broken_in_the_condition : shows (loop absent (giving bool (leave ∷ [])) absent (puts 0 (codes "x")) ∷ puts 1 (codes "y") ∷ []) 1 ≡ codes "y"
broken_in_the_condition = refl

broken_in_the_afterthought : shows (loop absent yes leave (puts 0 (codes "x")) ∷ puts 1 (codes "y") ∷ []) 1 ≡ codes "xy"
broken_in_the_afterthought = refl

-- a `continue` in the condition goes on with the afterthought: here for the binding 1
continued_in_the_condition : shows (loop (bind (n8 0))
    (giving bool (when (equal (local 0 u8) (n8 1)) again absent ∷ hand (less (codes "<") (local 0 u8) (n8 3)) ∷ []))
    (set_by (codes "+=") (local 0 u8) (n8 1)) (puts 0 (codes "x")) ∷ []) 4 ≡ codes "xx"
continued_in_the_condition = refl

-- and one in the afterthought with the next turn: here for the binding 2
continued_in_the_afterthought : shows (loop (bind (n8 0)) (less (codes "<") (local 0 u8) (n8 3))
    (block (set_by (codes "+=") (local 0 u8) (n8 1) ∷ when (equal (local 0 u8) (n8 2)) again absent ∷ puts 0 (codes "a") ∷ []))
    (puts 1 (codes "x")) ∷ []) 4 ≡ codes "xaxxa"
continued_in_the_afterthought = refl

-- both in the operand of a loop over elements end it, before any turn
broken_in_the_operand : shows (each element (giving bytes (leave ∷ [])) (puts 0 (codes "x")) ∷ puts 1 (codes "y") ∷ []) 0 ≡ codes "y"
broken_in_the_operand = refl

continued_in_the_operand : shows (each element (giving four_bytes (again ∷ [])) (puts 0 (codes "x")) ∷ puts 1 (codes "y") ∷ []) 0
    ≡ codes "y"
continued_in_the_operand = refl

-- a yield with a label leaves a loop
yielded_out_of_a_loop : ends (exit (labelled (codes "a") (giving u8 (loop absent yes absent (labelled (codes "a") (hand (n8 7)))
    ∷ []))) ∷ []) 1 ≡ Exit 7
yielded_out_of_a_loop = refl

-- each run of the body is a scope of its own
body_is_a_scope : ends (bind (one kind.Addr byte_pointer (giving u8 (hand (n8 1) ∷ [])))
    ∷ loop (bind (n8 0)) (less (codes "<") (local 1 u8) (n8 2)) (set_by (codes "+=") (local 1 u8) (n8 1))
    (block (when (equal (local 1 u8) (n8 1)) (exit (at 7 (one kind.Deref u8 (local 0 byte_pointer)))) absent
    ∷ bind (n8 2) ∷ set (local 0 byte_pointer) (one kind.Addr byte_pointer (local 2 u8)) ∷ [])) ∷ []) 3 ≡ Undefined 1 (place 7)
body_is_a_scope = refl

-- ---- elements

-- `[1, 2, 3, 4]`
abbrev four : TypedNode
four = array four_bytes (n8 1 ∷ n8 2 ∷ n8 3 ∷ n8 4 ∷ [])

abbrev sum_of : TypedNode → TypedNode
sum_of operand = each element operand (set_by (codes "+=") (local 1 u8) (local 2 u8))

over_an_array : ends (bind four ∷ bind (n8 0) ∷ sum_of (local 0 four_bytes) ∷ exit (local 1 u8) ∷ []) 5 ≡ Exit 10
over_an_array = refl

-- four elements begin five turns
over_an_array_spent : ends (bind four ∷ bind (n8 0) ∷ sum_of (local 0 four_bytes) ∷ exit (local 1 u8) ∷ []) 4 ≡ Spent
over_an_array_spent = refl

-- A loop of two turns in the body of a loop over one element: the body has one turn less than the loop.
abbrev nested_in_elements : TypedNode
nested_in_elements =
    each element (part bytes (local 0 four_bytes) absent (num size 1))
    (loop (bind (n8 0)) (less (codes "<") (local 2 u8) (n8 1)) (set_by (codes "+=") (local 2 u8) (n8 1)) (puts 0 (codes "x")))

nested_in_elements_output_at_1 : shows (bind four ∷ nested_in_elements ∷ []) 1 ≡ codes ""
nested_in_elements_output_at_1 = refl

nested_in_elements_at_2 : ends (bind four ∷ nested_in_elements ∷ []) 2 ≡ Spent
nested_in_elements_at_2 = refl

nested_in_elements_output_at_2 : shows (bind four ∷ nested_in_elements ∷ []) 2 ≡ codes "x"
nested_in_elements_output_at_2 = refl

nested_in_elements_at_3 : ends (bind four ∷ nested_in_elements ∷ []) 3 ≡ Exit 0
nested_in_elements_at_3 = refl

over_a_slice : ends (bind four ∷ bind (n8 0) ∷ sum_of (part bytes (local 0 four_bytes) (num size 1) (num size 3)) ∷ exit (local 1 u8)
    ∷ []) 5 ≡ Exit 5
over_a_slice = refl

-- an element is a copy, and by its address it is the element itself
element_is_a_copy : ends (bind four ∷ bind (n8 0) ∷ each element (local 0 four_bytes) (set (local 2 u8) (n8 9))
    ∷ exit (index u8 (local 0 four_bytes) (num size 3)) ∷ []) 5
    ≡ Exit 4
element_is_a_copy = refl

element_by_address : ends (bind four ∷ bind (n8 0)
    ∷ each element_address (local 0 four_bytes) (set (one kind.Deref u8 (local 2 byte_pointer)) (n8 9))
    ∷ exit (index u8 (local 0 four_bytes) (num size 3)) ∷ []) 5 ≡ Exit 9
element_by_address = refl

-- a new object for each turn: the one of the turn before is dead
element_of_the_turn_before : ends (bind four ∷ bind (one kind.Addr byte_pointer (index u8 (local 0 four_bytes) (num size 0)))
    ∷ each element (local 0 four_bytes)
    (block (when (equal (local 2 u8) (n8 2)) (exit (at 7 (one kind.Deref u8 (local 1 byte_pointer)))) absent
    ∷ set (local 1 byte_pointer) (one kind.Addr byte_pointer (local 2 u8)) ∷ [])) ∷ []) 5 ≡ Undefined 1 (place 7)
element_of_the_turn_before = refl

-- and so where its address is bound: for each turn a new object that holds it
address_of_the_turn_before : ends (bind (array three_ints (num int 1 ∷ num int 2 ∷ num int 3 ∷ []))
    ∷ bind (one kind.Addr pointer (index int (local 0 three_ints) (num size 0)))
    ∷ bind (one kind.Addr pointer_to_pointer (local 1 pointer))
    ∷ each element_address (local 0 three_ints)
    (block (when (equal (one kind.Deref int (local 3 pointer)) (num int 2))
    (at 7 (one kind.Deref pointer (local 2 pointer_to_pointer))) absent
    ∷ set (local 2 pointer_to_pointer) (one kind.Addr pointer_to_pointer (local 3 pointer)) ∷ [])) ∷ []) 4 ≡ Undefined 1 (place 7)
address_of_the_turn_before = refl

-- stores into an array that is gone over are seen
stores_are_seen : ends (bind four ∷ bind (n8 0)
    ∷ each element (local 0 four_bytes) (block (set (index u8 (local 0 four_bytes) (num size 3)) (n8 9)
    ∷ set_by (codes "+=") (local 1 u8) (local 2 u8) ∷ []))
    ∷ exit (local 1 u8) ∷ []) 5 ≡ Exit 15
stores_are_seen = refl

broken_off : ends (bind four ∷ bind (n8 0)
    ∷ each element (local 0 four_bytes) (block (when (equal (local 2 u8) (n8 3)) leave absent
    ∷ set_by (codes "+=") (local 1 u8) (local 2 u8) ∷ []))
    ∷ exit (local 1 u8) ∷ []) 5 ≡ Exit 3
broken_off = refl

passed_over : ends (bind four ∷ bind (n8 0)
    ∷ each element (local 0 four_bytes) (block (when (equal (local 2 u8) (n8 3)) again absent
    ∷ set_by (codes "+=") (local 1 u8) (local 2 u8) ∷ []))
    ∷ exit (local 1 u8) ∷ []) 5 ≡ Exit 7
passed_over = refl
