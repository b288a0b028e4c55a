-- Rows of what comes first where two apply to a node: undefined acts, aborts, refusals, and the ends of turns and of the heap.
use Rattle.std.proofs.Common.{◌≡◌, ℕ, ◌^◌, ◌-◌, [], ◌∷◌, codes, replicate, refl}
use Rattle.std.specs.Fmt.{digits}
use Rattle.hare_tree.specs.declared.kind.Kind.TheVariants as kind
use Rattle.hare_typed.specs.Typed.{TypedNode}
use Rattle.hare_typed.specs.Scalars.{Address}
use Rattle.hare_typed.specs.State.{Undefined, Exit, Abort, Over, Spent, Result}
use Rattle.hare_typed.specs.Words.{three}
use Rattle.hare_meaning.proofs.Samples.{void, bool, u8, int, size, pointer, byte_pointer, pair_pointer_pointer, slice, slice_pointer, three_ints, bytes, four_bytes, int_or_bool, int_bool_or_failure, bad, bool_or_bad, new_ints, new_bytes}
use Rattle.hare_meaning.proofs.Trees.{place, at, to, known, global, outcome, absent, node, one, main, function, call, rt, text, block, giving, ends, result_of, begun, program, exit, tell, bind, local, hand, set, set_by, yes, loop, each, element, again, equal, n8, num, array, part, index, field, type_node, alloc_for, append, append_all, delete, free, sure}
use Rattle.hare_meaning.proofs.Faulty.{four, cast, address, deref, dangling, freed_slice, text_bytes, words_over_four, slice_of_four, as_text, of_length, broken, fragments, dead_fragments, a_union, overwritten, spoiled}

-- a slice of bytes, that is a local, as one of so many ints
abbrev as_ints : ℕ → TypedNode
as_ints x = deref slice (cast slice_pointer (address slice_pointer (local x bytes)))

-- a loop of one turn, over a binding without a value
abbrev unbound : ℕ → TypedNode → TypedNode
unbound t s = loop (bind (giving t (again ∷ []))) yes absent (block (s ∷ []))

-- a constant global, behind the entry
abbrev constant : TypedNode → TypedNode
constant v = node kind.GlobalConst [] 0 void (absent ∷ absent ∷ absent ∷ v ∷ [])

-- an entry, where so many bytes of the heap live, or were ever taken, already
abbrev with_heap : (live taken : ℕ) → TypedNode → Result
with_heap l n m = begun (program (m ∷ [])) l n 0

-- ---- one access: U1, U4, U2, U3

outside_before_misaligned : ends (bind four
    ∷ tell (at 7 (deref int (cast pointer (address byte_pointer (index u8 (local 0 four_bytes) (num size 1)))))) ∷ []) 0
    ≡ Undefined 1 (place 7)
outside_before_misaligned = refl

outside_before_no_value : ends (bind (at 7 (deref bool (cast byte_pointer (dangling 1)))) ∷ []) 0 ≡ Undefined 1 (place 7)
outside_before_no_value = refl

misaligned_before_no_value : ends (loop (bind (giving four_bytes (again
    ∷ []))) (equal (at 7 (deref int (cast pointer (address byte_pointer (local 0 four_bytes))))) (num int 0)) absent (block []) ∷ []) 1
    ≡ Undefined 4 (place 7)
misaligned_before_no_value = refl

-- ---- fields: of a pointer that is followed

followed_outside_before_misaligned : ends (bind four
    ∷ exit (at 7 (field u8 (codes "a") (cast pair_pointer_pointer (address byte_pointer (local 0 four_bytes))))) ∷ []) 0
    ≡ Undefined 1 (place 7)
followed_outside_before_misaligned = refl

followed_misaligned_before_no_pointer : ends (bind (array three_ints (num int 1 ∷ num int 2 ∷ num int 3 ∷ []))
    ∷ exit (at 7 (field u8 (codes "a") (cast pair_pointer_pointer (address pointer (local 0 three_ints))))) ∷ []) 0
    ≡ Undefined 4 (place 7)
followed_misaligned_before_no_pointer = refl

-- ---- assignments: U1, U4, U2

stored_outside_before_misaligned : ends (bind four
    ∷ at 7 (set (deref int (cast pointer (address byte_pointer (index u8 (local 0 four_bytes) (num size 1))))) (num int 1)) ∷ []) 0
    ≡ Undefined 1 (place 7)
stored_outside_before_misaligned = refl

stored_outside_before_constant : ends (at 7 (set (deref four_bytes (address byte_pointer (index u8 text_bytes (num size 1)))) four) ∷ []) 0
    ≡ Undefined 1 (place 7)
stored_outside_before_constant = refl

misaligned_before_constant : ends
    (at 7 (set (deref int (cast pointer (address byte_pointer (index u8 text_bytes (num size 0))))) (num int 1)) ∷ []) 0
    ≡ Undefined 4 (place 7)
misaligned_before_constant = refl

-- ---- with an operator: U1, U4, U3, abort 8, U2

operated_misaligned_before_no_value : ends (unbound four_bytes
    (at 7 (set_by (codes "+=") (deref int (cast pointer (address byte_pointer (local 0 four_bytes)))) (num int 1))) ∷ []) 1
    ≡ Undefined 4 (place 7)
operated_misaligned_before_no_value = refl

no_value_before_division : ends (unbound u8 (at 7 (set_by (codes "/=") (local 0 u8) (n8 0))) ∷ []) 1 ≡ Undefined 3 (place 7)
no_value_before_division = refl

division_before_constant : ends (at 7 (set_by (codes "/=") (index u8 text_bytes (num size 0)) (n8 0)) ∷ []) 0
    ≡ Abort (codes "m.ha:1:7: abort 8")
unfolding digits
division_before_constant = refl

no_value_before_constant : outcome
    (main (at 7 (set_by (codes "+=") (deref u8 (cast byte_pointer (address slice_pointer (global 1 bytes)))) (n8 1)) ∷ [])
    ∷ constant (words_over_four 2 4) ∷ []) 0 ≡ Undefined 3 (place 7)
no_value_before_constant = refl

-- ---- elements: U3 of the words, abort 0, U1 of the move, U1, U4, U3

words_before_the_index : ends (bind (freed_slice 1) ∷ broken 0 ∷ exit (at 7 (index u8 (local 0 bytes) (num size 9))) ∷ []) 0
    ≡ Undefined 3 (place 7)
words_before_the_index = refl

index_before_dead : ends (exit (at 7 (index u8 (part bytes (freed_slice 0) absent (num size 0)) (num size 0))) ∷ []) 0
    ≡ Abort (codes "m.ha:1:7: abort 0")
unfolding digits
index_before_dead = refl

index_before_the_move : ends (bind four
    ∷ exit (at 7 (index u8 (part bytes (local 0 four_bytes) absent (num size 2)) (num size 9))) ∷ []) 0 ≡ Abort (codes "m.ha:1:7: abort 0")
unfolding digits
index_before_the_move = refl

-- the move alone, where nothing is read
moved_outside : ends (bind four ∷ bind (part bytes (local 0 four_bytes) absent absent) ∷ of_length 1 9
    ∷ bind (address byte_pointer (at 7 (index u8 (local 1 bytes) (num size 7)))) ∷ []) 0 ≡ Undefined 1 (place 7)
moved_outside = refl

element_outside_before_misaligned : ends (bind four ∷ bind (part bytes (local 0 four_bytes) absent absent)
    ∷ tell (at 7 (index int (as_ints 1) (num size 1))) ∷ []) 0 ≡ Undefined 1 (place 7)
element_outside_before_misaligned = refl

-- ---- slices: U3 of the words, abort 0, U1 of the move

words_before_the_bounds : ends (bind (freed_slice 1) ∷ broken 0 ∷ bind (at 7 (part bytes (local 0 bytes) (num size 9) absent)) ∷ []) 0
    ≡ Undefined 3 (place 7)
words_before_the_bounds = refl

bounds_before_the_move : ends (bind four ∷ bind (at 7 (part bytes (local 0 four_bytes) (num size 9) absent)) ∷ []) 0
    ≡ Abort (codes "m.ha:1:7: abort 0")
unfolding digits
bounds_before_the_move = refl

-- ---- texts that are compared: U3 of the words, U1, U3 of the bytes

words_before_dead_texts : ends (bind (freed_slice 1) ∷ bind (freed_slice 3) ∷ broken 2 ∷ bind (at 7 (equal (as_text 0) (as_text 2))) ∷ []) 0
    ≡ Undefined 3 (place 7)
words_before_dead_texts = refl

dead_before_no_bytes : ends (bind (n8 1) ∷ bind (address byte_pointer (local 0 u8)) ∷ bind (fragments 1) ∷ bind (freed_slice 4)
    ∷ bind (at 7 (equal (as_text 2) (as_text 3))) ∷ []) 0 ≡ Undefined 1 (place 7)
dead_before_no_bytes = refl

-- `switch (x) { case "abcd" => void; case => void; }`, where the text is the first string of the entry
abbrev switched : TypedNode → TypedNode
switched x =
    node kind.Switch [] 0 void
    (x ∷ node kind.SwitchCase [] 0 void
    (node kind.Values [] 0 void
    (known (three (record { data_at = Address 4294967296 0; length = 4; capacity = 4 })) (text 0 (codes "abcd")) ∷ absent ∷ [])
    ∷ [])
    ∷ node kind.SwitchCase [] 0 void (absent ∷ []) ∷ [])

words_before_the_values : ends (bind (freed_slice 1) ∷ broken 0 ∷ at 7 (switched (as_text 0)) ∷ []) 0 ≡ Undefined 3 (place 7)
words_before_the_values = refl

switched_dead_before_no_bytes : ends (bind (dead_fragments 1) ∷ at 7 (switched (as_text 0)) ∷ []) 0 ≡ Undefined 1 (place 7)
switched_dead_before_no_bytes = refl

switched_no_bytes : ends (bind (n8 1) ∷ bind (address byte_pointer (local 0 u8)) ∷ bind (fragments 1) ∷ at 7 (switched (as_text 2)) ∷ []) 0
    ≡ Undefined 3 (place 7)
switched_no_bytes = refl

-- ---- `puts` and `write`: U3 of the words, U1, U3 of the bytes

words_before_writing : ends (bind (freed_slice 1) ∷ broken 0 ∷ at 7 (rt 1 void (local 0 bytes ∷ [])) ∷ []) 0 ≡ Undefined 3 (place 7)
words_before_writing = refl

written_dead_before_no_bytes : ends (bind (dead_fragments 1) ∷ at 7 (rt 1 void (local 0 bytes ∷ [])) ∷ []) 0 ≡ Undefined 1 (place 7)
written_dead_before_no_bytes = refl

written_no_bytes : ends (bind (n8 1) ∷ bind (address byte_pointer (local 0 u8)) ∷ at 7 (rt 1 void (fragments 1 ∷ [])) ∷ []) 0
    ≡ Undefined 3 (place 7)
written_no_bytes = refl

-- ---- `read`: U3 of the words, U1, U2, and then the input

words_before_reading : ends (bind (freed_slice 1) ∷ broken 0 ∷ bind (at 7 (rt 2 size (local 0 bytes ∷ []))) ∷ []) 0 ≡ Undefined 3 (place 7)
words_before_reading = refl

read_outside_before_constant : ends (bind text_bytes ∷ of_length 0 9 ∷ bind (at 7 (rt 2 size (local 0 bytes ∷ []))) ∷ []) 0
    ≡ Undefined 1 (place 7)
read_outside_before_constant = refl

-- a buffer of nine bytes over four, and two bytes of input, which would fit
abbrev read_into_more : Result
read_into_more =
    result_of
    (main (bind four ∷ bind (part bytes (local 0 four_bytes) absent absent) ∷ of_length 1 9
    ∷ bind (at 7 (rt 2 size (local 1 bytes ∷ []))) ∷ []) ∷ []) [] (codes "xy") 0

all_of_the_buffer : read_into_more.0 ≡ Undefined 1 (place 7)
all_of_the_buffer = refl

buffer_before_the_input : read_into_more.1.input ≡ codes "xy"
buffer_before_the_input = refl

-- ---- members of unions: the tag, aborts 1 and 7, U3 of the payload

-- `5: !int` as a member of `(bool | !int)`, whose payload spells no int then
abbrev spoiled_error : TypedNode
spoiled_error = to 9 bool_or_bad (cast bad (num int 5))

as_before_the_payload : ends (bind a_union ∷ bind (n8 1) ∷ bind (address byte_pointer (local 1 u8)) ∷ spoiled 0 2
    ∷ bind (at 7 (node kind.As [] 0 bool (local 0 int_or_bool ∷ type_node bool ∷ []))) ∷ []) 0 ≡ Abort (codes "m.ha:1:7: abort 1")
unfolding digits
as_before_the_payload = refl

as_without_a_payload : ends (bind a_union ∷ bind (n8 1) ∷ bind (address byte_pointer (local 1 u8)) ∷ spoiled 0 2
    ∷ tell (at 7 (node kind.As [] 0 int (local 0 int_or_bool ∷ type_node int ∷ []))) ∷ []) 0 ≡ Undefined 3 (place 7)
as_without_a_payload = refl

tag_before_the_payload : ends (bind a_union ∷ bind (n8 1) ∷ bind (address byte_pointer (local 1 u8)) ∷ spoiled 0 2 ∷ overwritten 0
    ∷ tell (at 7 (node kind.As [] 0 int (local 0 int_or_bool ∷ type_node int ∷ []))) ∷ []) 0 ≡ Undefined 8 (place 7)
tag_before_the_payload = refl

failure_before_the_payload : ends (bind spoiled_error ∷ bind (n8 1) ∷ bind (address byte_pointer (local 1 u8)) ∷ spoiled 0 2
    ∷ bind (at 7 (sure bool (local 0 bool_or_bad))) ∷ []) 0 ≡ Abort (codes "m.ha:1:7: abort 7")
unfolding digits
failure_before_the_payload = refl

-- an error that is returned is read before
payload_before_the_return : outcome
    (main (bind (call 1 bool_or_bad []) ∷ exit (n8 1) ∷ [])
    ∷ function [] bool_or_bad (giving bool_or_bad (bind spoiled_error ∷ bind (n8 1) ∷ bind (address byte_pointer (local 1 u8))
    ∷ spoiled 0 2 ∷ bind (at 7 (one kind.Try bool (local 0 bool_or_bad))) ∷ [])) ∷ []) 1 ≡ Undefined 3 (place 7)
payload_before_the_return = refl

bound_payload : ends (bind a_union ∷ bind (n8 1) ∷ bind (address byte_pointer (local 1 u8)) ∷ spoiled 0 2
    ∷ at 7 (node kind.Match [] 0 void (local 0 int_or_bool
    ∷ node kind.Case [] 0 void (node kind.PatternLet [] 0 void (type_node int ∷ []) ∷ exit (n8 1) ∷ [])
    ∷ node kind.Case [] 0 void (absent ∷ []) ∷ [])) ∷ []) 0 ≡ Undefined 3 (place 7)
bound_payload = refl

-- a node that becomes another union does its own act first: a dead object, whose tag is that of no member
own_act_before_the_coercion : ends (bind (at 7 (to 9 int_bool_or_failure (deref int_or_bool
    (giving byte_pointer (bind a_union ∷ overwritten 1 ∷ hand (address byte_pointer (local 1 int_or_bool)) ∷ []))))) ∷ []) 0
    ≡ Undefined 1 (place 7)
own_act_before_the_coercion = refl

payload_of_the_coercion : ends (bind a_union ∷ bind (n8 1) ∷ bind (address byte_pointer (local 1 u8)) ∷ spoiled 0 2
    ∷ bind (at 7 (to 9 int_bool_or_failure (local 0 int_or_bool))) ∷ []) 0 ≡ Undefined 3 (place 7)
payload_of_the_coercion = refl

-- ---- loops over elements: U3 of the words, and in each turn Spent, U1 of the move, U1, U4, U3

words_before_the_turn : ends (bind (freed_slice 1) ∷ broken 0 ∷ at 7 (each element (local 0 bytes) (block [])) ∷ []) 0
    ≡ Undefined 3 (place 7)
words_before_the_turn = refl

turn_before_the_element : ends (at 7 (each element (freed_slice 1) (block [])) ∷ []) 0 ≡ Spent
turn_before_the_element = refl

gone_over_outside_before_misaligned : ends (bind four ∷ bind (part bytes (local 0 four_bytes) (num size 1) absent)
    ∷ at 7 (each element (as_ints 1) (block [])) ∷ []) 1 ≡ Undefined 1 (place 7)
gone_over_outside_before_misaligned = refl

-- ---- `free`: U3 of the words, U5

words_before_the_allocation : ends (bind four ∷ bind (part bytes (local 0 four_bytes) absent absent) ∷ broken 1
    ∷ at 7 (free (local 1 bytes)) ∷ []) 0 ≡ Undefined 3 (place 7)
words_before_the_allocation = refl

-- ---- `alloc`: U3 of the words, abort 5, the refusal, U1 and U4 of the elements, Over

words_before_room : ends (unbound bytes (bind (at 7 (alloc_for new_bytes (local 0 bytes) 0))) ∷ []) 1 ≡ Undefined 3 (place 7)
words_before_room = refl

room_before_elements : ends (bind (at 7 (alloc_for new_bytes (freed_slice 1) 3)) ∷ []) 0 ≡ Abort (codes "m.ha:1:7: abort 5")
unfolding digits
room_before_elements = refl

room_before_the_refusal : (with_heap 67108864 0 (main (bind (at 7 (alloc_for new_bytes four 3)) ∷ []))).0
    ≡ Abort (codes "m.ha:1:7: abort 5")
unfolding digits
room_before_the_refusal = refl

refusal_before_elements : (with_heap 67108848 0 (main (bind (alloc_for new_bytes (freed_slice 1) 17) ∷ exit (n8 1) ∷ []))).0 ≡ Exit 1
refusal_before_elements = refl

elements_before_over : (with_heap 0 (2 ^ 62 - 16) (main (bind (at 7 (alloc_for new_bytes (freed_slice 1) 4)) ∷ []))).0
    ≡ Undefined 1 (place 7)
elements_before_over = refl

-- ---- `append` within the room: U1, U4, U3 of the words; U3 of the other words; U1, U4 of the elements; U1, U4, U2 where they go; U2

-- 24 bytes of a text as the words of a slice
abbrev letters_as_words : TypedNode
letters_as_words =
    deref bytes (cast slice_pointer (address byte_pointer (index u8 (rt 3 bytes (text 0 (replicate 24 97) ∷ [])) (num size 0))))

own_words_before_others : ends (bind (freed_slice 1) ∷ broken 0
    ∷ bind (at 7 (append_all (deref bytes (cast slice_pointer (dangling 3))) (local 0 bytes))) ∷ []) 0 ≡ Undefined 1 (place 7)
own_words_before_others = refl

misaligned_words_before_no_words : ends (bind (at 7 (append letters_as_words (n8 9))) ∷ []) 0 ≡ Undefined 4 (place 7)
misaligned_words_before_no_words = refl

other_words_before_constant : ends (bind (part bytes text_bytes absent (num size 2)) ∷ bind (freed_slice 2) ∷ broken 1
    ∷ bind (at 7 (append_all (local 0 bytes) (local 1 bytes))) ∷ []) 0 ≡ Undefined 3 (place 7)
other_words_before_constant = refl

elements_before_where_they_go : ends (bind (part bytes text_bytes absent (num size 2))
    ∷ bind (at 7 (append_all (local 0 bytes) (part bytes (freed_slice 2) absent (num size 1)))) ∷ []) 0 ≡ Undefined 1 (place 7)
elements_before_where_they_go = refl

elements_before_words : outcome (main (bind (at 7 (append (global 1 bytes) (n8 9))) ∷ []) ∷ constant (words_over_four 4 9) ∷ constant
    slice_of_four ∷ []) 0
    ≡ Undefined 1 (place 7)
elements_before_words = refl

-- ---- `append` that grows: the same of words; U7; the refusal; U1, U4 of the new elements, and of the old ones; Over; U2 of the words

other_words_before_growth : ends (bind four ∷ bind (part bytes (local 0 four_bytes) absent absent) ∷ bind (freed_slice 3) ∷ broken 2
    ∷ bind (at 7 (append_all (local 1 bytes) (local 2 bytes))) ∷ []) 0 ≡ Undefined 3 (place 7)
other_words_before_growth = refl

-- as many bytes live as may
growth_before_the_refusal : (with_heap 67108864 0 (main (bind four ∷ bind (part bytes (local 0 four_bytes) absent absent)
    ∷ bind (at 7 (append (local 1 bytes) (n8 5))) ∷ []))).0 ≡ Undefined 7 (place 7)
growth_before_the_refusal = refl

growth_before_reading : ends (bind four ∷ bind (part bytes (local 0 four_bytes) absent absent)
    ∷ bind (at 7 (append_all (local 1 bytes) (freed_slice 3))) ∷ []) 0 ≡ Undefined 7 (place 7)
growth_before_reading = refl

-- four bytes on the heap
abbrev heap_bytes : TypedNode
heap_bytes = bind (sure bytes (alloc_for new_bytes four 4))

-- room for 34 bytes is refused, before any of 30 bytes is read of a freed slice
refusal_before_reading : (with_heap 67108832 0 (main (heap_bytes ∷ bind (freed_slice 2) ∷ of_length 1 30
    ∷ bind (append_all (local 0 bytes) (local 1 bytes)) ∷ exit (n8 1) ∷ []))).0 ≡ Exit 1
refusal_before_reading = refl

-- an int over bytes, and then nine ints of three
new_elements_before_old : ends (bind (sure slice (alloc_for new_ints (array three_ints (num int 1 ∷ num int 2 ∷ num int 3 ∷ [])) 3))
    ∷ of_length 0 9 ∷ bind four ∷ bind (part bytes (local 1 four_bytes) absent (num size 1))
    ∷ bind (at 7 (append_all (local 0 slice) (as_ints 2))) ∷ []) 0 ≡ Undefined 4 (place 7)
new_elements_before_old = refl

old_elements_outside : ends (bind (sure slice (alloc_for new_ints (array three_ints (num int 1 ∷ num int 2 ∷ num int 3 ∷ [])) 3))
    ∷ of_length 0 9 ∷ bind (at 7 (append (local 0 slice) (num int 4))) ∷ []) 0 ≡ Undefined 1 (place 7)
old_elements_outside = refl

reading_before_over : (with_heap 0 (2 ^ 62 - 32) (main (heap_bytes ∷ bind (at 7 (append_all (local 0 bytes) (freed_slice 2))) ∷ []))).0
    ≡ Undefined 1 (place 7)
reading_before_over = refl

-- a constant slice of no bytes, without room
abbrev appended_to_an_empty_constant : (taken : ℕ) → Result
appended_to_an_empty_constant n =
    begun
    (program (main (bind (at 7 (append (global 1 bytes) (n8 9))) ∷ []) ∷ constant (words_over_four 0 0) ∷ constant slice_of_four ∷ [])) 0 n
    0

over_before_words : (appended_to_an_empty_constant (2 ^ 62)).0 ≡ Over
over_before_words = refl

words_behind_all : (appended_to_an_empty_constant 0).0 ≡ Undefined 2 (place 7)
words_behind_all = refl

-- ---- `delete`: U1, U4, U3 of the words; abort 0; U1 of the move; U1, U4 of the later elements; U2

deleted_misaligned_before_no_words : ends (at 7 (delete (index u8 letters_as_words (num size 9))) ∷ []) 0 ≡ Undefined 4 (place 7)
deleted_misaligned_before_no_words = refl

words_before_the_deletion : ends (bind (freed_slice 1) ∷ broken 0 ∷ at 7 (delete (index u8 (local 0 bytes) (num size 9))) ∷ []) 0
    ≡ Undefined 3 (place 7)
words_before_the_deletion = refl

deleted_index_before_dead : ends (bind (freed_slice 1) ∷ at 7 (delete (index u8 (local 0 bytes) (num size 9))) ∷ []) 0
    ≡ Abort (codes "m.ha:1:7: abort 0")
unfolding digits
deleted_index_before_dead = refl

deleted_bounds_before_the_move : ends (bind four ∷ bind (part bytes (local 0 four_bytes) absent absent)
    ∷ at 7 (delete (part bytes (local 1 bytes) (num size 9) absent)) ∷ []) 0 ≡ Abort (codes "m.ha:1:7: abort 0")
unfolding digits
deleted_bounds_before_the_move = refl

-- eight bytes of a text, of which so many count as ints
abbrev text_as_ints : ℕ → TypedNode
text_as_ints n = bind (part bytes (rt 3 bytes (text 0 (codes "abcdefgh") ∷ [])) absent (num size n))

later_outside_before_misaligned : ends (text_as_ints 3 ∷ at 7 (delete (index int (as_ints 0) (num size 0))) ∷ []) 0 ≡ Undefined 1 (place 7)
later_outside_before_misaligned = refl

later_misaligned_before_constant : ends (text_as_ints 2 ∷ at 7 (delete (index int (as_ints 0) (num size 0))) ∷ []) 0 ≡ Undefined 4 (place 7)
later_misaligned_before_constant = refl
