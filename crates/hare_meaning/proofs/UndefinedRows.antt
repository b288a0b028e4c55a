-- Rows of undefined acts, each with its place.
use Rattle.std.proofs.Common.{◌≡◌, [], ◌∷◌, codes, refl}
use Rattle.hare_tree.specs.declared.kind.Kind.TheVariants as kind
use Rattle.hare_types.specs.declared.coercion.Ty.TheVariants as kept
use Rattle.hare_typed.specs.State.{Undefined, Exit}
use Rattle.hare_meaning.proofs.Samples.{void, bool, pair_pointer_pointer, u8, int, size, pointer, nullable, byte_pointer, pointer_to_pointer, slice_pointer, pair_pointer, bytes, four_bytes, int_or_bool, new_int, new_bytes}
use Rattle.hare_meaning.proofs.Trees.{place, at, to, global, outcome, of_type, absent, node, main, rt, text, block, giving, ends, result_of, exit, tell, bind, local, hand, set, set_by, loop, each, element, again, n8, num, equal, array, part, index, field, type_node, alloc, alloc_for, append, append_all, delete, free, sure}
use Rattle.hare_meaning.proofs.Faulty.{four, cast, address, deref, dangling, freed_slice, text_bytes, words_over_four, slice_of_four, as_text, a_union, overwritten, fragments}

-- ---- U1: outside what lives

read_of_a_dead_object : ends (exit (at 7 (deref u8 (dangling 0))) ∷ []) 0 ≡ Undefined 1 (place 7)
read_of_a_dead_object = refl

store_to_a_dead_object : ends (at 7 (set (at 8 (deref u8 (dangling 0))) (n8 1)) ∷ []) 0 ≡ Undefined 1 (place 7)
store_to_a_dead_object = refl

operated_on_a_dead_object : ends (at 7 (set_by (codes "+=") (at 8 (deref u8 (dangling 0))) (n8 1)) ∷ []) 0 ≡ Undefined 1 (place 7)
operated_on_a_dead_object = refl

-- a place that the value freed
freed_by_the_value : ends (bind (sure pointer (alloc new_int (num int 5)))
    ∷ at 7 (set_by (codes "+=") (deref int (local 0 pointer)) (giving int (free (local 0 pointer) ∷ hand (num int 1) ∷ []))) ∷ []) 0
    ≡ Undefined 1 (place 7)
freed_by_the_value = refl

read_past_the_end : ends (bind (n8 2) ∷ tell (at 7 (deref int (cast pointer (address byte_pointer (local 0 u8))))) ∷ []) 0
    ≡ Undefined 1 (place 7)
read_past_the_end = refl

element_of_a_freed_slice : ends (exit (at 7 (index u8 (freed_slice 0) (num size 0))) ∷ []) 0 ≡ Undefined 1 (place 7)
element_of_a_freed_slice = refl

field_of_a_dead_object : ends (exit (at 7 (field u8 (codes "a") (cast pair_pointer (dangling 0)))) ∷ []) 0 ≡ Undefined 1 (place 7)
field_of_a_dead_object = refl

-- moving a pointer past what is pointed to, before anything is read
field_past_the_end : ends (bind (n8 2) ∷ tell (at 7 (field int (codes "b") (cast pair_pointer (address byte_pointer (local 0 u8)))))
    ∷ []) 0 ≡ Undefined 1 (place 7)
field_past_the_end = refl

elements_of_a_freed_slice : ends (at 7 (each element (freed_slice 1) (block [])) ∷ []) 1 ≡ Undefined 1 (place 7)
elements_of_a_freed_slice = refl

bytes_of_a_freed_slice : ends (at 7 (rt 1 void ((freed_slice 0) ∷ [])) ∷ []) 0 ≡ Undefined 1 (place 7)
bytes_of_a_freed_slice = refl

read_into_a_freed_slice : ends (bind (at 7 (rt 2 size (freed_slice 1 ∷ []))) ∷ []) 0 ≡ Undefined 1 (place 7)
read_into_a_freed_slice = refl

-- no byte is accessed where there is none
nothing_of_a_freed_slice : ends (rt 1 void (part bytes (freed_slice 0) absent (num size 0) ∷ []) ∷ exit (n8 1) ∷ []) 0 ≡ Exit 1
nothing_of_a_freed_slice = refl

alloc_of_a_freed_slice : ends (bind (at 7 (alloc_for new_bytes (freed_slice 1) 4)) ∷ []) 0 ≡ Undefined 1 (place 7)
alloc_of_a_freed_slice = refl

appended_from_a_freed_slice : ends (bind (sure bytes (alloc_for new_bytes four 8))
    ∷ bind (at 7 (append_all (local 0 bytes) (freed_slice 2))) ∷ []) 0 ≡ Undefined 1 (place 7)
appended_from_a_freed_slice = refl

deleted_from_a_freed_slice : ends (bind (freed_slice 1) ∷ at 7 (delete (index u8 (local 0 bytes) (num size 0))) ∷ []) 0
    ≡ Undefined 1 (place 7)
deleted_from_a_freed_slice = refl

-- what is followed, behind the first pointer
through_a_dead_pointer : ends (bind (cast pair_pointer_pointer (dangling 1))
    ∷ exit (at 7 (field u8 (codes "a") (local 0 pair_pointer_pointer))) ∷ []) 0 ≡ Undefined 1 (place 7)
through_a_dead_pointer = refl

equality_of_a_freed_text : ends (bind (freed_slice 1) ∷ bind (at 7 (equal (text 0 (codes "abcd")) (as_text 0))) ∷ []) 0
    ≡ Undefined 1 (place 7)
equality_of_a_freed_text = refl

-- of another length nothing is looked at
freed_text_of_another_length : ends (bind (freed_slice 1) ∷ bind (at 7 (equal (text 0 (codes "abc")) (as_text 0))) ∷ exit (n8 1) ∷ []) 0
    ≡ Exit 1
freed_text_of_another_length = refl

-- ---- U2: stores to constants

store_to_a_text : ends (at 7 (set (index u8 text_bytes (num size 0)) (n8 1)) ∷ []) 0 ≡ Undefined 2 (place 7)
store_to_a_text = refl

operated_on_a_text : ends (at 7 (set_by (codes "+=") (index u8 text_bytes (num size 0)) (n8 1)) ∷ []) 0 ≡ Undefined 2 (place 7)
operated_on_a_text = refl

-- before any input is taken
read_into_a_text : (result_of (main (bind (at 7 (rt 2 size (text_bytes ∷ []))) ∷ []) ∷ []) [] (codes "xy") 0).0 ≡ Undefined 2 (place 7)
read_into_a_text = refl

input_of_that : (result_of (main (bind (at 7 (rt 2 size (text_bytes ∷ []))) ∷ []) ∷ []) [] (codes "xy") 0).1.input ≡ codes "xy"
input_of_that = refl

deleted_from_a_text : ends (bind text_bytes ∷ at 7 (delete (index u8 (local 0 bytes) (num size 0))) ∷ []) 0 ≡ Undefined 2 (place 7)
deleted_from_a_text = refl

-- elements that are appended within the room: here behind two bytes of a text of four
appended_to_a_text : ends (bind (part bytes text_bytes absent (num size 2)) ∷ bind (at 7 (append (local 0 bytes) (n8 9))) ∷ []) 0
    ≡ Undefined 2 (place 7)
appended_to_a_text = refl

-- the words, behind the elements: those of a constant global
appended_to_a_constant : outcome
    (main (bind (at 7 (append_all (deref bytes (address slice_pointer (global 1 bytes))) (part bytes four absent (num size 1)))) ∷ [])
    ∷ node kind.GlobalConst [] 0 void (absent ∷ absent ∷ absent ∷ words_over_four 2 4 ∷ [])
    ∷ node kind.GlobalConst [] 0 void (absent ∷ absent ∷ absent ∷ slice_of_four ∷ []) ∷ []) 0 ≡ Undefined 2 (place 7)
appended_to_a_constant = refl

-- ---- U3: cells that spell nothing

-- two as a bool
no_bool : ends (bind (n8 2) ∷ bind (at 7 (deref bool (cast byte_pointer (address byte_pointer (local 0 u8))))) ∷ []) 0
    ≡ Undefined 3 (place 7)
no_bool = refl

-- the binding of a loop whose head went on without a value
no_value : ends (loop (bind (giving u8 (again ∷ []))) (equal (at 7 (local 0 u8)) (n8 0)) absent (block []) ∷ []) 1 ≡ Undefined 3 (place 7)
no_value = refl

-- bytes as a pointer
no_pointer : ends (bind (array four_bytes (n8 1 ∷ n8 2 ∷ n8 3 ∷ n8 4 ∷ [])) ∷ bind (num size 5)
    ∷ bind (at 7 (deref pointer (cast pointer_to_pointer (address byte_pointer (local 1 size))))) ∷ []) 0 ≡ Undefined 3 (place 7)
no_pointer = refl

-- a pointer's fragments as bytes
no_bytes : ends (bind (n8 1) ∷ bind (address byte_pointer (local 0 u8))
    ∷ exit (at 7 (deref u8 (cast byte_pointer (address byte_pointer (local 1 byte_pointer))))) ∷ []) 0
    ≡ Undefined 3 (place 7)
no_bytes = refl

-- the words of a slice that was never given a value
no_words : ends (loop (bind (giving bytes (again
    ∷ []))) (equal (index u8 (at 8 (local 0 bytes)) (num size 0)) (n8 0)) absent (block []) ∷ []) 1
    ≡ Undefined 3 (place 1)
no_words = refl

-- the tag of a union without one: it stands at the node that takes it apart
no_tag : ends (loop (bind (giving int_or_bool (again ∷ []))) (at 7 (node kind.Is [] 0 bool (at 8 (local 0 int_or_bool) ∷ type_node int
    ∷ []))) absent (block []) ∷ []) 1
    ≡ Undefined 3 (place 7)
no_tag = refl

-- fragments of a pointer as the bytes of a text
equality_of_no_bytes : ends (bind (n8 1) ∷ bind (address byte_pointer (local 0 u8))
    ∷ bind (fragments 1) ∷ bind (at 7 (equal (text 0 (codes "abcd")) (as_text 2))) ∷ []) 0
    ≡ Undefined 3 (place 7)
equality_of_no_bytes = refl

-- ---- U4: accesses at another alignment

misaligned : ends (bind four ∷ tell (at 7 (deref int (cast pointer (address byte_pointer (local 0 four_bytes))))) ∷ []) 0
    ≡ Undefined 4 (place 7)
misaligned = refl

misaligned_store : ends (bind four ∷ at 7 (set (deref int (cast pointer (address byte_pointer (local 0 four_bytes)))) (num int 1))
    ∷ []) 0 ≡ Undefined 4 (place 7)
misaligned_store = refl

-- ---- U5: what was not allocated

free_of_a_local : ends (bind (num int 5) ∷ at 7 (free (address pointer (local 0 int))) ∷ []) 0 ≡ Undefined 5 (place 7)
free_of_a_local = refl

freed_twice : ends (bind (sure pointer (alloc new_int (num int 5))) ∷ free (local 0 pointer) ∷ at 7 (free (local 0 pointer)) ∷ []) 0
    ≡ Undefined 5 (place 7)
freed_twice = refl

free_within : ends (bind (sure bytes (alloc_for new_bytes four 4)) ∷ at 7 (free (part bytes (local 0 bytes) (num size 1) absent))
    ∷ []) 0 ≡ Undefined 5 (place 7)
free_within = refl

free_of_null : ends (free (to 6 nullable (of_type kind.Null [] 0 kept.Null [])) ∷ exit (n8 1) ∷ []) 0 ≡ Exit 1
free_of_null = refl

-- ---- U6: pointers that may not be compared

dead_pointers : ends (bind (dangling 1) ∷ bind (at 7 (equal (local 0 byte_pointer) (local 0 byte_pointer))) ∷ []) 0
    ≡ Undefined 6 (place 7)
dead_pointers = refl

-- one is at the end of its object, and the other in another
end_of_an_object : ends (bind (n8 1) ∷ bind four ∷ bind (part bytes (local 1 four_bytes) (num size 4) absent)
    ∷ bind (address slice_pointer (local 2 bytes))
    ∷ bind (at 7 (equal (deref byte_pointer (cast pointer_to_pointer (local 3 slice_pointer))) (address byte_pointer (local 0 u8))))
    ∷ []) 0 ≡ Undefined 6 (place 7)
end_of_an_object = refl

other_objects : ends (bind (n8 1) ∷ bind (n8 2)
    ∷ node kind.If [] 0 void (equal (address byte_pointer (local 0 u8)) (address byte_pointer (local 1 u8)) ∷ exit (n8 1) ∷ exit (n8 2)
    ∷ []) ∷ []) 0
    ≡ Exit 2
other_objects = refl

-- ---- U7: growth of what was not allocated

growth_over_an_array : ends (bind four ∷ bind (part bytes (local 0 four_bytes) absent absent)
    ∷ bind (at 7 (append (local 1 bytes) (n8 5))) ∷ []) 0 ≡ Undefined 7 (place 7)
growth_over_an_array = refl

growth_of_what_was_freed : ends (bind (freed_slice 1) ∷ bind (at 7 (append (local 0 bytes) (n8 5))) ∷ []) 0 ≡ Undefined 7 (place 7)
growth_of_what_was_freed = refl

-- ---- U8: tags of no member

match_of_no_member : ends (bind a_union ∷ overwritten 0 ∷ at 7 (node kind.Match [] 0 void (local 0 int_or_bool
    ∷ node kind.Case [] 0 void (absent ∷ []) ∷ [])) ∷ []) 0 ≡ Undefined 8 (place 7)
match_of_no_member = refl

as_of_no_member : ends (bind a_union ∷ overwritten 0 ∷ tell (at 7 (node kind.As [] 0 int (local 0 int_or_bool ∷ type_node int ∷ [])))
    ∷ []) 0 ≡ Undefined 8 (place 7)
as_of_no_member = refl

is_of_no_member : ends (bind a_union ∷ overwritten 0 ∷ bind (at 7 (node kind.Is [] 0 bool (local 0 int_or_bool ∷ type_node int ∷ [])))
    ∷ []) 0 ≡ Undefined 8 (place 7)
is_of_no_member = refl
