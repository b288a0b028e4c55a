-- Rows of the heap: `alloc`, `free`, `append` and `delete`.
use Rattle.std.proofs.Common.{◌≡◌, ℕ, ◌+◌, ◌^◌, ◌-◌, [], ◌∷◌, codes, refl}
use Rattle.std.specs.Fmt.{digits}
use Rattle.hare_tree.specs.declared.kind.Kind.TheVariants as kind
use Rattle.hare_types.specs.declared.coercion.Ty.TheVariants as kept
use Rattle.hare_typed.specs.Typed.{TypedNode}
use Rattle.hare_typed.specs.State.{Exit, Abort, Undefined, Over}
use Rattle.hare_meaning.proofs.Samples.{void, u8, int, size, nomem, pointer, bytes, four_bytes, new_int, new_bytes}
use Rattle.hare_meaning.proofs.Trees.{place, at, to, of_type, absent, node, one, main, rt, ends, shows, result, program, begun, exit, tell, bind, local, set, either, n8, num, plus, times, array, part, index, type_node, alloc, alloc_for, append, append_all, delete, free, sure}

abbrev four : TypedNode
four = array four_bytes (n8 1 ∷ n8 2 ∷ n8 3 ∷ n8 4 ∷ [])

-- four bytes on the heap, with room for so many
abbrev heap_bytes : ℕ → TypedNode
heap_bytes n = sure bytes (alloc_for new_bytes four n)

abbrev s : TypedNode
s = local 0 bytes

abbrev at_index : TypedNode → ℕ → TypedNode
at_index e i = index u8 e (num size i)

abbrev length_of : TypedNode → TypedNode
length_of e = node kind.Cast [] 0 u8 (one kind.Len size e ∷ type_node u8 ∷ [])

abbrev both : TypedNode → TypedNode → TypedNode
both a b = plus (times a (n8 16)) b

-- the bytes of a slice are put out
abbrev show : TypedNode → TypedNode
show e = rt 1 void (e ∷ [])

-- ---- one value

allocated : ends (bind (sure pointer (alloc new_int (num int 5))) ∷ tell (one kind.Deref int (local 0 pointer)) ∷ []) 0 ≡ Exit 5
allocated = refl

-- it outlives its scope, and takes 16 bytes
takes_sixteen_bytes : (result (main (bind (sure pointer (alloc new_int (num int 5))) ∷ []) ∷ []) 0).1.memory.live ≡ 16
takes_sixteen_bytes = refl

freed : (result (main (bind (sure pointer (alloc new_int (num int 5))) ∷ free (local 0 pointer) ∷ []) ∷ []) 0).1.memory.live ≡ 0
freed = refl

ever_taken : (result (main (bind (sure pointer (alloc new_int (num int 5))) ∷ free (local 0 pointer) ∷ []) ∷ []) 0).1.memory.taken ≡ 16
ever_taken = refl

read_behind_a_free : ends (bind (sure pointer (alloc new_int (num int 5))) ∷ free (local 0 pointer)
    ∷ tell (at 7 (one kind.Deref int (local 0 pointer))) ∷ []) 0
    ≡ Undefined 1 (place 7)
read_behind_a_free = refl

-- ---- elements

with_room : shows (bind (heap_bytes 8) ∷ show s ∷ []) 0 ≡ 1 ∷ 2 ∷ 3 ∷ 4 ∷ []
with_room = refl

room_for_fewer : ends (bind (sure bytes (at 5 (alloc_for new_bytes four 3))) ∷ []) 0 ≡ Abort (codes "m.ha:1:5: abort 5")
unfolding digits
room_for_fewer = refl

-- of a slice the elements are copied
copied : shows (bind four ∷ bind (sure bytes (alloc_for new_bytes (part bytes (local 0 four_bytes) (num size 1) absent) 3))
    ∷ set (at_index (local 1 bytes) 0) (n8 9) ∷ show (local 1 bytes) ∷ show (part bytes (local 0 four_bytes) absent absent) ∷ []) 0
    ≡ 9 ∷ 3 ∷ 4 ∷ 1 ∷ 2 ∷ 3 ∷ 4 ∷ []
copied = refl

-- ---- append

-- with room nothing is allocated
in_place : ends (bind (heap_bytes 8) ∷ sure void (append s (n8 9)) ∷ exit (both (length_of s) (at_index s 4)) ∷ []) 0 ≡ Exit 89
in_place = refl

in_place_takes_nothing : (result (main (bind (heap_bytes 8) ∷ sure void (append s (n8 9)) ∷ []) ∷ []) 0).1.memory.taken ≡ 16
in_place_takes_nothing = refl

-- without room the elements move to a new object, and the old one is freed
grown : shows (bind (heap_bytes 4) ∷ sure void (append s (n8 9)) ∷ show s ∷ []) 0 ≡ 1 ∷ 2 ∷ 3 ∷ 4 ∷ 9 ∷ []
grown = refl

grown_takes : (result (main (bind (heap_bytes 4) ∷ sure void (append s (n8 9)) ∷ []) ∷ []) 0).1.memory.taken ≡ 32
grown_takes = refl

grown_lives : (result (main (bind (heap_bytes 4) ∷ sure void (append s (n8 9)) ∷ []) ∷ []) 0).1.memory.live ≡ 16
grown_lives = refl

old_elements_are_dead : ends (bind (heap_bytes 4) ∷ bind s ∷ sure void (append s (n8 9)) ∷ exit (at 7 (at_index (local 1 bytes) 0))
    ∷ []) 0 ≡ Undefined 1 (place 7)
old_elements_are_dead = refl

-- twice the room
grown_room : shows (bind (heap_bytes 4) ∷ sure void (append s (n8 5)) ∷ sure void (append s (n8 6)) ∷ sure void (append s (n8 7))
    ∷ sure void (append s (n8 8)) ∷ show s ∷ []) 0
    ≡ 1 ∷ 2 ∷ 3 ∷ 4 ∷ 5 ∷ 6 ∷ 7 ∷ 8 ∷ []
grown_room = refl

grown_once : (result (main (bind (heap_bytes 4) ∷ sure void (append s (n8 5)) ∷ sure void (append s (n8 6))
    ∷ sure void (append s (n8 7)) ∷ sure void (append s (n8 8)) ∷ []) ∷ []) 0).1.memory.taken ≡ 32
grown_once = refl

-- a slice is appended to itself as it was before
itself_with_growth : shows (bind (heap_bytes 4) ∷ sure void (append_all s s) ∷ show s ∷ []) 0 ≡ 1 ∷ 2 ∷ 3 ∷ 4 ∷ 1 ∷ 2 ∷ 3 ∷ 4 ∷ []
itself_with_growth = refl

itself_in_place : shows (bind (heap_bytes 8) ∷ sure void (append_all s s) ∷ show s ∷ []) 0 ≡ 1 ∷ 2 ∷ 3 ∷ 4 ∷ 1 ∷ 2 ∷ 3 ∷ 4 ∷ []
itself_in_place = refl

-- an empty slice of an empty array has no room, and nothing to be freed
abbrev empty_slice : TypedNode
empty_slice = to 7 bytes (of_type kind.Array [] 0 kept.Empty (absent ∷ absent ∷ []))

appended_to_nothing : shows (bind empty_slice ∷ sure void (append s (n8 9)) ∷ show s ∷ []) 0 ≡ 9 ∷ []
appended_to_nothing = refl

-- no elements within the room: nothing is looked at, not even where the slice is over an array
nothing_appended : ends (bind four ∷ bind (part bytes (local 0 four_bytes) absent absent)
    ∷ sure void (append_all (local 1 bytes) (part bytes (local 1 bytes) (num size 4) absent)) ∷ exit (n8 1) ∷ []) 0
    ≡ Exit 1
nothing_appended = refl

-- ---- delete

deleted_first : shows (bind (heap_bytes 4) ∷ delete (at_index s 0) ∷ show s ∷ []) 0 ≡ 2 ∷ 3 ∷ 4 ∷ []
deleted_first = refl

deleted_last : shows (bind (heap_bytes 4) ∷ delete (at_index s 3) ∷ show s ∷ []) 0 ≡ 1 ∷ 2 ∷ 3 ∷ []
deleted_last = refl

deleted_within : shows (bind (heap_bytes 4) ∷ delete (part bytes s (num size 1) (num size 3)) ∷ show s ∷ []) 0 ≡ 1 ∷ 4 ∷ []
deleted_within = refl

deleted_all : ends (bind (heap_bytes 4) ∷ delete (part bytes s absent absent) ∷ exit (length_of s) ∷ []) 0 ≡ Exit 0
deleted_all = refl

deleted_none : shows (bind (heap_bytes 4) ∷ delete (part bytes s (num size 2) (num size 2)) ∷ show s ∷ []) 0 ≡ 1 ∷ 2 ∷ 3 ∷ 4 ∷ []
deleted_none = refl

-- the room stays
room_stays : (result (main (bind (heap_bytes 4) ∷ delete (at_index s 0) ∷ sure void (append s (n8 9)) ∷ []) ∷ []) 0).1.memory.taken ≡ 16
room_stays = refl

-- an element that is not there: the abort stands at the `delete`
deleted_past_the_length : ends (bind (heap_bytes 4) ∷ at 5 (delete (at 6 (at_index s 4))) ∷ []) 0 ≡ Abort (codes "m.ha:1:5: abort 0")
unfolding digits
deleted_past_the_length = refl

-- ---- refusals

-- 1 where memory was refused, 2 where it was given
abbrev is_refused : TypedNode → TypedNode
is_refused e = exit (either u8 (node kind.Is [] 0 2 (e ∷ type_node nomem ∷ [])) (n8 1) (n8 2))

refused_one : (begun (program (main (is_refused (alloc new_int (num int 5)) ∷ []) ∷ [])) 67108849 0 0).0 ≡ Exit 1
refused_one = refl

just_not_refused : (begun (program (main (is_refused (alloc new_int (num int 5)) ∷ []) ∷ [])) 67108848 0 0).0 ≡ Exit 2
just_not_refused = refl

refused_two : (begun (program (main (is_refused (alloc_for new_bytes four 17) ∷ []) ∷ [])) 67108848 0 0).0 ≡ Exit 1
refused_two = refl

just_not_refused_two : (begun (program (main (is_refused (alloc_for new_bytes four 16) ∷ []) ∷ [])) 67108848 0 0).0 ≡ Exit 2
just_not_refused_two = refl

-- in a growth the old object still counts
refused_growth : (begun (program (main (bind (heap_bytes 4) ∷ is_refused (append s (n8 9)) ∷ []) ∷ [])) 67108848 0 0).0 ≡ Exit 1
refused_growth = refl

just_not_refused_growth : (begun (program (main (bind (heap_bytes 4) ∷ is_refused (append s (n8 9)) ∷ []) ∷ [])) 67108832 0 0).0 ≡ Exit 2
just_not_refused_growth = refl

-- a refusal changes nothing
refused_growth_changes_nothing : (begun (program (main (bind (heap_bytes 4) ∷ bind (append s (n8 9)) ∷ show s ∷ [])
    ∷ [])) 67108848 0 0).1.output ≡ 1 ∷ 2 ∷ 3 ∷ 4 ∷ []
refused_growth_changes_nothing = refl

-- more elements than any slice may have room for
refused_room : ends (is_refused (alloc_for new_bytes four (2 ^ 63 + 1)) ∷ []) 0 ≡ Exit 1
refused_room = refl

forced_refusal : (begun (program (main (bind (at 5 (sure pointer (alloc new_int (num int 5)))) ∷ []) ∷ [])) 67108864 0 0).0
    ≡ Abort (codes "m.ha:1:5: abort 7")
unfolding digits
forced_refusal = refl

-- a run is over where all that was ever taken would pass 2^62
over : (begun (program (main (bind (sure pointer (alloc new_int (num int 5))) ∷ []) ∷ [])) 0 (2 ^ 62 - 15) 0).0 ≡ Over
over = refl

just_not_over : (begun (program (main (bind (sure pointer (alloc new_int (num int 5))) ∷ exit (n8 3) ∷ []) ∷ [])) 0 (2 ^ 62 - 16) 0).0
    ≡ Exit 3
just_not_over = refl

-- which is looked at behind the refusal
refused_before_over : (begun (program (main (is_refused (alloc new_int (num int 5)) ∷ []) ∷ [])) 67108864 (2 ^ 62) 0).0 ≡ Exit 1
refused_before_over = refl
