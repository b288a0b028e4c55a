-- Rows of ticks that depend on the run: of compared values, of bytes that are read, copied and moved, and of elements that are gone over.
use Rattle.std.proofs.Common.{◌≡◌, ℕ, List, [], ◌∷◌, ◌++◌, replicate, refl}
use Rattle.hare_tree.specs.declared.kind.Kind.TheVariants as kind
use Rattle.hare_types.specs.declared.row.Row.TheVariants as row
use Rattle.hare_types.specs.Store.{Store}
use Rattle.hare_typed.specs.declared.cell.Cell.TheVariants.{Byte as byte}
use Rattle.hare_typed.specs.Typed.{TypedNode}
use Rattle.hare_typed.specs.Words.{three}
use Rattle.hare_typed.specs.Scalars.{Address}
use Rattle.hare_meaning.specs.Run.{run}
use Rattle.hare_meaning.proofs.Samples.{types, void, u8, size, bytes, new_bytes}
use Rattle.hare_meaning.proofs.Trees.{absent, node, main, rt, text, result, result_of, program, block, giving, loop, each, element, again, yes, exit, bind, local, n8, num, part, index, known, alloc_for, append_all, delete, sure}

abbrev ticks : List TypedNode → ℕ
ticks ts = (result (main ts ∷ []) 0).1.ticks

-- ---- switch

abbrev values : TypedNode → TypedNode
values v = node kind.Values [] 0 void (v ∷ absent ∷ [])

abbrev case : TypedNode → TypedNode → TypedNode
case vs s = node kind.SwitchCase [] 0 void (vs ∷ s ∷ [])

-- `switch (x) { case 1 => exit(1); case 2 => exit(2); case => exit(3); }`
abbrev by_number : TypedNode → TypedNode
by_number x =
    node kind.Switch [] 0 void
    (x ∷ case (values (known (byte 1 ∷ []) (n8 1))) (exit (n8 1)) ∷ case (values (known (byte 2 ∷ []) (n8 2))) (exit (n8 2))
    ∷ case absent (exit (n8 3)) ∷ [])

-- the block, the switch and its operand, the case, 2 for the call and 1 for its argument; and 4 for each value up to the one that is equal
switch_at_the_first : ticks (by_number (n8 1) ∷ []) ≡ 11
switch_at_the_first = refl

switch_at_the_second : ticks (by_number (n8 2) ∷ []) ≡ 15
switch_at_the_second = refl

switch_at_the_others : ticks (by_number (n8 9) ∷ []) ≡ 15
switch_at_the_others = refl

-- a text of the case, which is the second string of the function
abbrev by_text : TypedNode → TypedNode
by_text x =
    node kind.Switch [] 0 void
    (x ∷ case (values (known (three (record { data_at = Address 4294967297 0; length = 128; capacity = 128 })) (text 1 (replicate 128 97))))
    (exit (n8 1)) ∷ case absent (exit (n8 3)) ∷ [])

-- and 2 for 128 bytes, where the lengths are equal
switch_at_a_text : ticks (by_text (text 0 (replicate 128 97)) ∷ []) ≡ 13
switch_at_a_text = refl

switch_at_another_length : ticks (by_text (text 0 (replicate 127 97)) ∷ []) ≡ 11
switch_at_another_length = refl

-- ---- the heap

-- 128 bytes on the heap, with room for so many
abbrev bound : ℕ → TypedNode
bound n = bind (sure bytes (alloc_for new_bytes (rt 3 bytes (text 0 (replicate 128 97) ∷ [])) n))

abbrev s : TypedNode
s = local 0 bytes

-- 1 block, 2 binding, 3 `!` of two members, 4 `alloc`, 2 call, 1 text, 1 number; and 2 for 128 bytes
ticks_of_alloc : ticks (bound 128 ∷ []) ≡ 16
ticks_of_alloc = refl

-- whatever room there is
ticks_of_more_room : ticks (bound 512 ∷ []) ≡ 16
ticks_of_more_room = refl

-- beside that 2 binding, 4 `append` and 1 for its `...`, 2 paths; and 2 for 128 bytes within the room, 4 for 256 where it grows
ticks_within_the_room : ticks (bound 256 ∷ bind (append_all s s) ∷ []) ≡ 27
ticks_within_the_room = refl

ticks_of_a_growth : ticks (bound 128 ∷ bind (append_all s s) ∷ []) ≡ 29
ticks_of_a_growth = refl

-- beside that 4 `delete`, 1 path, 1 index; and for the later bytes 1 for each 64
ticks_of_a_deletion : ticks (bound 128 ∷ delete (index u8 s (num size 0)) ∷ []) ≡ 23
ticks_of_a_deletion = refl

ticks_at_the_end : ticks (bound 128 ∷ delete (index u8 s (num size 127)) ∷ []) ≡ 22
ticks_at_the_end = refl

ticks_of_a_range : ticks (bound 128 ∷ delete (part bytes s absent (num size 64)) ∷ []) ≡ 23
ticks_of_a_range = refl

-- ---- input

abbrev reads : List TypedNode
reads = main (bound 128 ∷ bind (rt 2 size (s ∷ [])) ∷ []) ∷ []

-- beside that 2 binding, 2 call, 1 path; and 1 for each 64 bytes that are given
ticks_of_a_read : (result_of reads [] (replicate 200 98) 0).1.ticks ≡ 23
ticks_of_a_read = refl

ticks_of_less_input : (result_of reads [] (replicate 64 98) 0).1.ticks ≡ 22
ticks_of_less_input = refl

-- ---- elements

-- the types with `[128]u8` and `[2][128]u8` behind them
abbrev wide : ℕ
wide = 35

abbrev two_wide : ℕ
two_wide = 36

abbrev with_wide : Store
with_wide = record types { rows = types.rows ++ row.Array 128 u8 ∷ row.Array 2 wide ∷ [] }

-- `for (let x: [2][128]u8 = { continue; }; true) for (let e .. x) {}`
abbrev over_wide : TypedNode
over_wide = loop (bind (giving two_wide (again ∷ []))) yes absent (each element (local 0 two_wide) (block []))

-- 1 block; 2 loop, 2 binding, 5 block of 256 bytes, 1 `continue`, 1 test; 6 loop over elements, 1 operand; and 4 for its turn, 2 for an
-- element of 128 bytes
ticks_of_a_wide_element : (run (record (program (main (over_wide ∷ []) ∷ [])) { types = with_wide }) [] [] 1).1.ticks ≡ 25
ticks_of_a_wide_element = refl
