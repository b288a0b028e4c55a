-- Loads, stores, moves, frames and globals, on small programs.
use Rattle.std.proofs.Common.{◌≡◌, ℕ, ◌+◌, ◌^◌, [], ◌∷◌, Some, None, refl}
use Rattle.std.specs.Prelude.{codes}
use Rattle.hx_base.specs.declared.Class.TheVariants.{W, L}
use Rattle.flat_code.specs.declared.op.Op.TheVariants.{Copy, Udiv}
use Rattle.flat_code.specs.declared.op.LoadKind.TheVariants as how
use Rattle.flat_code.specs.declared.program.Item.TheVariants as item
use Rattle.flat_code.specs.declared.program.FlatProgram.{FlatProgram}
use Rattle.flat_code.specs.declared.value.Value.TheVariants.{Temp, Number, Symbol, Frame}
use Rattle.flat_code.specs.Code.{Code, Set, Load, Store, Move, Call, Ret}
use Rattle.flat_code.specs.Addresses.{addresses}
use Rattle.flat_code.specs.State.{Exit, Abort, Fault, Wild, Overlap, BadFree}
use Rattle.flat_code.proofs.RowPrograms.{plain, of_one, global, program, main_of, does, ends}

-- ---- frames

-- a byte of 255 at place 5 is loaded as -1, whose highest byte is 255, or as 255, whose highest byte is 0
abbrev loading : Code → FlatProgram
loading load = main_of (Store 1 (Number 511) (Frame 5) ∷ load ∷ Set 1 L Udiv (Temp 0) (Number (2 ^ 56)) ∷ Ret (Some (Temp 1)) ∷ [])

loaded_signed : ends (loading (Load 0 how.Sb (Frame 5))) 0 (Exit 255)
loaded_signed = refl

loaded_unsigned : ends (loading (Load 0 how.Ub (Frame 5))) 0 (Exit 0)
loaded_unsigned = refl

-- the byte behind was not written and holds the fill byte
loaded_fill : ends (main_of (Store 1 (Number 511) (Frame 5) ∷ Load 0 how.Ub (Frame 6) ∷ Ret (Some (Temp 0)) ∷ [])) 0 (Exit 1)
loaded_fill = refl

-- the last byte of the frame is mapped, and none behind it
last_byte : ends (main_of (Load 0 how.Ub (Frame 31) ∷ Ret (Some (Temp 0)) ∷ [])) 0 (Exit 1)
last_byte = refl

behind_frame : ends (main_of (Load 0 how.Uh (Frame 31) ∷ Ret (Some (Temp 0)) ∷ [])) 0 (Fault Wild)
behind_frame = refl

-- a call's frame begins behind that of its caller, at a multiple of 16. It is unmapped as the call returns.
abbrev returning : ℕ → Code → FlatProgram
returning frame then = program (
    plain (codes "main") 2 frame (Call (Some 0) (codes "h.f") (Number 77 ∷ []) ∷ then ∷ Ret (Some (Temp 1)) ∷ [])
    ∷ of_one (codes "h.f") L 1 8 (Store 8 (Temp 0) (Frame 0) ∷ Ret (Some (Number 4)) ∷ []) ∷ []) []

result_kept : ends (returning 20 (Set 1 L Copy (Temp 0) (Number 0))) 1 (Exit 4)
result_kept = refl

frame_unmapped : ends (returning 20 (Load 1 how.Ub (Frame 32))) 1 (Fault Wild)
frame_unmapped = refl

-- an argument is read at the place of the frame that an earlier call wrote, which a later call sees again
seen_again : ends (program (
    plain (codes "main") 2 0 (Call (Some 0) (codes "h.f") [] ∷ Call (Some 0) (codes "h.g") [] ∷ Ret (Some (Temp 0)) ∷ [])
    ∷ plain (codes "h.f") 0 8 (Store 1 (Number 77) (Frame 3) ∷ Ret None ∷ [])
    ∷ plain (codes "h.g") 1 8 (Load 0 how.Ub (Frame 3) ∷ Ret (Some (Temp 0)) ∷ []) ∷ []) []) 1 (Exit 77)
seen_again = refl

-- ---- moves

-- one step, and one more for each 64 bytes
abbrev big_move : ℕ → ℕ → FlatProgram
big_move to n = program (plain (codes "main") 0 512 (Move (Frame to) (Frame 0) n ∷ []) ∷ []) []

moved_apart : does (big_move 256 130) 0 (Exit 0) [] 4
moved_apart = (refl, refl, refl)

-- ranges that touch, equal ranges and no bytes do not overlap in part
moved_beside : ends (big_move 16 16) 0 (Exit 0)
moved_beside = refl

moved_onto_itself : ends (big_move 0 16) 0 (Exit 0)
moved_onto_itself = refl

moved_nothing : ends (big_move 8 0) 0 (Exit 0)
moved_nothing = refl

moved_across : ends (big_move 8 16) 0 (Fault Overlap)
moved_across = refl

-- a byte that is not mapped is looked at first
moved_beyond : ends (big_move 8 505) 0 (Fault Wild)
moved_beyond = refl

-- ---- globals

-- "xyz", then at a multiple of 8 the address of its last byte, then a global of no bytes, which takes one, then a number of two bytes and a
-- zero
abbrev pointing : Code → FlatProgram
pointing code = program (plain (codes "main") 2 0 (Load 0 how.L (Symbol 1 0) ∷ code ∷ Ret (Some (Temp 1)) ∷ []) ∷ []) (
    global (codes "a") 1 (item.Bytes (codes "xyz") ∷ [])
    ∷ global (codes "b") 8 (item.Symbol (codes "a") 2 ∷ [])
    ∷ global (codes "c") 1 []
    ∷ global (codes "d") 2 (item.Number 2 (65536 + 259) ∷ item.Zero 1 ∷ []) ∷ [])

where_globals_stand : addresses (pointing (Ret None)) ≡
    (codes "a", 2 ^ 33) ∷ (codes "b", 2 ^ 33 + 8) ∷ (codes "c", 2 ^ 33 + 16) ∷ (codes "d", 2 ^ 33 + 18) ∷ []
where_globals_stand = refl

pointed_at : ends (pointing (Load 1 how.Ub (Temp 0))) 0 (Exit 122)
pointed_at = refl

with_offset : ends (pointing (Load 1 how.Ub (Symbol 3 1))) 0 (Exit 1)
with_offset = refl

a_zero : ends (pointing (Load 1 how.Ub (Symbol 3 2))) 0 (Exit 0)
a_zero = refl

-- a byte between globals is not mapped, and that of a global without items holds the fill byte
between : ends (pointing (Load 1 how.Ub (Symbol 0 3))) 0 (Fault Wild)
between = refl

of_no_items : ends (pointing (Load 1 how.Ub (Symbol 2 0))) 0 (Exit 1)
of_no_items = refl

-- ---- the runtime

-- three bytes are read to the frame, of which the input has two, and the frame is written out: a step more for each argument
read_and_written : does (main_of (Call (Some 0) (codes "rt.read") (Frame 0 ∷ Number 3 ∷ []) ∷ Call None (codes "rt.write")
    (Frame 0 ∷ Temp 0 ∷ []) ∷ Ret (Some (Temp 0)) ∷ [])) 0 (Exit 2) (codes "in") 8
read_and_written = (refl, refl, refl)

-- a block is used, freed, and freed again
abbrev freeing : Code → FlatProgram
freeing code = main_of (
    Call (Some 0) (codes "rt.malloc") (Number 8 ∷ [])
    ∷ Store 8 (Number 513) (Temp 0)
    ∷ Load 1 how.Ub (Temp 0)
    ∷ Call None (codes "rt.free") (Temp 0 ∷ [])
    ∷ code ∷ Ret (Some (Temp 1)) ∷ [])

freed : ends (freeing (Set 2 W Copy (Number 0) (Number 0))) 0 (Exit 1)
freed = refl

freed_twice : ends (freeing (Call None (codes "rt.free") (Temp 0 ∷ []))) 0 (Fault BadFree)
freed_twice = refl

used_after_free : ends (freeing (Load 1 how.Ub (Temp 0))) 0 (Fault Wild)
used_after_free = refl

aborted : ends (program (plain (codes "main") 0 0 (Call None (codes "rt.abort") (Symbol 0 1 ∷ Number 2 ∷ []) ∷ []) ∷ [])
    (global (codes "t") 1 (item.Bytes (codes "no!") ∷ []) ∷ [])) 0 (Abort (codes "o!"))
aborted = refl
