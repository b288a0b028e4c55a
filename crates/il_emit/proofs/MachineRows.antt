-- Frames, memory and calls, by what a run of flat code and a run of its module come to on small programs.
use Rattle.std.proofs.Common.{◌≡◌, ℕ, ◌+◌, ◌-◌, ◌*◌, ◌^◌, [], ◌∷◌, Option, Some, None, Bool, true, false, refl}
use Rattle.std.specs.Fmt.{digits}
use Rattle.std.specs.Prelude.{codes}
use Rattle.hx_base.specs.declared.Class.TheVariants.{W, L}
use Rattle.hx_base.specs.Memory.{is_mapped}
use Rattle.flat_code.specs.declared.op.LoadKind.TheVariants as how
use Rattle.flat_code.specs.declared.op.Op.TheVariants.{Copy, Add, Sub}
use Rattle.flat_code.specs.declared.program.FlatProgram.{FlatProgram}
use Rattle.flat_code.specs.declared.program.Item.TheVariants as item
use Rattle.flat_code.specs.declared.value.Value.TheVariants.{Temp, Number, Symbol, Frame}
use Rattle.flat_code.specs.Code.{Code, Set, Load, Store, Move, If, Loop, Call, Ret}
use Rattle.flat_code.specs.Run.{run}
use Rattle.flat_code.specs.State.{Flow, Exit, Spent}
use Rattle.flat_code.proofs.RowPrograms.{seq, plain, of_one, global, program, main_of}
use Rattle.il_code.specs.declared.types.MachineFault.TheVariants as fault
use Rattle.il_code.specs.Machine as machine
use Rattle.il_code.specs.MachineLaws.{jumps_and_calls}
use Rattle.il_code.specs.Run.{Run, machine}
use Rattle.il_emit.specs.Emitted.{module_of}

-- a run of flat code without arguments, where the fill byte is 1, by its end and its flat steps
abbrev flat_run : FlatProgram → ℕ → Flow → ℕ → Type 0
flat_run p n end steps = ((run p [] [] 1 n).0 ≡ end) × ((run p [] [] 1 n).1.steps ≡ steps)

abbrev machine_run : FlatProgram → ℕ → Run
machine_run p budget = machine (module_of p) [] [] 1 budget

-- a run of the machine, by its end, the units used, and its jumps and calls
abbrev comes_to : Run → Option machine.End → (used jumps : ℕ) → Type 0
comes_to r ended used jumps = (r.ended ≡ ended) × (r.used ≡ used) × (jumps_and_calls r ≡ jumps)

-- ---- frames

-- a function adds 1 to a byte of its frame, which holds the fill byte at the first call and what the first left at the second
abbrev twice : FlatProgram
twice = program (
    plain (codes "main") 1 0 (Call (Some 0) (codes "h.f") [] ∷ Call (Some 0) (codes "h.f") [] ∷ Ret (Some (Temp 0)) ∷ [])
    ∷ plain (codes "h.f") 1 8 (
    Load 0 how.Ub (Frame 3) ∷ Set 0 L Add (Temp 0) (Number 1) ∷ Store 1 (Temp 0) (Frame 3) ∷ Ret (Some (Temp 0)) ∷ []) ∷ []) []

twice_flat : flat_run twice 1 (Exit 3) 14
twice_flat = (refl, refl)

-- for each call 1, 1 for the frame, 5 and 1 for the return; and the last return
twice_too : comes_to (machine_run twice 1000) (Some (machine.Exit 3)) 17 2
unfolding digits
twice_too = (refl, refl, refl)

-- calls itself three times, each with 24 bytes, and then turns without an end
abbrev deep : FlatProgram
deep = program (
    plain (codes "main") 0 0 (Call None (codes "h.f") (Number 2 ∷ []) ∷ [])
    ∷ of_one (codes "h.f") L 2 24 (
    If (Temp 0) (seq (Set 1 L Sub (Temp 0) (Number 1) ∷ Call None (codes "h.f") (Temp 1 ∷ []) ∷ [])) (Loop (seq [])) ∷ []) ∷ []) []

-- whether an address above the start of the stack is mapped
abbrev mapped_at : ℕ → Bool
mapped_at a = is_mapped (machine_run deep 40).state.world.memory (2 ^ 40 + a)

three_frames : (mapped_at 0 ≡ true) × (mapped_at 23 ≡ true) × (mapped_at 24 ≡ false) × (mapped_at 31 ≡ false) ×
    (mapped_at 32 ≡ true) × (mapped_at 55 ≡ true) × (mapped_at 56 ≡ false) × (mapped_at 64 ≡ true) × (mapped_at 87 ≡ true) ×
    (mapped_at 88 ≡ false)
unfolding digits
three_frames = (refl, refl, refl, refl, refl, refl, refl, refl, refl, refl)

-- a place of the frame is stored, and what stands there is loaded through it
abbrev through : FlatProgram
through = main_of (
    Store 8 (Frame 16) (Frame 0) ∷ Store 2 (Number 770) (Frame 16) ∷ Load 0 how.L (Frame 0) ∷ Load 1 how.Ub (Temp 0) ∷
    Ret (Some (Temp 1)) ∷ [])

through_flat : flat_run through 0 (Exit 2) 6
through_flat = (refl, refl)

-- 1 for the frame, 3 and 2 for the stores, 2 and 1 for the loads, and the return
through_too : comes_to (machine_run through 1000) (Some (machine.Exit 2)) 10 0
unfolding digits
through_too = (refl, refl, refl)

-- ---- loads and stores

-- the low `width` bytes of a long whose bytes are 136 down to 129, the lowest first, loaded by a kind and shifted down by division
abbrev stored : ℕ → Code → FlatProgram
stored width load = main_of (Store width (Number 9332165983064197000) (Frame 8) ∷ load ∷ Ret (Some (Temp 0)) ∷ [])

low_byte : (machine_run (stored 1 (Load 0 how.Ub (Frame 8))) 1000).ended ≡ Some (machine.Exit 136)
unfolding digits
low_byte = refl

-- one byte is stored, and the next holds the fill byte
next_byte : (machine_run (stored 1 (Load 0 how.Ub (Frame 9))) 1000).ended ≡ Some (machine.Exit 1)
unfolding digits
next_byte = refl

second_byte : (machine_run (stored 2 (Load 0 how.Ub (Frame 9))) 1000).ended ≡ Some (machine.Exit 135)
unfolding digits
second_byte = refl

fourth_byte : (machine_run (stored 4 (Load 0 how.Sb (Frame 11))) 1000).ended ≡ Some (machine.Exit 133)
unfolding digits
fourth_byte = refl

last_byte : (machine_run (stored 8 (Load 0 how.Ub (Frame 15))) 1000).ended ≡ Some (machine.Exit 129)
unfolding digits
last_byte = refl

past_the_frame : (machine_run (stored 8 (Load 0 how.L (Frame 25))) 1000).ended ≡ Some (machine.Fault fault.Wild)
unfolding digits
past_the_frame = refl

-- ---- moves

abbrev moving : ℕ → ℕ → FlatProgram
moving to n = program (plain (codes "main") 0 256 (Move (Frame to) (Frame 0) n ∷ []) ∷ []) []

-- a blit costs one unit, and one more for each 64 bytes, beside two addresses, the frame and the return
moved_63 : comes_to (machine_run (moving 128 63) 1000) (Some (machine.Exit 0)) 5 0
unfolding digits
moved_63 = (refl, refl, refl)

moved_64 : comes_to (machine_run (moving 128 64) 1000) (Some (machine.Exit 0)) 6 0
unfolding digits
moved_64 = (refl, refl, refl)

moved_onto_itself : comes_to (machine_run (moving 0 65) 1000) (Some (machine.Exit 0)) 6 0
unfolding digits
moved_onto_itself = (refl, refl, refl)

moved_across : (machine_run (moving 1 2) 1000).ended ≡ Some (machine.Fault fault.Overlap)
unfolding digits
moved_across = refl

-- a byte that is not mapped is looked at first
moved_beyond : (machine_run (moving 200 210) 1000).ended ≡ Some (machine.Fault fault.Wild)
unfolding digits
moved_beyond = refl

-- ---- calls

-- `main` calls itself once, by a byte of a global, and returns to itself
abbrev main_again : FlatProgram
main_again = program (plain (codes "main") 3 0 (
    Load 0 how.Ub (Symbol 0 1)
    ∷ If (Temp 0) (Ret (Some (Number 5))) (seq [])
    ∷ Store 1 (Number 1) (Symbol 0 1)
    ∷ Call (Some 1) (codes "main") []
    ∷ Set 2 W Add (Temp 1) (Number 1)
    ∷ Ret (Some (Temp 2)) ∷ []) ∷ []) (global (codes "g") 1 (item.Zero 2 ∷ []) ∷ [])

main_again_flat : flat_run main_again 1 (Exit 6) 12
main_again_flat = (refl, refl)

main_again_too : (machine_run main_again 1000).ended ≡ Some (machine.Exit 6)
unfolding digits
main_again_too = refl

-- a call begins where no turn is left: the machine stands in front of it, and with a turn it goes on
no_turn_left : flat_run main_again 0 Spent 6
no_turn_left = (refl, refl)

-- a word is given a long, of which the low half is read, and the result is dropped
abbrev narrowed : FlatProgram
narrowed = program (
    plain (codes "main") 1 0 (
    Set 0 L Copy (Number (2 ^ 32 + 8)) (Number 0) ∷ Call None (codes "h.exit") (Temp 0 ∷ []) ∷ [])
    ∷ of_one (codes "h.exit") W 1 0 (Call None (codes "rt.exit") (Temp 0 ∷ []) ∷ Ret (Some (Number 1)) ∷ []) ∷ []) []

narrowed_too : (machine_run narrowed 1000).ended ≡ Some (machine.Exit 8)
unfolding digits
narrowed_too = refl

-- ---- the stack

-- `main` with one temporary and such a frame: 64, 8 for the temporary and for the address of the frame, and the frame
abbrev large : ℕ → FlatProgram
large frame = program (plain (codes "main") 1 frame (Set 0 W Copy (Number 4) (Number 0) ∷ Ret (Some (Temp 0)) ∷ []) ∷ []) []

just_fits : (machine_run (large (2 ^ 30 - 80)) 1000).ended ≡ Some (machine.Exit 4)
unfolding digits
just_fits = refl

one_byte_more : (machine_run (large (2 ^ 30 - 79)) 1000).ended ≡ Some machine.StackFull
unfolding digits
one_byte_more = refl

-- `main`, with such a frame, calls a function which calls itself twice. A call of it costs 64, and 8 for each of its two temporaries.
abbrev filling : ℕ → FlatProgram
filling frame = program (
    plain (codes "main") 1 frame (
    Set 0 L Copy (Number 2) (Number 0) ∷ Call None (codes "h.f") (Temp 0 ∷ []) ∷ Ret (Some (Number 4)) ∷ [])
    ∷ of_one (codes "h.f") L 2 0 (
    If (Temp 0) (seq (Set 1 L Sub (Temp 0) (Number 1) ∷ Call None (codes "h.f") (Temp 1 ∷ []) ∷ [])) (seq []) ∷ []) ∷ []) []

-- 80 for `main`, and three calls fill the stack
calls_fit : (machine_run (filling (2 ^ 30 - 80 - 3 * 80)) 1000).ended ≡ Some (machine.Exit 4)
unfolding digits
calls_fit = refl

-- a multiple of 16 more in the frame, and the third call has no room
calls_fill : (machine_run (filling (2 ^ 30 - 80 - 3 * 80 + 16)) 1000).ended ≡ Some machine.StackFull
unfolding digits
calls_fill = refl
