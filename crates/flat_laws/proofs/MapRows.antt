-- What is mapped and which blocks are live behind code, and that the premises of the laws are needed.
use Rattle.std.proofs.Common.{◌≡◌, ℕ, ◌+◌, true, false, [], ◌∷◌, Some, None, refl}
use Rattle.std.specs.Prelude.{codes}
use Rattle.hx_base.specs.Memory.{map_range, is_mapped}
use Rattle.hx_base.specs.Runtime.{heap_start, data_start, stack_start}
use Rattle.flat_code.specs.declared.value.Value.TheVariants.{Temp, Number, Frame}
use Rattle.flat_code.specs.Code.{Code, Store, Call}
use Rattle.flat_code.specs.State.{State, Next, Left, Returned, Exit, Abort, Fault, HeapFull, Spent, Wild}
use Rattle.flat_code.specs.Evaluation.{flat}
use Rattle.flat_code.proofs.RowPrograms.{seq}
use Rattle.flat_laws.specs.Runs.{GoesOn}
use Rattle.flat_laws.proofs.RowStates.{calls_next, sample, begins, world, runs, Maps, Blocks}

-- ---- which ends go on

next_goes_on : GoesOn Next ≡ Unit {0}
next_goes_on = refl

left_goes_on : GoesOn (Left 4) ≡ Unit {0}
left_goes_on = refl

returned_goes_on : GoesOn (Returned 1) ≡ Unit {0}
returned_goes_on = refl

exit_does_not : GoesOn (Exit 0) ≡ ⊥
exit_does_not = refl

abort_does_not : GoesOn (Abort []) ≡ ⊥
abort_does_not = refl

fault_does_not : GoesOn (Fault Wild) ≡ ⊥
fault_does_not = refl

full_does_not : GoesOn HeapFull ≡ ⊥
full_does_not = refl

spent_does_not : GoesOn Spent ≡ ⊥
spent_does_not = refl

-- ---- the stack

abbrev calls : Code
calls = calls_next (Number 8)

abbrev quits : Code
quits = Call None (codes "quit") []

-- what was mapped is mapped behind a call, up to its last byte
global_stays : Maps 1 calls data_start true
global_stays = refl

last_stays : Maps 1 calls (stack_start + 31) true
last_stays = refl

-- the frame of the function is not
frame_goes : Maps 1 calls (stack_start + 32) false
frame_goes = refl

frame_end_goes : Maps 1 calls (stack_start + 55) false
frame_end_goes = refl

-- where the program ends within the function, its 40 bytes are mapped still, and none behind them
frame_there : Maps 1 quits (stack_start + 32) true
frame_there = refl

frame_end_there : Maps 1 quits (stack_start + 71) true
frame_end_there = refl

behind_frame : Maps 1 quits (stack_start + 72) false
behind_frame = refl

below_there : Maps 1 quits (stack_start + 31) true
below_there = refl

-- where something was mapped from the top on, a call unmaps it
abbrev dirty : State
dirty = record begins { world = record world { memory = map_range world.memory (stack_start + 40) 1 } }

was_mapped : is_mapped dirty.world.memory (stack_start + 40) ≡ true
was_mapped = refl

not_clear : is_mapped (flat sample 1 calls dirty).1.world.memory (stack_start + 40) ≡ false
not_clear = refl

-- where the heap has a block of the stack, it can be freed
abbrev low_block : State
low_block = record begins { world = record world { heap = record { next = heap_start; blocks = (stack_start, 16) ∷ [] } } }

was_mapped_low : is_mapped low_block.world.memory stack_start ≡ true
was_mapped_low = refl

not_a_heap : is_mapped (flat sample 0 (Call None (codes "rt.free") (Frame 0 ∷ [])) low_block).1.world.memory stack_start ≡ false
not_a_heap = refl

-- ---- the heap

abbrev allocates : ℕ → Code
allocates n = Call (Some 0) (codes "rt.malloc") (Number n ∷ [])

abbrev frees : Code
frees = Call None (codes "rt.free") (Temp 0 ∷ [])

none_yet : Blocks (seq []) heap_start []
none_yet = (refl, refl)

one_block : Blocks (allocates 8) (heap_start + 16) ((heap_start, 8) ∷ [])
one_block = (refl, refl)

-- a block of no bytes has one
no_bytes : Blocks (allocates 0) (heap_start + 16) ((heap_start, 1) ∷ [])
no_bytes = (refl, refl)

-- the newest block first
two_blocks : Blocks (seq (allocates 8 ∷ allocates 17 ∷ [])) (heap_start + 48) ((heap_start + 16, 17) ∷ (heap_start, 8) ∷ [])
two_blocks = (refl, refl)

-- a block that was freed is not given again
freed : Blocks (seq (allocates 8 ∷ frees ∷ allocates 8 ∷ [])) (heap_start + 32) ((heap_start + 16, 8) ∷ [])
freed = (refl, refl)

-- a block's bytes are mapped, and none between it and the next
block_mapped : Maps 0 (seq (allocates 8 ∷ allocates 8 ∷ [])) (heap_start + 7) true
block_mapped = refl

block_ends : Maps 0 (seq (allocates 8 ∷ allocates 8 ∷ [])) (heap_start + 8) false
block_ends = refl

-- too many bytes would be live
refused : Blocks (allocates 67108865) heap_start []
refused = (refl, refl)

-- ---- the fill byte

fill_stays : (runs 1 (seq (Store 1 (Number 5) (Frame 0) ∷ allocates 8 ∷ calls ∷ quits ∷ []))).1.world.memory.fill ≡ 1
fill_stays = refl
