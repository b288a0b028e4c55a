-- A state in a call, in which the rows begin, and what they say of one behind it.
use Rattle.std.proofs.Common.{◌≡◌, ℕ, ◌+◌, Bool, List, [], ◌∷◌}
use Rattle.std.specs.Prelude.{codes, Some, None}
use Rattle.hx_base.specs.declared.Class.TheVariants.{W, L}
use Rattle.hx_base.specs.Memory.{Memory, empty_memory, write, map_range, is_mapped}
use Rattle.hx_base.specs.Runtime.{World, heap_start, data_start, stack_start}
use Rattle.flat_code.specs.declared.op.Op.TheVariants.{Add}
use Rattle.flat_code.specs.declared.program.Item.TheVariants as item
use Rattle.flat_code.specs.declared.program.FlatProgram.{FlatProgram}
use Rattle.flat_code.specs.declared.value.Value.{Value}
use Rattle.flat_code.specs.declared.value.Value.TheVariants.{Temp, Number, Frame}
use Rattle.flat_code.specs.Code.{Code, Set, Store, Call, Ret, Loop}
use Rattle.flat_code.specs.State.{State, Flow, Result}
use Rattle.flat_code.specs.Evaluation.{flat}
use Rattle.flat_code.proofs.RowPrograms.{seq, plain, of_one, global, program}

-- a call of the function that adds 1
abbrev pub calls_next : Value → Code
calls_next v = Call (Some 0) (codes "next") (v ∷ [])

-- a program with functions that return, fall out at their end, end the program, turn for ever and call one another
abbrev pub sample : FlatProgram
sample = program (
    plain (codes "main") 8 32 (Ret None ∷ [])
    ∷ of_one (codes "next") W 2 24 (Set 1 L Add (Temp 0) (Number 1) ∷ Ret (Some (Temp 1)) ∷ [])
    ∷ plain (codes "small") 0 0 []
    ∷ plain (codes "large") 0 100000 (Store 8 (Number 7) (Frame 0) ∷ [])
    ∷ plain (codes "quit") 0 40 (Call None (codes "rt.exit") (Number 3 ∷ []) ∷ [])
    ∷ plain (codes "turns") 0 16 (Loop (seq []) ∷ [])
    ∷ plain (codes "twice") 1 8 (calls_next (Number 1) ∷ calls_next (Temp 0) ∷ Ret (Some (Temp 0)) ∷ [])
    ∷ [])
    (global (codes "text") 1 (item.Bytes (codes "ab") ∷ []) ∷ [])

-- memory with the two bytes of a global and a frame of 32 bytes mapped, and the fill byte 1
abbrev pub memory : Memory
memory = map_range (map_range (write (empty_memory 1) data_start (codes "ab")) data_start 2) stack_start 32

abbrev pub world : World
world = record { memory = memory; heap = record { next = heap_start; blocks = [] }; input = codes "in"; output = []; arguments = 0 }

-- a call of that frame, which costs 200 of the 300 that calls cost most
abbrev pub begins : State
begins = record { world = world; temps = []; frame = stack_start; top = stack_start + 32; steps = 5; cost = 200; most = 300 }

-- a run of code with `n` turns left
abbrev pub runs : ℕ → Code → Result
runs n c = flat sample n c begins

-- how it ends, with the frame, the top and the cost as they were
abbrev pub Stays : ℕ → Code → Flow → (steps most : ℕ) → Type 0
Stays n c end steps most =
    let r = runs n c in
    (r.0 ≡ end) × (r.1.frame ≡ stack_start) × (r.1.top ≡ stack_start + 32) × (r.1.cost ≡ 200) × (r.1.steps ≡ steps) × (r.1.most ≡ most)

-- how it ends, in a call above
abbrev pub Rises : ℕ → Code → Flow → (top cost steps most : ℕ) → Type 0
Rises n c end top cost steps most =
    let r = runs n c in
    let s = r.1 in
    (r.0 ≡ end) × (s.frame ≡ stack_start + 32) × (s.top ≡ stack_start + top) × (s.cost ≡ cost) × (s.steps ≡ steps) × (s.most ≡ most)

-- whether an address is mapped behind it
abbrev pub Maps : ℕ → Code → ℕ → Bool → Type 0
Maps n c a mapped = is_mapped (runs n c).1.world.memory a ≡ mapped

-- where the next block of the heap begins behind it, and the live blocks
abbrev pub Blocks : Code → ℕ → List (ℕ × ℕ) → Type 0
Blocks c next blocks = ((runs 0 c).1.world.heap.next ≡ next) × ((runs 0 c).1.world.heap.blocks ≡ blocks)
