-- What a run of a program and a run of its module come to, how often a function jumps back, and what it takes of the stack, on small
-- programs.
use Rattle.std.proofs.Common.{◌≡◌, ℕ, ◌^◌, List, [], ◌∷◌, Option, Some, None, true, false, refl}
use Rattle.std.specs.Fmt.{digits}
use Rattle.std.specs.Prelude.{codes}
use Rattle.hx_base.specs.declared.Class.TheVariants.{W, L}
use Rattle.flat_code.specs.declared.op.Op.TheVariants.{Copy, Add, Udiv, Cultl}
use Rattle.flat_code.specs.declared.program.FlatFn.{FlatFn}
use Rattle.flat_code.specs.declared.program.FlatProgram.{FlatProgram}
use Rattle.flat_code.specs.declared.program.Item.TheVariants as item
use Rattle.flat_code.specs.declared.value.Value.TheVariants.{Temp, Number, Symbol}
use Rattle.flat_code.specs.Code.{Set, If, Loop, Leave, Call, Ret}
use Rattle.flat_code.specs.Run.{run}
use Rattle.flat_code.specs.State.{Flow, Exit, Fault, Spent, ZeroDivisor}
use Rattle.flat_code.proofs.RowPrograms.{seq, plain, global, program}
use Rattle.il_code.specs.declared.op.IlOp.TheVariants as op
use Rattle.il_code.specs.declared.types.Block.{Block}
use Rattle.il_code.specs.declared.types.IlValue.{IlValue}
use Rattle.il_code.specs.declared.types.IlValue.TheVariants as il
use Rattle.il_code.specs.declared.types.Inst.{Inst}
use Rattle.il_code.specs.declared.types.Inst.TheVariants as inst
use Rattle.il_code.specs.declared.types.Jump.TheVariants as jump
use Rattle.il_code.specs.declared.types.MachineFault.TheVariants as fault
use Rattle.il_code.specs.Machine as machine
use Rattle.il_code.specs.MachineLaws.{jumps_and_calls}
use Rattle.il_code.specs.Run.{Run, machine}
use Rattle.il_emit.specs.Emitted.{blocks_of, module_of}
use Rattle.il_emit.specs.Shape.{backward_jumps, calls_of, allocs_are_placed, takes, full_cost}

-- three arguments and some input
abbrev flat_run : FlatProgram → ℕ → Flow → List ℕ → ℕ → Type 0
flat_run p n end output steps =
    let r = run p (codes "a" ∷ codes "b" ∷ codes "c" ∷ []) (codes "in") 1 n in
    (r.0 ≡ end) × (r.1.world.output ≡ output) × (r.1.steps ≡ steps)

abbrev machine_run : FlatProgram → ℕ → Run
machine_run p budget = machine (module_of p) (codes "a" ∷ codes "b" ∷ codes "c" ∷ []) (codes "in") 1 budget

-- how a run stands: its end, its output, the units used, and its jumps and calls
abbrev comes_to : Run → Option machine.End → List ℕ → (used jumps : ℕ) → Type 0
comes_to r ended output used jumps = (r.ended ≡ ended) × (r.state.world.output ≡ output) × (r.used ≡ used) × (jumps_and_calls r ≡ jumps)

abbrev counting_main : FlatFn
counting_main = plain (codes "main") 3 0 (
    Set 0 L Copy (Number 0) (Number 0)
    ∷ Loop (seq (
    Call (Some 1) (codes "rt.nargs") []
    ∷ Set 2 W Cultl (Temp 0) (Temp 1)
    ∷ If (Temp 2) (seq []) (Leave 1)
    ∷ Call None (codes "rt.puts") (Symbol 0 1 ∷ Number 2 ∷ [])
    ∷ Set 0 L Add (Temp 0) (Number 1) ∷ []))
    ∷ Set 0 L Add (Temp 0) (Temp 0)
    ∷ Call None (codes "rt.exit") (Temp 0 ∷ []) ∷ [])

-- writes "ab" for each argument, and exits with twice their number
abbrev counting : FlatProgram
counting = program (counting_main ∷ []) (global (codes "text") 1 (item.Bytes (codes "xab") ∷ []) ∷ [])

-- ---- a run to its end

counted : flat_run counting 4 (Exit 6) (codes "ababab") 41
counted = (refl, refl, refl)

-- 2 units, 7 for each whole turn, 3 for the last, and 2: at most four for each of 41 flat steps
counted_too : comes_to (machine_run counting 1000) (Some (machine.Exit 6)) (codes "ababab") 28 8
unfolding digits
counted_too = (refl, refl, refl, refl)

-- ---- a run that is cut short

no_turn_left : flat_run counting 3 Spent (codes "ababab") 33
no_turn_left = (refl, refl, refl)

-- behind the third turn: no fewer jumps than turns
going_on : comes_to (machine_run counting 23) None (codes "ababab") 23 7
unfolding digits
going_on = (refl, refl, refl, refl)

-- ---- a fault

abbrev dividing : FlatProgram
dividing = program (plain (codes "main") 1 0 (Set 0 W Udiv (Number 1) (Number (2 ^ 32)) ∷ []) ∷ []) []

divided : flat_run dividing 0 (Fault ZeroDivisor) [] 2
divided = (refl, refl, refl)

divided_too : comes_to (machine_run dividing 1000) (Some (machine.Fault fault.ZeroDivisor)) [] 1 0
unfolding digits
divided_too = (refl, refl, refl, refl)

-- ---- shapes

-- a Loop is one backward jump: it is entered by a jump to what stands behind
one_loop : backward_jumps (blocks_of counting counting_main) ≡ 1
unfolding digits
one_loop = refl

calls_puts : calls_of (codes "rt.puts") (blocks_of counting counting_main) ≡ 1
calls_puts = refl

-- a Loop in a Loop
two_loops : backward_jumps (blocks_of counting (plain (codes "main") 1 0 (Loop (Loop (Leave 1)) ∷ []))) ≡ 2
unfolding digits
two_loops = refl

-- no Loop
branch : backward_jumps (blocks_of counting (plain (codes "main") 1 0 (If (Number 4) (seq (Leave 1 ∷ [])) (Ret None) ∷ []))) ≡ 0
unfolding digits
branch = refl

-- ---- the stack

-- 64, and 8 for each of three temporaries and an address, where flat code has 64 + 8 * 5 + 16
counting_cost : full_cost [] (blocks_of counting counting_main) ≡ 96
unfolding digits
counting_cost = refl

abbrev alloc : IlValue → Inst
alloc bytes = inst.Set (codes "p") L op.Alloc4 bytes None

abbrev of_insts : List Inst → Block
of_insts insts = record { label = codes "b"; phis = []; insts = insts; jump = jump.Ret None }

-- 17 bytes take 32, and no bytes 16
seventeen : takes (alloc (il.Number 17)) ≡ 32
seventeen = refl

no_bytes : takes (alloc (il.Number 0)) ≡ 16
no_bytes = refl

in_first : allocs_are_placed (of_insts (alloc (il.Number 17) ∷ []) ∷ of_insts [] ∷ []) ≡ true
in_first = refl

in_second : allocs_are_placed (of_insts [] ∷ of_insts (alloc (il.Number 17) ∷ []) ∷ []) ≡ false
in_second = refl

not_a_number : allocs_are_placed (of_insts (alloc (il.Temp (codes "n")) ∷ []) ∷ []) ≡ false
not_a_number = refl
