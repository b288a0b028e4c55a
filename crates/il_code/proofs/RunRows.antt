-- How small modules run.
use Rattle.std.proofs.Common.{◌≡◌, ℕ, ◌-◌, ◌^◌, false, [], ◌∷◌, Some, None, refl, codes}
use Rattle.hx_base.specs.declared.Class.TheVariants.{W, L}
use Rattle.il_code.specs.declared.op.IlOp.TheVariants.{Copy, Add, Sub, Div, Csltw, Cslel, Alloc4, Alloc16, Loadub, Loadl}
use Rattle.il_code.specs.declared.types.MachineFault.TheVariants as fault
use Rattle.il_code.specs.declared.types.IlItem.{IlItem}
use Rattle.il_code.specs.declared.types.IlItem.TheVariants.{Function}
use Rattle.il_code.specs.declared.types.Module.{Module}
use Rattle.il_code.specs.declared.types.Part.TheVariants as part
use Rattle.il_code.specs.declared.types.PartValue.TheVariants as value
use Rattle.il_code.specs.declared.types.IlValue.{IlValue}
use Rattle.il_code.specs.declared.types.IlValue.TheVariants.{Number, Symbol}
use Rattle.il_code.specs.declared.types.Inst.{Inst}
use Rattle.il_code.specs.declared.types.Inst.TheVariants.{Store, Blit, Call}
use Rattle.il_code.specs.declared.types.Jump.TheVariants.{Fall, Jmp, Jnz, Ret, Hlt}
use Rattle.il_code.specs.Machine.{Exit, Fault, StackFull, Spent, temp_value, call_cost}
use Rattle.il_code.specs.MachineLaws.{jumps_done, calls_done}
use Rattle.il_code.specs.State.{Jumped, Called}
use Rattle.il_code.specs.Run.{machine, end_of}
use Rattle.il_code.proofs.RunModules.{block, only_block, param, arg, phi, phi_arg, main, data_item, module_of, main_of, one, two, temp, runs, gives, ends}

-- `call $rt.exit(w v)`
abbrev exits : IlValue → Inst
exits v = Call None (codes "rt.exit") (arg W v ∷ [])

-- ---- blocks

-- two phis that change places, read at once
abbrev swap : Module
swap = module_of (main (Some W) (
    block (codes "start") [] [] Fall
    ∷ block (codes "loop") (
    phi (codes "a") W (phi_arg (codes "start") (Number 1) ∷ phi_arg (codes "loop") (temp (codes "b")) ∷ [])
    ∷ phi (codes "b") W (phi_arg (codes "start") (Number 2) ∷ phi_arg (codes "loop") (temp (codes "a")) ∷ [])
    ∷ phi (codes "i") W (phi_arg (codes "start") (Number 0) ∷ phi_arg (codes "loop") (temp (codes "j")) ∷ []) ∷ [])
    (two (codes "j") W Add (temp (codes "i")) (Number 1) ∷ two (codes "c") W Csltw (temp (codes "j")) (Number 2) ∷ [])
    (Jnz (temp (codes "c")) (codes "loop") (codes "done"))
    ∷ block (codes "done") [] [] (Ret (Some (temp (codes "b")))) ∷ []) ∷ [])

swapped : ends swap 13 ≡ Exit 1
swapped = refl

-- the phis cost one unit each, and are begun only while a unit is left: they pass the budget together
phis_begun : ends swap 12 ≡ Spent
phis_begun = refl

-- a block that falls, twice
abbrev falling : Module
falling = module_of (main (Some W) (block (codes "a") [] [] Fall ∷ block (codes "b") [] (one (codes "x") W Copy (Number 7) ∷ []) Fall ∷
    block (codes "c") [] [] (Ret (Some (temp (codes "x")))) ∷ []) ∷ [])

fallen : ends falling 2 ≡ Exit 7
fallen = refl

fall_costs_none : ends falling 1 ≡ Spent
fall_costs_none = refl

-- a phi reads by the block that fell
abbrev fallen_from : Module
fallen_from = module_of (main (Some W) (
    block (codes "a") [] [] (Jmp (codes "b"))
    ∷ block (codes "b") [] [] Fall
    ∷ block (codes "c") (phi (codes "x") W (phi_arg (codes "a") (Number 1) ∷ phi_arg (codes "b") (Number 2) ∷ []) ∷ []) []
    (Ret (Some (temp (codes "x")))) ∷ []) ∷ [])

fell_from_b : ends fallen_from 3 ≡ Exit 2
fell_from_b = refl

-- a condition is read at class w: 2 ^ 32 is 0 there
abbrev branching : ℕ → Module
branching n = module_of (main (Some W) (
    block (codes "a") [] [] (Jnz (Number n) (codes "yes") (codes "no"))
    ∷ block (codes "yes") [] [] (Ret (Some (Number 1))) ∷ block (codes "no") [] [] (Ret (Some (Number 2))) ∷ []) ∷ [])

branch_yes : ends (branching 1) 2 ≡ Exit 1
branch_yes = refl

branch_no : ends (branching 4294967296) 2 ≡ Exit 2
branch_no = refl

-- ---- calls

-- `f(n)` is `n` where that is at most 0, else `f(n - 1) + 1`
abbrev counting : IlItem
counting = Function false (Some L) (codes "f") (param L (codes "n") ∷ []) (
    block (codes "start") [] (two (codes "c") W Cslel (temp (codes "n")) (Number 0) ∷ [])
    (Jnz (temp (codes "c")) (codes "last") (codes "more"))
    ∷ block (codes "last") [] [] (Ret (Some (temp (codes "n"))))
    ∷ block (codes "more") [] (
    two (codes "m") L Sub (temp (codes "n")) (Number 1)
    ∷ gives (codes "r") L (codes "f") (temp (codes "m") ∷ [])
    ∷ two (codes "r") L Add (temp (codes "r")) (Number 1) ∷ [])
    (Ret (Some (temp (codes "r")))) ∷ [])

abbrev recursive : ℕ → Module
recursive n = module_of (counting ∷ main (Some W)
    (only_block (gives (codes "x") L (codes "f") (Number n ∷ []) ∷ []) (Ret (Some (temp (codes "x"))))) ∷ [])

recursion : ends (recursive 5) 100 ≡ Exit 5
recursion = refl

-- 6 units for each of five calls, 3 for the innermost, and 2 of `$main`
recursion_units : ends (recursive 5) 35 ≡ Exit 5
recursion_units = refl

recursion_spent : ends (recursive 5) 34 ≡ Spent
recursion_spent = refl

-- how many jumps and calls were done
abbrev counts : Module → ℕ → ℕ × ℕ
counts m n = let r = machine m [] [] 170 n in (jumps_done r, calls_done r)

recursion_counts : counts (recursive 5) 100 ≡ (6, 6)
recursion_counts = refl

-- what was done, the newest first
recursion_done : (machine (recursive 1) [] [] 170 100).state.done
    ≡ Jumped (codes "f") (codes "last") ∷ Called (codes "f") ∷ Jumped (codes "f") (codes "more") ∷ Called (codes "f") ∷ []
recursion_done = refl

-- of two items with one name the first is called, here one that gives 1
abbrev two_of_a_name : Module
two_of_a_name = module_of (
    Function false (Some W) (codes "f") [] (only_block [] (Ret (Some (Number 1))))
    ∷ Function false (Some W) (codes "f") [] (only_block [] (Ret (Some (Number 2))))
    ∷ main (Some W) (only_block (gives (codes "x") W (codes "f") [] ∷ []) (Ret (Some (temp (codes "x"))))) ∷ [])

first_is_called : ends two_of_a_name 9 ≡ Exit 1
first_is_called = refl

-- data that stands first hides the function
abbrev hidden : Module
hidden = module_of (
    data_item (codes "f") 1 []
    ∷ Function false None (codes "f") [] (only_block [] (Ret None))
    ∷ main None (only_block (Call None (codes "f") [] ∷ []) (Ret None)) ∷ [])

hidden_is_not_called : ends hidden 9 ≡ Fault fault.Hlt
hidden_is_not_called = refl

-- an inner call of `$main` returns as any other
abbrev main_again : Module
main_again = module_of (
    data_item (codes "d") 1 (part.Values 1 (value.Number 0 ∷ []) ∷ [])
    ∷ main (Some W) (
    block (codes "a") [] (one (codes "x") W Loadub (Symbol (codes "d")) ∷ Store 1 (Number 1) (Symbol (codes "d")) ∷ [])
    (Jnz (temp (codes "x")) (codes "inner") (codes "outer"))
    ∷ block (codes "inner") [] [] (Ret (Some (Number 5)))
    ∷ block (codes "outer") [] (Call (Some (param W (codes "y"))) (codes "main") [] ∷ two (codes "y") W Add (temp (codes "y")) (Number 1) ∷
    []) (Ret (Some (temp (codes "y")))) ∷ []) ∷ [])

inner_main : ends main_again 100 ≡ Exit 6
inner_main = refl

-- ---- the stack: 64 and 8 for each of two temporaries, and what is taken

abbrev taking : ℕ → Module
taking n = main_of (one (codes "a") L Alloc4 (Number n) ∷ one (codes "b") L Alloc16 (Number 0) ∷ []) (Ret None)

-- 80 + (2 ^ 30 - 96) + 16
stack_exact : ends (taking (2 ^ 30 - 96)) 3 ≡ Exit 0
stack_exact = refl

-- the second is what passes
stack_full : ends (taking (2 ^ 30 - 95)) 2 ≡ StackFull
stack_full = refl

stack_first : ends (taking (2 ^ 30 - 95)) 1 ≡ Spent
stack_first = refl

-- a recursion without an end: each call costs 64 and 8 for each of 3 temporaries, beside what `$main` took
abbrev endless : Module
endless = module_of (
    Function false None (codes "f") [] (block (codes "start") []
    (one (codes "a") L Alloc4 (Number 536870912) ∷ Call None (codes "f") [] ∷ []) (Ret None) ∷ [])
    ∷ main None (only_block (Call None (codes "f") [] ∷ []) (Ret None)) ∷ [])

-- call, alloc, call, and the second alloc is too much
deep : ends endless 4 ≡ StackFull
deep = refl

-- what is taken is given back, so that it can be taken again and again
abbrev again : Module
again = module_of (
    Function false None (codes "f") [] (block (codes "start") [] (one (codes "a") L Alloc4 (Number 536870912) ∷ []) (Ret None) ∷ [])
    ∷ main None (only_block (Call None (codes "f") [] ∷ Call None (codes "f") [] ∷ Call None (codes "f") [] ∷ []) (Ret None)) ∷ [])

taken_again : ends again 10 ≡ Exit 0
taken_again = refl

-- ---- budgets

-- `%a =w copy 1`, `%b =w add %a, 1`, `ret %b`
abbrev short : Module
short = main_of (one (codes "a") W Copy (Number 1) ∷ two (codes "b") W Add (temp (codes "a")) (Number 1) ∷ [])
    (Ret (Some (temp (codes "b"))))

spent_0 : ends short 0 ≡ Spent
spent_0 = refl

spent_1 : ends short 1 ≡ Spent
spent_1 = refl

spent_2 : ends short 2 ≡ Spent
spent_2 = refl

exit_3 : ends short 3 ≡ Exit 2
exit_3 = refl

exit_1000 : ends short 1000 ≡ Exit 2
exit_1000 = refl

-- the result of `$main` counts modulo 256
return_value : ends (main_of (two (codes "a") W Sub (Number 0) (Number 1) ∷ []) (Ret (Some (temp (codes "a"))))) 2 ≡ Exit 255
return_value = refl

exit_256 : ends (main_of (exits (Number 256) ∷ []) (Ret None)) 1 ≡ Exit 0
exit_256 = refl

-- the newest value counts
assigned_twice : ends (main_of (one (codes "a") L Copy (Number 1) ∷ one (codes "a") L Copy (Number 2) ∷ exits (temp (codes "a")) ∷ [])
    (Ret None)) 9 ≡ Exit 2
assigned_twice = refl

-- a temporary that was not assigned has the fill byte in each of eight bytes
unassigned : ends (main_of (exits (temp (codes "a")) ∷ []) (Ret None)) 9 ≡ Exit 170
unassigned = refl

unassigned_eight : temp_value 170 [] (codes "a") ≡ 12297829382473034410
unassigned_eight = refl

-- three arguments, whose number is given as a long; the result of a call may be dropped
three_arguments : end_of (machine (main_of (gives (codes "n") L (codes "rt.nargs") [] ∷ exits (temp (codes "n")) ∷ []) (Ret None))
    ([] ∷ [] ∷ [] ∷ []) [] 170 9) ≡ Exit 3
three_arguments = refl

arguments_dropped : ends (main_of (runs (codes "rt.nargs") [] ∷ []) (Ret None)) 9 ≡ Exit 0
arguments_dropped = refl

-- three temporaries: parameters, phis and instructions assign them, one twice
cost_of_three : call_cost (param L (codes "x") ∷ [])
    (block (codes "start") (phi (codes "y") L [] ∷ []) (one (codes "x") L Copy (Number 1) ∷ gives (codes "z") L (codes "rt.nargs") [] ∷ [])
    Hlt ∷ []) ≡ 88
cost_of_three = refl

-- a step that moves 128 bytes costs 3 units, and is begun with one left: then 4 are used, and the jump is begun only with a fifth
abbrev blitting : Module
blitting = main_of (one (codes "a") L Alloc4 (Number 256) ∷ two (codes "b") L Add (temp (codes "a")) (Number 128) ∷ Blit (temp (codes "a"))
    (temp (codes "b")) 128 ∷ []) (Ret None)

abbrev used : Module → ℕ → ℕ
used m n = (machine m [] [] 170 n).used

blit_begun : used blitting 3 ≡ 5
blit_begun = refl

blit_spent : ends blitting 5 ≡ Spent
blit_spent = refl

blit_exit : ends blitting 6 ≡ Exit 0
blit_exit = refl

-- ---- faults

halted : ends (main_of [] Hlt) 1 ≡ Fault fault.Hlt
halted = refl

divided_by_zero : ends (main_of (two (codes "x") L Div (Number 1) (Number 0) ∷ []) (Ret None)) 1 ≡ Fault fault.ZeroDivisor
divided_by_zero = refl

loaded_wild : ends (main_of (one (codes "x") L Loadl (Number 8) ∷ []) (Ret None)) 1 ≡ Fault fault.Wild
loaded_wild = refl

-- a byte past 2 ^ 64 is never mapped
loaded_past : ends (main_of (one (codes "x") L Loadl (Number 18446744073709551615) ∷ []) (Ret None)) 1 ≡ Fault fault.Wild
loaded_past = refl

-- of 8 bytes 7 are mapped
loaded_partly : ends (main_of (one (codes "a") L Alloc4 (Number 7) ∷ one (codes "x") L Loadl (temp (codes "a")) ∷ []) (Ret None)) 9 ≡
    Fault fault.Wild
loaded_partly = refl

freed_nothing : ends (main_of (runs (codes "rt.free") (Number 0 ∷ []) ∷ []) (Ret None)) 1 ≡ Fault fault.BadFree
freed_nothing = refl

no_argument : ends (main_of (gives (codes "x") L (codes "rt.arg") (Number 0 ∷ []) ∷ []) (Ret None)) 1 ≡ Fault fault.BadArg
no_argument = refl

abbrev blit_by : ℕ → Module
blit_by k = main_of (one (codes "a") L Alloc4 (Number 16) ∷ two (codes "b") L Add (temp (codes "a")) (Number k) ∷ Blit (temp (codes "a"))
    (temp (codes "b")) 8 ∷ []) (Ret None)

blit_overlaps : ends (blit_by 4) 9 ≡ Fault fault.Overlap
blit_overlaps = refl

blit_touches : ends (blit_by 8) 9 ≡ Exit 0
blit_touches = refl

blit_same : ends (blit_by 0) 9 ≡ Exit 0
blit_same = refl

-- a byte that is not mapped comes first
blit_wild : ends (main_of (one (codes "a") L Alloc4 (Number 8) ∷ two (codes "b") L Add (temp (codes "a")) (Number 4) ∷ Blit
    (temp (codes "a")) (temp (codes "b")) 8 ∷ []) (Ret None)) 9 ≡ Fault fault.Wild
blit_wild = refl
