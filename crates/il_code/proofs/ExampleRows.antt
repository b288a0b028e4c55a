-- The run of the example in docs/IL-machine.md, step by step.
use Rattle.std.proofs.Common.{◌≡◌, ℕ, ◌-◌, false, List, [], ◌∷◌, Some, refl, codes}
use Rattle.std.specs.Prelude.{slice_get}
use Rattle.hx_base.specs.declared.Class.TheVariants.{W, L}
use Rattle.il_code.specs.declared.op.IlOp.TheVariants.{Add, Csltw, Alloc4, Loadsw}
use Rattle.il_code.specs.declared.types.IlItem.TheVariants.{Function}
use Rattle.il_code.specs.declared.types.Module.{Module}
use Rattle.il_code.specs.declared.types.Part.TheVariants as part
use Rattle.il_code.specs.declared.types.PartValue.TheVariants as value
use Rattle.il_code.specs.declared.types.IlValue.TheVariants.{Number, Symbol}
use Rattle.il_code.specs.declared.types.Inst.TheVariants.{Store, Call}
use Rattle.il_code.specs.declared.types.Jump.TheVariants.{Fall, Jnz, Ret}
use Rattle.il_code.specs.Machine.{Exit, Spent}
use Rattle.hx_base.specs.Runtime.{stack_start}
use Rattle.il_code.specs.MachineLaws.{jumps_done, calls_done}
use Rattle.il_code.specs.Run.{after_steps, start}
use Rattle.il_code.proofs.RunModules.{block, only_block, param, arg, phi, phi_arg, main, data_item, module_of, one, two, temp, runs, result}

abbrev example : Module
example = module_of (
    data_item (codes "t") 8 (part.Values 1 (value.Str (codes "hi") ∷ []) ∷ [])
    ∷ Function false (Some W) (codes "next") (param W (codes "n") ∷ [])
    (only_block (two (codes "m") W Add (temp (codes "n")) (Number 1) ∷ []) (Ret (Some (temp (codes "m")))))
    ∷ main (Some W) (
    block (codes "start") [] (runs (codes "rt.puts") (Symbol (codes "t") ∷ Number 2 ∷ []) ∷ one (codes "a") L Alloc4 (Number 4) ∷ []) Fall
    ∷ block (codes "loop") (phi (codes "i") W (phi_arg (codes "start") (Number 0) ∷ phi_arg (codes "loop") (temp (codes "j")) ∷ []) ∷ [])
    (Call (Some (param W (codes "j"))) (codes "next") (arg W (temp (codes "i")) ∷ []) ∷ two (codes "c") W Csltw (temp (codes "j"))
    (Number 2) ∷ [])
    (Jnz (temp (codes "c")) (codes "loop") (codes "done"))
    ∷ block (codes "done") [] (Store 4 (temp (codes "j")) (temp (codes "a")) ∷ one (codes "x") W Loadsw (temp (codes "a")) ∷ [])
    (Ret (Some (temp (codes "x")))) ∷ []) ∷ [])

-- after so many steps: the units used, the cost of the stack, the bytes of the stack that are taken, the jumps and the calls done
abbrev shows : ℕ → ℕ → ℕ → ℕ → ℕ → ℕ → Type 0
shows k units cost bytes jumps calls = let r = after_steps example k (start example [] [] 165) in
    (r.used ≡ units) × (r.state.active.cost ≡ cost) × (r.state.active.pointer - stack_start ≡ bytes) × (jumps_done r ≡ jumps) ×
    (calls_done r ≡ calls)

at_start : shows 0 0 104 0 0 0
at_start = (refl, refl, refl, refl, refl)

after_puts : shows 1 1 104 0 0 0
after_puts = (refl, refl, refl, refl, refl)

after_alloc : shows 2 2 120 16 0 0
after_alloc = (refl, refl, refl, refl, refl)

after_phi : shows 3 3 120 16 0 0
after_phi = (refl, refl, refl, refl, refl)

after_call : shows 4 4 200 16 0 1
after_call = (refl, refl, refl, refl, refl)

after_add : shows 5 5 200 16 0 1
after_add = (refl, refl, refl, refl, refl)

after_return : shows 6 6 120 16 0 1
after_return = (refl, refl, refl, refl, refl)

after_test : shows 7 7 120 16 0 1
after_test = (refl, refl, refl, refl, refl)

after_jump : shows 8 8 120 16 1 1
after_jump = (refl, refl, refl, refl, refl)

after_second_test : shows 13 13 120 16 1 2
after_second_test = (refl, refl, refl, refl, refl)

after_second_jump : shows 14 14 120 16 2 2
after_second_jump = (refl, refl, refl, refl, refl)

after_store : shows 15 15 120 16 2 2
after_store = (refl, refl, refl, refl, refl)

after_load : shows 16 16 120 16 2 2
after_load = (refl, refl, refl, refl, refl)

after_end : shows 17 17 120 16 2 2
after_end = (refl, refl, refl, refl, refl)

-- what is set last
abbrev newest : ℕ → List ℕ → ℕ → Type 0
newest k name v = slice_get (after_steps example k (start example [] [] 165)).state.active.temps 0 ≡ Some (name, v)

a_is : newest 2 (codes "a") 1099511627776
a_is = refl

i_is : newest 3 (codes "i") 0
i_is = refl

n_is : newest 4 (codes "n") 0
n_is = refl

m_is : newest 5 (codes "m") 1
m_is = refl

j_is : newest 6 (codes "j") 1
j_is = refl

c_is : newest 7 (codes "c") 1
c_is = refl

second_i_is : newest 9 (codes "i") 1
second_i_is = refl

second_j_is : newest 12 (codes "j") 2
second_j_is = refl

second_c_is : newest 13 (codes "c") 0
second_c_is = refl

x_is : newest 16 (codes "x") 2
x_is = refl

no_output : result example [] [] 0 ≡ (Spent, [])
no_output = refl

some_output : result example [] [] 1 ≡ (Spent, codes "hi")
some_output = refl

spent : result example [] [] 16 ≡ (Spent, codes "hi")
spent = refl

exits : result example [] [] 17 ≡ (Exit 2, codes "hi")
exits = refl
