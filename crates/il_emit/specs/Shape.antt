-- The module has the program's shape: the same data and functions in the same order, with no loop and no call that the program does not
-- have, and calls that cost the stack no more.
use Rattle.std.specs.Prelude.{◌≡◌, ℕ, ◌+◌, ◌≤◌, Bool, true, false, not, ◌&&◌, ◌||◌, IsTrue, List, [], ◌∷◌, ◌++◌, map, Option, None, Some, bytes_eq, count_by, sum_by, if◌then◌else◌}
use Rattle.std.specs.List.{list_all}
use Rattle.flat_code.specs.declared.program.Data.{Data}
use Rattle.flat_code.specs.declared.program.FlatFn.{FlatFn}
use Rattle.flat_code.specs.declared.program.FlatProgram.{FlatProgram}
use Rattle.flat_code.specs.Contents.{loops_in, calls_in}
use Rattle.flat_code.specs.Costs as flat_cost
use Rattle.flat_code.specs.Evaluation as flat
use Rattle.flat_code.specs.Shape.{code_of}
use Rattle.il_code.specs.declared.types.Block.{Block}
use Rattle.il_code.specs.declared.types.IlItem.{IlItem}
use Rattle.il_code.specs.declared.types.IlParam.{IlParam}
use Rattle.il_code.specs.declared.types.IlValue.{IlValue}
use Rattle.il_code.specs.declared.types.IlValue.TheVariants as il_value
use Rattle.il_code.specs.declared.types.Inst.{Inst}
use Rattle.il_code.specs.declared.types.Inst.TheVariants as inst
use Rattle.il_code.specs.declared.types.Module.{Module}
use Rattle.il_code.specs.Machine.{call_cost}
use Rattle.il_code.specs.Rules.{item_name, is_function, has_label, targets_pass}
use Rattle.il_code.specs.State as il
use Rattle.il_code.specs.Step.{Kind, Takes, Loads, Computes, kind_of, taken}

-- ---- blocks

-- how many jumps name a block that does not stand behind the jump's own: without such a jump control only goes on
abbrev pub backward_jumps : List Block → ℕ
backward_jumps [] = 0
backward_jumps (b ∷ behind) = (if targets_pass (has_label behind) b.jump then 0 else 1) + backward_jumps behind

-- a call of the function with a name
abbrev pub is_call_of : List ℕ → Inst → Bool
is_call_of name (inst.Call result target args) = bytes_eq target name
is_call_of name (inst.Set temp class op a b) = false
is_call_of name (inst.Store width value at) = false
is_call_of name (inst.Blit from to bytes) = false

-- how many such calls stand in blocks
abbrev pub calls_of : List ℕ → List Block → ℕ
calls_of name blocks = sum_by (λ (b : Block). count_by (is_call_of name) b.insts) blocks

-- ---- the stack

-- whether an operation takes bytes of the stack
abbrev pub is_taking : Kind → Bool
is_taking Takes = true
is_taking (Loads width extends) = false
is_taking Computes = false

-- an alloc
abbrev pub is_alloc : Inst → Bool
is_alloc (inst.Set temp class op a b) = is_taking (kind_of op)
is_alloc (inst.Store width value at) = false
is_alloc (inst.Blit from to bytes) = false
is_alloc (inst.Call result target args) = false

-- the bytes that an alloc names, if it names a number
abbrev pub number_of : IlValue → Option ℕ
number_of (il_value.Number n) = Some n
number_of (il_value.Temp t) = None
number_of (il_value.Symbol name) = None

abbrev pub fixed : Option ℕ → Bool
fixed None = false
fixed (Some n) = true

-- an alloc names a number of bytes
abbrev pub has_fixed_size : Inst → Bool
has_fixed_size (inst.Set temp class op a b) = not (is_taking (kind_of op)) || fixed (number_of a)
has_fixed_size (inst.Store width value at) = true
has_fixed_size (inst.Blit from to bytes) = true
has_fixed_size (inst.Call result target args) = true

-- allocs stand in the first block, to which no jump of a valid function leads, and each names a number of bytes: so each call takes them
-- once
abbrev pub allocs_are_placed : List Block → Bool
allocs_are_placed [] = true
allocs_are_placed (first ∷ rest) =
    list_all has_fixed_size first.insts && list_all (λ (b : Block). list_all (λ (i : Inst). not (is_alloc i)) b.insts) rest

abbrev pub taken_of : Option ℕ → ℕ
taken_of None = 0
taken_of (Some n) = taken n

-- the bytes that an instruction takes of the stack
abbrev pub takes : Inst → ℕ
takes (inst.Set temp class op a b) = if is_taking (kind_of op) then taken_of (number_of a) else 0
takes (inst.Store width value at) = 0
takes (inst.Blit from to bytes) = 0
takes (inst.Call result target args) = 0

-- what a call of a function costs the stack in all
abbrev pub full_cost : List IlParam → List Block → ℕ
full_cost params blocks = call_cost params blocks + sum_by (λ (b : Block). sum_by takes b.insts) blocks

-- ---- functions and programs

-- A function of the module has no more backward jumps than one of the program has Loops, no more calls of any function than that has Calls
-- of it, an alloc only where that has a frame, and a call of it costs the stack no more than flat code says.
pub record IsShapedAs (f : FlatFn) (c : il.Code) : Type 0 where
  pub jumps : backward_jumps c.blocks ≤ loops_in (code_of f.body)
  pub calls : (name : List ℕ) → calls_of name c.blocks ≤ calls_in name (code_of f.body)
  pub allocs : IsTrue (allocs_are_placed c.blocks)
  pub unframed : f.frame ≡ 0 → IsTrue (list_all (λ (b : Block). list_all (λ (i : Inst). not (is_alloc i)) b.insts) c.blocks)
  pub cost : full_cost c.params c.blocks ≤ flat_cost.call_cost f

-- the function of the module for one of the program, which is there exactly where that is
abbrev pub AreAlike : Option FlatFn → Option il.Code → Type 0
AreAlike None None = Unit {0}
AreAlike None (Some c) = ⊥
AreAlike (Some f) None = ⊥
AreAlike (Some f) (Some c) = IsShapedAs f c

-- the name of a definition of the module, and whether it is a function
abbrev pub outlined : IlItem → List ℕ × Bool
outlined i = (item_name i, is_function i)

pub record HasShape (p : FlatProgram) (m : Module) : Type 0 where
  -- a data item for each global and then a function for each function, in their order and under their names
  pub items : map outlined m.items ≡
      map (λ (d : Data). (d.name, false)) p.globals ++ map (λ (f : FlatFn). (f.name, true)) p.functions
  -- function by function, by their names
  pub functions : (name : List ℕ) → AreAlike (flat.function_named p.functions name) (il.function_named m.items name)
