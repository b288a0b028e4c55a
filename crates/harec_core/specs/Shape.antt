-- The shape of a module, against the outline of its program.
use Rattle.std.specs.Prelude.{◌≡◌, ℕ, ◌+◌, ◌≤◌, List, [], ◌∷◌, IsTrue}
use Rattle.std.specs.List.{AllByRecursion}
use Rattle.il_code.specs.declared.types.Block.{Block}
use Rattle.il_code.specs.declared.types.IlItem.{IlItem}
use Rattle.il_code.specs.declared.types.IlItem.TheVariants.{Data, Function}
use Rattle.il_code.specs.declared.types.IlParam.{IlParam}
use Rattle.il_code.specs.declared.types.Module.{Module}
use Rattle.il_emit.specs.Shape.{backward_jumps, calls_of, allocs_are_placed, full_cost}
use Rattle.harec_core.specs.Programs.{FunctionOutline, Outline}

-- ---- the parts of a module

-- a function of a module
pub record Body : Type 0 where
  pub name : List ℕ
  pub params : List IlParam
  pub blocks : List Block

-- the functions of a module, in their order
abbrev pub functions_of : List IlItem → List Body
functions_of [] = []
functions_of (Data export name align parts ∷ items) = functions_of items
functions_of (Function export class name params blocks ∷ items) =
    record { name = name; params = params; blocks = blocks } ∷ functions_of items

-- how many data items a module has
abbrev pub data_count : List IlItem → ℕ
data_count [] = 0
data_count (Data export name align parts ∷ items) = 1 + data_count items
data_count (Function export class name params blocks ∷ items) = data_count items

-- ---- shape

-- a function is that of its outline
pub record HasOutline (bodies : List Body) (f : FunctionOutline) (b : Body) : Type 0 where
  pub name : b.name ≡ f.name
  pub jumps : backward_jumps b.blocks ≤ f.loops
  pub calls : AllByRecursion (λ (callee : Body). calls_of callee.name b.blocks ≤ f.calls callee.name) bodies

-- each function is that of its outline, in order, and there is no further one
abbrev pub HaveOutlines : List Body → List FunctionOutline → List Body → Type 0
HaveOutlines all [] [] = Unit {0}
HaveOutlines all [] (b ∷ bs) = ⊥
HaveOutlines all (f ∷ fs) [] = ⊥
HaveOutlines all (f ∷ fs) (b ∷ bs) = HasOutline all f b × HaveOutlines all fs bs

-- The shape of a program's module: its functions, one for each of the program; a data item for each global, and no more further ones than
-- the program asks for.
pub record HasShape (o : Outline) (m : Module) : Type 0 where
  pub functions : HaveOutlines (functions_of m.items) o.functions (functions_of m.items)
  pub globals : o.globals ≤ data_count m.items
  pub others : data_count m.items ≤ o.globals + o.further

-- ---- what a call costs the stack

-- Bytes of the stack are taken in the first block alone, each time as many as a number says, and a call costs the stack no more than this,
-- with all that it takes there.
pub record IsWithinFrame (frame : ℕ) (b : Body) : Type 0 where
  pub placed : IsTrue (allocs_are_placed b.blocks)
  pub cost : full_cost b.params b.blocks ≤ frame

-- the same of each function, in order
abbrev pub AreWithinFrames : List ℕ → List Body → Type 0
AreWithinFrames [] [] = Unit {0}
AreWithinFrames [] (b ∷ bs) = ⊥
AreWithinFrames (f ∷ fs) [] = ⊥
AreWithinFrames (f ∷ fs) (b ∷ bs) = IsWithinFrame f b × AreWithinFrames fs bs
