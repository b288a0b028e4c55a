-- What it is for the blocks of a function to be tight: control may come to each, and each but the first has a label that a jump names.
-- Behind them one block may stand to which control does not come, and which only sets temporaries.
use Rattle.std.specs.Prelude.{◌≡◌, ℕ, ◌⊎◌, Bool, true, false, ◌||◌, List, [], ◌∷◌, ◌++◌, None, bytes_eq}
use Rattle.std.specs.List.{list_any, AllByRecursion}
use Rattle.hx_base.specs.declared.Class.{Class}
use Rattle.il_code.specs.declared.op.IlOp.TheVariants.{Copy}
use Rattle.il_code.specs.declared.types.Block.{Block}
use Rattle.il_code.specs.declared.types.IlItem.{IlItem}
use Rattle.il_code.specs.declared.types.IlItem.TheVariants.{Data, Function}
use Rattle.il_code.specs.declared.types.IlValue.TheVariants.{Number}
use Rattle.il_code.specs.declared.types.Inst.{Inst}
use Rattle.il_code.specs.declared.types.Inst.TheVariants.{Set}
use Rattle.il_code.specs.declared.types.Jump.{Jump}
use Rattle.il_code.specs.declared.types.Jump.TheVariants.{Fall, Jmp, Jnz, Ret, Hlt}
use Rattle.il_code.specs.declared.types.Module.{Module}
use Rattle.il_code.specs.Shaped.{ends, falls}

-- ---- blocks to which control comes

-- a jump names a label
abbrev pub names : Jump → List ℕ → Bool
names Fall l = false
names (Jmp a) l = bytes_eq a l
names (Jnz v a b) l = bytes_eq a l || bytes_eq b l
names (Ret v) l = false
names Hlt l = false

-- a jump of some blocks names it
abbrev pub is_named : List Block → List ℕ → Bool
is_named bs l = list_any (λ (b : Block). names b.jump l) bs

-- Control may come to a block with this label: to the first one, to one behind a block to which it comes and that falls, and to one that
-- is named by the jump of a block to which it comes.
pub data IsLed (bs : List Block) : List ℕ → Type 0 where
  starts : (first : Block) (rest : List Block) → bs ≡ first ∷ rest → IsLed bs first.label
  falls_in : (front behind : List Block) (a b : Block) → bs ≡ front ++ (a ∷ b ∷ behind) → falls a.jump ≡ true → IsLed bs a.label →
      IsLed bs b.label
  jumps_in : (front behind : List Block) (a : Block) (l : List ℕ) → bs ≡ front ++ (a ∷ behind) → names a.jump l ≡ true →
      IsLed bs a.label → IsLed bs l

pub record AreLed (bs : List Block) : Type 0 where
  -- nothing stands to which control cannot come
  pub led : (front behind : List Block) (b : Block) → bs ≡ front ++ (b ∷ behind) → IsLed bs b.label
  -- no label stands that no jump names, but the first
  pub named : (front behind : List Block) (first b : Block) → bs ≡ first ∷ (front ++ (b ∷ behind)) →
      (b.label ≡ first.label) ⊎ (is_named bs b.label ≡ true)

-- ---- the block behind them

-- a setting of a temporary to 0
pub data IsZero : Inst → Type 0 where
  sets_zero : (temp : List ℕ) (class : Class) → IsZero (Set temp class Copy (Number 0) None)

-- A block that only sets temporaries, and to which control does not come from these: they do not fall into it, and none names it.
pub record IsUnset (reached : List Block) (b : Block) : Type 0 where
  pub ended : ends reached ≡ true
  pub apart : is_named reached b.label ≡ false
  pub plain : b.phis ≡ []
  pub settings : AllByRecursion IsZero b.insts
  pub halts : b.jump ≡ Hlt

-- there is at most one such block
pub data AreUnset (reached : List Block) : List Block → Type 0 where
  no_block : AreUnset reached []
  one_block : (b : Block) → IsUnset reached b → AreUnset reached (b ∷ [])

-- ---- functions and modules

pub record IsTight (bs : List Block) : Type 0 where
  pub reached : List Block
  pub behind : List Block
  pub all : bs ≡ reached ++ behind
  pub led : AreLed reached
  pub unset : AreUnset reached behind

abbrev pub ItemIsTight : IlItem → Type 0
ItemIsTight (Data export name align parts) = Unit {0}
ItemIsTight (Function export class name params blocks) = IsTight blocks

-- the functions of a module are tight
abbrev pub AreTight : Module → Type 0
AreTight m = AllByRecursion ItemIsTight m.items
