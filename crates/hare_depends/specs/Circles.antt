-- Circles of declarations, and the fault of the first.
use Rattle.std.specs.Prelude.{◌≡◌, ℕ, ◌<◌, List, true, length, slice_get, Option, Some, None, Contains}
use Rattle.hare_tree.specs.declared.place.Fault.{Fault}
use Rattle.hare_depends.specs.declared.said.Said.{Said}
use Rattle.hare_depends.specs.Sorts.{is_constant}
use Rattle.hare_depends.specs.Dependence.{is_at, LeadsTo}

-- the numbers in what is said are those of declarations
pub record AreWithin (count : ℕ) (s : Said) : Type 0 where
  pub needed : (e : ℕ) → Contains s.needed e → e < count
  pub named : (e : ℕ) → Contains s.named e → e < count
  pub written : (e : ℕ) → Contains s.written e → e < count

abbrev pub AllWithin : List Said → Type 0
AllWithin ds = (s : Said) → Contains ds s → AreWithin (length ds) s

-- the declaration depends on itself
abbrev pub IsCircular : List Said → ℕ → Type 0
IsCircular ds d = LeadsTo ds d d

-- a def or a global without a type lies on a circle with the declaration
abbrev pub HasConstant : List Said → ℕ → Type 0
HasConstant ds d = (e : ℕ) × (is_at is_constant ds e ≡ true) × LeadsTo ds d e × LeadsTo ds e d

-- E23 where a value would be needed for itself, and E17 where a type would hold itself
pub data CircleNumber (ds : List Said) (d : ℕ) : ℕ → Type 0 where
  of_constant : HasConstant ds d → CircleNumber ds d 23
  of_type : ¬ HasConstant ds d → CircleNumber ds d 17

-- the fault of circles: the first declaration in source order that depends on itself has it, at its name
pub record IsCircleFault (ds : List Said) (f : Fault) : Type 0 where
  pub decl : ℕ
  pub said : Said
  pub is_there : slice_get ds decl ≡ Some said
  pub circular : IsCircular ds decl
  pub first : (e : ℕ) → e < decl → ¬ IsCircular ds e
  pub number : CircleNumber ds decl f.number
  pub place : f.place ≡ said.place

-- the fault of circles, or that no declaration depends on itself
abbrev pub TellsCircle : List Said → Option Fault → Type 0
TellsCircle ds None = (d : ℕ) → ¬ IsCircular ds d
TellsCircle ds (Some f) = IsCircleFault ds f

-- there is at most one such fault
abbrev pub CircleFaultsAreOne : Type 0
CircleFaultsAreOne = (ds : List Said) (f g : Fault) → IsCircleFault ds f → IsCircleFault ds g → f ≡ g
