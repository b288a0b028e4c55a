-- The order in which declarations are judged: that of the source, each behind those on which it depends, depth first.
use Rattle.std.specs.Prelude.{◌≡◌, ℕ, ◌<◌, List, length, take, slice_get, Some, Contains}
use Rattle.hare_depends.specs.declared.said.Said.{Said}
use Rattle.hare_depends.specs.Dependence.{DependsOn}
use Rattle.hare_depends.specs.Circles.{IsCircular}

-- all on which it depends is done
abbrev pub IsReady : List Said → List ℕ → ℕ → Type 0
IsReady ds done d = (e : ℕ) → DependsOn ds d e → Contains done e

-- of those that are left, the first in source order of which it is so
pub record IsFirstLeft (ds : List Said) (done : List ℕ) (P : ℕ → Type 0) (d : ℕ) : Type 0 where
  pub is_there : d < length ds
  pub is_left : ¬ Contains done d
  pub holds : P d
  pub first : (c : ℕ) → c < d → ¬ Contains done c → ¬ P c

-- Depth first: from one that is left to the first of those that are left on which it depends, and so on until one is ready.
pub data Descends (ds : List Said) (done : List ℕ) : ℕ → ℕ → Type 0 where
  arrives : (d : ℕ) → IsReady ds done d → Descends ds done d d
  goes_on : (c e d : ℕ) → IsFirstLeft ds done (DependsOn ds c) e → Descends ds done e d → Descends ds done c d

abbrev pub IsAny : ℕ → Type 0
IsAny d = Unit {0}

-- the next behind these: the one to which the first of all that are left descends
pub record IsNext (ds : List Said) (done : List ℕ) (d : ℕ) : Type 0 where
  pub from : ℕ
  pub first : IsFirstLeft ds done IsAny from
  pub descends : Descends ds done from d

-- each is the next behind those before it
abbrev pub AreInTurn : List Said → List ℕ → Type 0
AreInTurn ds order = (k d : ℕ) → slice_get order k ≡ Some d → IsNext ds (take k order) d

-- the order of all declarations
pub record IsOrder (ds : List Said) (order : List ℕ) : Type 0 where
  pub all : (d : ℕ) → d < length ds → Contains order d
  pub in_turn : AreInTurn ds order

-- ---- what holds of orders

-- there is at most one
abbrev pub OrdersAreOne : Type 0
OrdersAreOne = (ds : List Said) (xs ys : List ℕ) → IsOrder ds xs → IsOrder ds ys → xs ≡ ys

-- and none where a declaration depends on itself
abbrev pub OrdersHaveNoCircles : Type 0
OrdersHaveNoCircles = (ds : List Said) (xs : List ℕ) (d : ℕ) → IsOrder ds xs → ¬ IsCircular ds d
