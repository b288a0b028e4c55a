-- Trees whose constants can be told, and are in each later store the same.
use Rattle.std.specs.Prelude.{◌≡◌, ℕ, Bool, false, is_some}
use Rattle.hare_types.specs.Store.{Store}
use Rattle.hare_types.specs.Sound.{IsStore}
use Rattle.hare_types.specs.Later.{IsLater}
use Rattle.hare_typed.specs.Typed.{TypedNode, TypedNodes}
use Rattle.hare_typed.specs.Constancy.{first_inconstant, first_inconstant_of}
use Rattle.hare_typed.specs.Folded.{tagged_by_id, folded, inconstant}
use Rattle.hare_typed.specs.Coherent.{IsCoherent}
use Rattle.hare_typed.specs.Settled.{IsSettled, AreSettled}
use Rattle.hare_const.specs.NodeValues.{tree_value, cells_in}

-- ---- what is found of them

-- it is settled, and so much is said of whether a node in it is of no constant kind
pub record IsFound (s : Store) (t : TypedNode) (found : Bool) : Type 0 where
  pub settled : IsSettled s t
  pub refused : found ≡ is_some (first_inconstant s (λ u. false) t)

pub record AreFound (s : Store) (ts : TypedNodes) (found : Bool) : Type 0 where
  pub settled : AreSettled s ts
  pub refused : found ≡ is_some (first_inconstant_of s (λ u. false) ts)

-- ---- later stores

-- a tree is as settled in the later store, with the same value, the same first node that is no constant, and the same cells
pub record KeepsConstant (now later : Store) (own : ℕ) (t : TypedNode) : Type 0 where
  pub settled : IsSettled later t
  pub value : tree_value (tagged_by_id later) own t ≡ tree_value (tagged_by_id now) own t
  pub inconstant : inconstant later own t ≡ inconstant now own t
  pub cells : cells_in (folded later own t) ≡ cells_in (folded now own t)

abbrev pub ConstantsStay : Type 0
ConstantsStay =
    (now later : Store) → IsStore now → IsLater now later → (own : ℕ) (t : TypedNode) → IsSettled now t → IsCoherent now own t →
    KeepsConstant now later own t
