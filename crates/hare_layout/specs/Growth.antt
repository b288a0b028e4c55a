-- What is said of types stays in later stores.
use Rattle.std.specs.Prelude.{◌≡◌, ◌↔◌, ℕ, true, length, IsSome}
use Rattle.hare_tree.specs.declared.place.Place.{Place}
use Rattle.hare_tree.specs.declared.place.Fault.{Fault}
use Rattle.hare_types.specs.declared.extent.Extent.{Extent}
use Rattle.hare_types.specs.Trees.{Tree}
use Rattle.hare_types.specs.Rows.{IsWithin}
use Rattle.hare_types.specs.Store.{Store, meaning_of}
use Rattle.hare_types.specs.Sound.{IsStore}
use Rattle.hare_types.specs.Later.{IsLater}
use Rattle.hare_types.specs.ByValue.{has_size, HoldsByValue}
use Rattle.hare_types.specs.Kept.{LiesIn}
use Rattle.hare_types.specs.Layout.{IsBase}
use Rattle.hare_layout.specs.declared.spelled.Spelled.{Spelled}
use Rattle.hare_layout.specs.Small.{IsSmall}
use Rattle.hare_layout.specs.Offsets.{HasField, StartsAt}
use Rattle.hare_layout.specs.Members.{IsUnion, HoldsMembers}
use Rattle.hare_layout.specs.Reduction.{IsMember, is_spread, IsReducedTo}
use Rattle.hare_layout.specs.Admission.{IsMeasured, IsFault, IsAdmitted}

-- ---- layout

-- what a store says of where bytes lie, and of the members of unions, a later one says too
pub record KeepsLayout (now later : Store) : Type 0 where
  pub small : (t : ℕ) → IsSmall now t → IsSmall later t
  pub extent : (t : ℕ) (x : Extent) → LiesIn now t x → LiesIn later t x
  pub field : (t k : ℕ) → HasField now t k → HasField later t k
  pub start : (t k o : ℕ) → StartsAt now t k o → StartsAt later t k o
  pub union : (t : ℕ) → IsUnion now t → IsUnion later t
  pub members : (a b : ℕ) → HoldsMembers now a b → HoldsMembers later a b

abbrev pub LayoutStays : Type 0
LayoutStays = (now later : Store) → IsLater now later → KeepsLayout now later

-- ---- spelled types

-- What is asked of a spelled type is known: what the members that are spread come to, whether what has to have a size has one, and what
-- each name that the reduced type holds by value is defined to be.
pub record IsDecided (s : Store) (r : Spelled) : Type 0 where
  pub spreads : (k : ℕ) (t : Tree) → IsMember s r k t → is_spread r k ≡ true → (b : Tree) × IsBase s t b
  pub sized : (u : Tree) → IsMeasured s r u → IsSome (has_size s u)
  pub whole : (u : Tree) (d : ℕ) → IsReducedTo s r u → HoldsByValue s u d → IsSome (meaning_of s d)

-- what the type is reduced to, its fault, and that it has none, are over both stores the same
pub record IsOneJudgement (now later : Store) (r : Spelled) (place : Place) : Type 0 where
  pub reduced : (u : Tree) → IsReducedTo now r u ↔ IsReducedTo later r u
  pub fault : (f : Fault) → IsFault now r place f ↔ IsFault later r place f
  pub admitted : IsAdmitted now r place ↔ IsAdmitted later r place

-- a judgement that is given over a store is that over every later one
abbrev pub JudgementsStay : Type 0
JudgementsStay =
    (now later : Store) → IsStore now → IsLater now later → (r : Spelled) (place : Place) → IsWithin (length now.rows) r.row →
    IsDecided now r → IsOneJudgement now later r place
