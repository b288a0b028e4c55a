-- Where the fields of a type begin.
use Rattle.std.specs.Prelude.{◌≡◌, ◌↔◌, ℕ, suc, ◌<◌, List, Some}
use Rattle.hare_types.specs.declared.extent.Extent.{Extent}
use Rattle.hare_types.specs.Trees.{Tree, Trees, Struct, Tuple, Union, none, more}
use Rattle.hare_types.specs.Store.{Store, tree_at}
use Rattle.hare_types.specs.Layout.{IsBase, HaveExtents, field_start, payload_start}
use Rattle.hare_types.specs.Sound.{IsStore}
use Rattle.hare_types.specs.ByIds.{offset_at, payload_at}

-- these are the types of a struct's fields, or a tuple's components, in order
abbrev pub HoldsFields : Tree → Trees → Type 0
HoldsFields (Struct ns ts) us = ts ≡ us
HoldsFields (Tuple ts) us = ts ≡ us
HoldsFields _ us = ⊥

abbrev pub count : Trees → ℕ
count none = 0
count (more t ts) = suc (count ts)

-- the type with this id, names and error marks followed, is a struct or tuple with a field k, counted from 0
abbrev pub HasField : Store → ℕ → ℕ → Type 0
HasField s t k = (u : Tree) × (b : Tree) × (ts : Trees) × (tree_at s t ≡ Some u) × IsBase s u b × HoldsFields b ts × (k < count ts)

-- Field k of the type with this id, names and error marks followed, begins so many bytes behind the first.
abbrev pub StartsAt : Store → ℕ → ℕ → ℕ → Type 0
StartsAt s t k o =
    (u : Tree) × (b : Tree) × (ts : Trees) × (xs : List Extent) × (tree_at s t ≡ Some u) × IsBase s u b × HoldsFields b ts ×
    HaveExtents s ts xs × (field_start 0 xs k ≡ Some o)

-- The payload of the union that is the base of the type with this id begins so many bytes behind the first.
abbrev pub PayloadStartsAt : Store → ℕ → ℕ → Type 0
PayloadStartsAt s t o = (u : Tree) × (ts : Trees) × (xs : List Extent) × (tree_at s t ≡ Some u) × IsBase s u (Union ts) ×
    HaveExtents s ts xs × (payload_start xs ≡ o)

-- offsets by ids are those of the trees for which the ids stand
pub record OffsetsMean (s : Store) : Type 0 where
  pub field : (t k o : ℕ) → (offset_at s t k ≡ Some o) ↔ StartsAt s t k o
  pub payload : (t o : ℕ) → (payload_at s t ≡ Some o) ↔ PayloadStartsAt s t o

abbrev pub OffsetsMeanTrees : Type 0
OffsetsMeanTrees = (s : Store) → IsStore s → OffsetsMean s
