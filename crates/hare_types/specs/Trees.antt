-- Types as finite trees. A tree is cut at names: a name stands for itself, whatever it is defined to be.
use Rattle.std.specs.Prelude.{◌≡◌, ℕ, List, [], ◌∷◌, ◌⊎◌}
use Rattle.hare_types.specs.declared.row.Scalar.{Scalar as Keyword}

mutual
  pub data Tree : Type 0 where
    Scalar : Keyword → Tree
    Pointer : Tree → Tree
    Nullable : Tree → Tree
    Slice : Tree → Tree
    Array : ℕ → Tree → Tree
    Struct : List ℕ → Trees → Tree  -- the numbers of the fields' names, and their types
    Tuple : Trees → Tree
    Union : Trees → Tree
    Error : Tree → Tree
    Named : ℕ → Tree

  pub data Trees : Type 0 where
    none : Trees
    more : Tree → Trees → Trees

abbrev pub trees_of : List Tree → Trees
trees_of [] = none
trees_of (t ∷ ts) = more t (trees_of ts)

-- P holds of one of these
abbrev pub SomeTree : (Tree → Type 0) → Trees → Type 0
SomeTree P none = ⊥
SomeTree P (more t ts) = P t ⊎ SomeTree P ts

-- P holds of each of these
abbrev pub EachTree : (Tree → Type 0) → Trees → Type 0
EachTree P none = Unit {0}
EachTree P (more t ts) = P t × EachTree P ts

-- ---- when two trees are one type

abbrev mutual
  -- the trees are equal, where a union is the set of its members
  pub Same : Tree → Tree → Type 0
  Same (Scalar a) (Scalar b) = a ≡ b
  Same (Pointer t) (Pointer u) = Same t u
  Same (Nullable t) (Nullable u) = Same t u
  Same (Slice t) (Slice u) = Same t u
  Same (Array m t) (Array n u) = (m ≡ n) × Same t u
  Same (Struct ms ts) (Struct ns us) = (ms ≡ ns) × SameEach ts us
  Same (Tuple ts) (Tuple us) = SameEach ts us
  Same (Union ts) (Union us) = AllAmong ts us × EachTree (IsAmong ts) us
  Same (Error t) (Error u) = Same t u
  Same (Named d) (Named e) = d ≡ e
  Same _ _ = ⊥

  -- the trees are as many, and equal at each place
  pub SameEach : Trees → Trees → Type 0
  SameEach none none = Unit {0}
  SameEach (more t ts) (more u us) = Same t u × SameEach ts us
  SameEach _ _ = ⊥

  -- each of the first is one of the second
  pub AllAmong : Trees → Trees → Type 0
  AllAmong none us = Unit {0}
  AllAmong (more t ts) us = SomeTree (λ u. Same t u) us × AllAmong ts us

  -- u is one of these
  pub IsAmong : Trees → Tree → Type 0
  IsAmong none u = ⊥
  IsAmong (more t ts) u = Same t u ⊎ IsAmong ts u
