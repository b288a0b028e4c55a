-- What contracts see of a tree: its head and its kids, without addresses.
use Rattle.std.specs.Prelude.{◌≡◌, ℕ, ◌+◌, ◌≤◌, suc, List, [], ◌∷◌, refl}
use Rattle.std.specs.Coded.{Coded}
use Rattle.std.proofs.Common.{arith}
use base.Stored.{Gv, gnil, gcons}
use denote.Param.Weighed.{most}
use Rattle.hare_tree.specs.declared.kind.Kind.{Kind}
use Rattle.hare_tree.specs.declared.place.Place.{Place}
use Rattle.hare_tree.specs.declared.token.Suffix.{Suffix}

-- all of a tree but its kids
pub record Head : Type 0 where
  pub kind : Kind
  pub place : Place
  pub text : List ℕ
  pub number : ℕ
  pub suffix : Suffix

mutual
  pub data Node : Type 0 where
    branch : Head → Nodes → Node

  pub data Nodes : Type 0 where
    none : Nodes
    more : Node → Nodes → Nodes

abbrev pub head : Node → Head
head (branch h ts) = h

abbrev pub kids_of : Node → Nodes
kids_of (branch h ts) = ts

-- a list of trees as the kids of one
abbrev pub nodes_of : List Node → Nodes
nodes_of [] = none
nodes_of (t ∷ ts) = more t (nodes_of ts)

abbrev mutual
  pub size_of : Node → ℕ
  size_of (branch h ts) = suc (sizes_of ts)

  pub sizes_of : Nodes → ℕ
  sizes_of none = 0
  sizes_of (more t ts) = suc (size_of t) + sizes_of ts

pub most_le-sizes_of : (ts : List Node) → most (λ t. size_of t + 1) ts ≤ sizes_of (nodes_of ts)
most_le-sizes_of [] = omega arith
most_le-sizes_of (t ∷ ts) = omega (arith, most_le-sizes_of ts)

-- ---- codes, by which the checker compares trees

module _ (hc : Coded Head) where
  abbrev mutual
    pub code_of : Node → Gv
    code_of (branch h ts) = gcons (hc.code h) (codes_of ts)

    pub codes_of : Nodes → Gv
    codes_of none = gnil
    codes_of (more t ts) = gcons (code_of t) (codes_of ts)

  mutual
    pub code_inj : (x y : Node) → code_of x ≡ code_of y → x ≡ y
    code_inj (branch h ts) (branch h' ts') e =
        let a : hc.code h ≡ hc.code h' = cc in
        let b : codes_of ts ≡ codes_of ts' = cc in
        let a' = hc.inj h h' a in
        let b' = codes_inj ts ts' b in
        cc

    pub codes_inj : (x y : Nodes) → codes_of x ≡ codes_of y → x ≡ y
    codes_inj none none e = refl
    codes_inj none (more t ts) e = cc
    codes_inj (more t ts) none e = cc
    codes_inj (more t ts) (more t' ts') e =
        let a : code_of t ≡ code_of t' = cc in
        let b : codes_of ts ≡ codes_of ts' = cc in
        let a' = code_inj t t' a in
        let b' = codes_inj ts ts' b in
        cc

  abbrev pub node_code : Coded Node
  node_code = record { code = code_of; inj = code_inj }
