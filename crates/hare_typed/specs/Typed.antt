-- What contracts see of a typed tree: what the untyped tree says of each node, what checking found of it, and its kids, without addresses.
use Rattle.std.specs.Prelude.{◌≡◌, ℕ, ◌+◌, ◌≤◌, suc, List, [], ◌∷◌, refl}
use Rattle.std.specs.Coded.{Coded}
use Rattle.std.proofs.Common.{arith}
use base.Stored.{Gv, gnil, gcons}
use denote.Param.Weighed.{most}
use Rattle.hare_tree.specs.declared.token.Meaning.{Meaning}
use Rattle.hare_tree.specs.Node.{Head}
use Rattle.hare_types.specs.declared.coercion.Ty.{Ty}
use Rattle.hare_types.specs.declared.coercion.Coercion.{Coercion}
use Rattle.hare_typed.specs.declared.constant.Const.{Const}

-- what checking found of a node
pub record Mark : Type 0 where
  pub node : ℕ  -- its number
  pub ty : Ty  -- the type of what it gives, before its coercion
  pub coerce : Coercion  -- what becomes of that at its site
  pub meaning : Meaning  -- what a path means
  pub value : Const  -- its constant

mutual
  pub data TypedNode : Type 0 where
    marked : Head → Mark → TypedNodes → TypedNode

  pub data TypedNodes : Type 0 where
    typed_none : TypedNodes
    typed_more : TypedNode → TypedNodes → TypedNodes

abbrev pub head_of : TypedNode → Head
head_of (marked h m ts) = h

abbrev pub mark_of : TypedNode → Mark
mark_of (marked h m ts) = m

abbrev pub kids_of : TypedNode → TypedNodes
kids_of (marked h m ts) = ts

-- a list of trees as the kids of one, and back
abbrev pub typed_nodes : List TypedNode → TypedNodes
typed_nodes [] = typed_none
typed_nodes (t ∷ ts) = typed_more t (typed_nodes ts)

abbrev pub listed_nodes : TypedNodes → List TypedNode
listed_nodes typed_none = []
listed_nodes (typed_more t ts) = t ∷ listed_nodes ts

abbrev mutual
  pub size_of : TypedNode → ℕ
  size_of (marked h m ts) = suc (sizes_of ts)

  pub sizes_of : TypedNodes → ℕ
  sizes_of typed_none = 0
  sizes_of (typed_more t ts) = suc (size_of t) + sizes_of ts

pub most_le-sizes_of : (ts : List TypedNode) → most (λ t. size_of t + 1) ts ≤ sizes_of (typed_nodes ts)
most_le-sizes_of [] = omega arith
most_le-sizes_of (t ∷ ts) = omega (arith, most_le-sizes_of ts)

-- ---- codes, by which the checker compares trees

module _ (hc : Coded Head) (mc : Coded Mark) where
  abbrev mutual
    pub code_of : TypedNode → Gv
    code_of (marked h m ts) = gcons (hc.code h) (gcons (mc.code m) (codes_of ts))

    pub codes_of : TypedNodes → Gv
    codes_of typed_none = gnil
    codes_of (typed_more t ts) = gcons (code_of t) (codes_of ts)

  mutual
    pub code_inj : (x y : TypedNode) → code_of x ≡ code_of y → x ≡ y
    code_inj (marked h m ts) (marked h' m' ts') e =
        let a : hc.code h ≡ hc.code h' = cc in
        let b : mc.code m ≡ mc.code m' = cc in
        let c : codes_of ts ≡ codes_of ts' = cc in
        let a' = hc.inj h h' a in
        let b' = mc.inj m m' b in
        let c' = codes_inj ts ts' c in
        cc

    pub codes_inj : (x y : TypedNodes) → codes_of x ≡ codes_of y → x ≡ y
    codes_inj typed_none typed_none e = refl
    codes_inj typed_none (typed_more t ts) e = cc
    codes_inj (typed_more t ts) typed_none e = cc
    codes_inj (typed_more t ts) (typed_more t' ts') e =
        let a : code_of t ≡ code_of t' = cc in
        let b : codes_of ts ≡ codes_of ts' = cc in
        let a' = code_inj t t' a in
        let b' = codes_inj ts ts' b in
        cc

  abbrev pub typed_code : Coded TypedNode
  typed_code = record { code = code_of; inj = code_inj }
