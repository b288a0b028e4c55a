-- Written types without numbers: all else of them stays.
use Rattle.std.proofs.Common.{◌≡◌, ℕ, ◌+◌, List, [], ◌∷◌, ◌++◌, map, take, Some, refl, sym, ap, ◌∙◌}
use Rattle.std.specs.Prelude.{slice_get}
use Rattle.std.proofs.lemmas.List.{map_push}
use Rattle.hare_tree.specs.Node.{Head, branch, more}
use Rattle.hare_typed.specs.declared.constant.Const.{Const}
use Rattle.hare_typed.specs.Typed.{TypedNode, TypedNodes, Mark, marked, typed_none, typed_more, typed_nodes}
use Rattle.hare_typed.specs.Erased.{erase, erase_each}
use Rattle.hare_typed.specs.Numbers.{kind_of}
use Rattle.hare_typed.proofs.KidLemmas.{take-get}
use Rattle.hare_rules.specs.Context.{own_type}
use Rattle.hare_whole.specs.Declared.{unnumbered, unnumbered_each}
use Rattle.hare_whole.specs.Parts.{written_id}

-- ---- what stays

mutual
  pub erase-unnumbered : (t : TypedNode) → erase (unnumbered t) ≡ erase t
  erase-unnumbered (marked h m ts) = ap (branch h) (erase_each-unnumbered ts)

  pub erase_each-unnumbered : (ts : TypedNodes) → erase_each (unnumbered_each ts) ≡ erase_each ts
  erase_each-unnumbered typed_none = refl
  erase_each-unnumbered (typed_more t ts) =
      ap (λ u. more u (erase_each (unnumbered_each ts))) (erase-unnumbered t) ∙ ap (more (erase t)) (erase_each-unnumbered ts)

pub kind_of-unnumbered : (t : TypedNode) → kind_of (unnumbered t) ≡ kind_of t
kind_of-unnumbered (marked h m ts) = refl

pub own_type-unnumbered : (t : TypedNode) → own_type (unnumbered t) ≡ own_type t
own_type-unnumbered (marked h m ts) = refl

pub written_id-unnumbered : (t : TypedNode) → written_id (unnumbered t) ≡ written_id t
written_id-unnumbered (marked h m ts) = refl

-- ---- copies

-- the kids are copied one by one
pub nodes-map_unnumbered : (ts : List TypedNode) → typed_nodes (map unnumbered ts) ≡ unnumbered_each (typed_nodes ts)
nodes-map_unnumbered [] = refl
nodes-map_unnumbered (t ∷ ts) = ap (typed_more (unnumbered t)) (nodes-map_unnumbered ts)

-- a tree is copied once its text, its constant and its kids are
pub marked-map_unnumbered : (h : Head) (m : Mark) (x : List ℕ) (c : Const) (ts us : List TypedNode) (t : TypedNode) →
    marked h m (typed_nodes ts) ≡ t → x ≡ h.text → c ≡ m.value → us ≡ map unnumbered ts →
    marked (record h { text = x }) (record m { node = 0; value = c }) (typed_nodes us) ≡ unnumbered t
marked-map_unnumbered h m x c ts us t v k q e =
    ap (λ y. marked (record h { text = y }) (record m { node = 0; value = c }) (typed_nodes us)) k
    ∙ ap (λ y. marked h (record m { node = 0; value = y }) (typed_nodes us)) q
    ∙ ap (λ xs. marked h (record m { node = 0 }) (typed_nodes xs)) e
    ∙ ap (marked h (record m { node = 0 })) (nodes-map_unnumbered ts)
    ∙ ap unnumbered v

-- one more kid is copied
pub map_unnumbered-push : (ts us vs : List TypedNode) (i : ℕ) (t x : TypedNode) → slice_get ts i ≡ Some t →
    us ≡ map unnumbered (take i ts) →
    x ≡ unnumbered t → vs ≡ us ++ x ∷ [] → vs ≡ map unnumbered (take (i + 1) ts)
map_unnumbered-push ts us vs i t x e h k l =
    let a : us ++ x ∷ [] ≡ map unnumbered (take i ts) ++ unnumbered t ∷ [] = cc in
    l ∙ a ∙ sym (map_push unnumbered (take i ts) t) ∙ sym (ap (map unnumbered) (take-get ts i t e))
