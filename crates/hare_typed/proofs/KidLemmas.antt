-- What stands in a tree, kid by kid.
use Rattle.std.proofs.Common.{◌≡◌, ℕ, zero, suc, ◌+◌, ◌<◌, List, [], ◌∷◌, ◌++◌, map, take, Some, refl, ap, ◌∙◌, sym, arith, add-one}
use Rattle.std.specs.Prelude.{slice_get}
use Rattle.std.proofs.lemmas.List.{map_push}
use Rattle.hare_tree.specs.Node.{Head, Node, branch, more, nodes_of}
use Rattle.hare_typed.specs.Typed.{TypedNode, Mark, marked, typed_nodes, size_of, sizes_of}
use Rattle.hare_typed.specs.Erased.{erase, erase_each}

-- a kid is smaller than the kids
pub kid_size : (ts : List TypedNode) (i : ℕ) (x : TypedNode) → slice_get ts i ≡ Some x → size_of x < sizes_of (typed_nodes ts)
kid_size [] i x e = cc
kid_size (t ∷ ts) zero x e = let h : t ≡ x = cc in rw (← h) (omega arith)
kid_size (t ∷ ts) (suc i) x e = omega (arith, kid_size ts i x e)

-- the first so many and the one behind them
take-suc-get : {A : Type 0} (ts : List A) (i : ℕ) (x : A) → slice_get ts i ≡ Some x → take (suc i) ts ≡ take i ts ++ x ∷ []
take-suc-get [] i x e = cc
take-suc-get (t ∷ ts) zero x e = let h : t ≡ x = cc in ap (λ y. y ∷ []) h
take-suc-get (t ∷ ts) (suc i) x e = ap (λ ys. t ∷ ys) (take-suc-get ts i x e)

pub take-get : {A : Type 0} (ts : List A) (i : ℕ) (x : A) → slice_get ts i ≡ Some x → take (i + 1) ts ≡ take i ts ++ x ∷ []
take-get ts i x e = rw add-one (take-suc-get ts i x e)

-- ---- erased

-- the kids are erased one by one
pub nodes_of-map_erase : (ts : List TypedNode) → nodes_of (map erase ts) ≡ erase_each (typed_nodes ts)
nodes_of-map_erase [] = refl
nodes_of-map_erase (t ∷ ts) = ap (λ us. more (erase t) us) (nodes_of-map_erase ts)

-- a tree is erased once its text is copied and its kids are erased
pub branch-map_erase : (h : Head) (m : Mark) (x : List ℕ) (ts : List TypedNode) (t : TypedNode) (us : List Node) →
    marked h m (typed_nodes ts) ≡ t → x ≡ h.text → us ≡ map erase ts → branch (record h { text = x }) (nodes_of us) ≡ erase t
branch-map_erase h m x ts t us v k e =
    ap (λ y. branch (record h { text = y }) (nodes_of us)) k ∙ ap (λ xs. branch h (nodes_of xs)) e ∙ ap (branch h) (nodes_of-map_erase ts) ∙
    ap erase v

-- one more kid is erased
pub map_erase-push : (ts : List TypedNode) (us vs : List Node) (i : ℕ) (x : TypedNode) (u : Node) → slice_get ts i ≡ Some x →
    us ≡ map erase (take i ts) → u ≡ erase x → vs ≡ us ++ u ∷ [] → vs ≡ map erase (take (i + 1) ts)
map_erase-push ts us vs i x u e h k l =
    let a : us ++ u ∷ [] ≡ map erase (take i ts) ++ erase x ∷ [] = cc in
    l ∙ a ∙ sym (map_push erase (take i ts) x) ∙ sym (ap (map erase) (take-get ts i x e))
