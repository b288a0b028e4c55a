-- Trees of which is told what judges are told of kids stay as they are.
use Rattle.std.proofs.Common.{◌≡◌, ℕ, ◌+◌, List, [], ◌∷◌, ◌++◌, map, take, Some, ap, sym, ◌∙◌}
use Rattle.std.specs.Prelude.{slice_get}
use Rattle.std.proofs.lemmas.List.{map_push}
use Rattle.hare_tree.specs.Node.{Head, Node, branch, nodes_of}
use Rattle.hare_typed.specs.Typed.{TypedNode, typed_nodes}
use Rattle.hare_typed.specs.Erased.{erase, erase_each}
use Rattle.hare_typed.proofs.KidLemmas.{nodes_of-map_erase, take-get}

-- a tree is what it has been, once its text is copied and its kids are told of
pub tree-erases : (h : Head) (x : List ℕ) (xs : List TypedNode) (us : List Node) (t : Node) → branch h (nodes_of us) ≡ t → x ≡ h.text →
    map erase xs ≡ us → branch (record h { text = x }) (erase_each (typed_nodes xs)) ≡ t
tree-erases h x xs us t v k e =
    ap (λ y. branch (record h { text = y }) (erase_each (typed_nodes xs))) k
    ∙ ap (branch h) (sym (nodes_of-map_erase xs) ∙ ap nodes_of e) ∙ v

-- one more kid
pub erased-push : (ts : List Node) (xs ys : List TypedNode) (i : ℕ) (k : Node) (x y : TypedNode) → slice_get ts i ≡ Some k →
    map erase xs ≡ take i ts → erase x ≡ k → erase y ≡ erase x → ys ≡ xs ++ y ∷ [] → map erase ys ≡ take (i + 1) ts
erased-push ts xs ys i k x y g h e f l =
    let a : map erase xs ++ erase y ∷ [] ≡ take i ts ++ k ∷ [] = cc in
    ap (map erase) l ∙ map_push erase xs y ∙ a ∙ sym (take-get ts i k g)
