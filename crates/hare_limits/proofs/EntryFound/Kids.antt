-- Kids of typed trees, and of the untyped ones that they come from.
use Rattle.std.proofs.Common.{◌≡◌, ℕ, ◌≤◌, List, length, map, Some, ap, ◌∙◌, arith}
use Rattle.std.specs.Prelude.{slice_get, option_map}
use Rattle.std.proofs.lemmas.List.{length-map}
use Rattle.std.proofs.lemmas.Option.{slice_get-map}
use Rattle.hare_tree.specs.Node.{Head, branch, nodes_of}
use Rattle.hare_typed.specs.Typed.{TypedNode, Mark, marked, typed_nodes}
use Rattle.hare_typed.specs.Erased.{erase}
use Rattle.hare_typed.proofs.KidLemmas.{nodes_of-map_erase}
use Rattle.hare_modules.specs.Uses.{kid, kids}
use Rattle.hare_modules.proofs.Trees.{kid-there, kid-past, kids-seen}

-- the untyped tree, by its kids
seen : (h : Head) (m : Mark) (ks : List TypedNode) (t : TypedNode) → marked h m (typed_nodes ks) ≡ t
    → branch h (nodes_of (map erase ks)) ≡ erase t
seen h m ks t v = ap (branch h) (nodes_of-map_erase ks) ∙ ap erase v

pub erased-there : (ks : List TypedNode) (i : ℕ) (k : TypedNode) → slice_get ks i ≡ Some k → slice_get (map erase ks) i ≡ Some (erase k)
erased-there ks i k g = slice_get-map erase ks i ∙ ap (option_map erase) g

pub kid-get : (h : Head) (m : Mark) (ks : List TypedNode) (t k : TypedNode) (i : ℕ) → marked h m (typed_nodes ks) ≡ t
    → slice_get ks i ≡ Some k → erase k ≡ kid (erase t) i
kid-get h m ks t k i v g = kid-there h (map erase ks) (erase t) (erase k) i (seen h m ks t v) (erased-there ks i k g)

pub kid-none : (h : Head) (m : Mark) (ks : List TypedNode) (t : TypedNode) (i : ℕ) → marked h m (typed_nodes ks) ≡ t → length ks ≤ i
    → erase t ≡ kid (erase t) i
kid-none h m ks t i v l =
    let few : length (map erase ks) ≤ i = omega (arith, length-map ks erase) in
    kid-past h (map erase ks) (erase t) i (seen h m ks t v) few

pub kids-erased : (h : Head) (m : Mark) (ks : List TypedNode) (t : TypedNode) → marked h m (typed_nodes ks) ≡ t
    → kids (erase t) ≡ map erase ks
kids-erased h m ks t v = kids-seen h (map erase ks) (erase t) (seen h m ks t v)
