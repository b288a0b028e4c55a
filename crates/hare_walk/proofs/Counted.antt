-- Trees and bindings that are counted.
use Rattle.std.proofs.Common.{◌≡◌, ℕ, zero, suc, ◌+◌, ◌≤◌, true, List, [], ◌∷◌, ◌++◌, map, take, drop, length, Some, Result, Ok, Err, refl, ap, sym, ◌∙◌, subst, arith, add-one, zero-add}
use Rattle.std.specs.Prelude.{slice_get, IfOk}
use Rattle.std.proofs.lemmas.List.{map-append}
use Rattle.hare_tree.specs.declared.kind.Kind.{Kind}
use Rattle.hare_tree.specs.declared.place.Fault.{Fault}
use Rattle.hare_tree.specs.declared.stop.Stop.{Stop}
use Rattle.hare_tree.specs.Node.{Head, Node, Nodes, nodes_of}
use Rattle.hare_types.specs.declared.coercion.Ty.{Ty}
use Rattle.hare_types.specs.Store.{Store}
use Rattle.hare_types.specs.Sound.{IsStore}
use Rattle.hare_types.proofs.LaterLemmas.{later_here}
use Rattle.hare_typed.specs.Typed.{TypedNode, Mark, marked, typed_nodes}
use Rattle.hare_typed.specs.Erased.{erase, erase_each}
use Rattle.hare_typed.specs.Bindings.{own_bindings, bindings_in, bindings_in_each}
use Rattle.hare_rules.specs.Context.{Setting}
use Rattle.hare_rules.specs.Above.{Above, trees_in, trees_in_each, trees_of, bindings_of, number_above}
use Rattle.hare_rules.specs.Flow.{Flow, context, flow_after}
use Rattle.hare_rules.specs.Finished.{bare}
use Rattle.hare_inference.specs.Inferred.{Reason, Found, mark_found, found, judged, with_type}
use Rattle.hare_inference.proofs.Bares.{erase-bare}
use Rattle.hare_walk.specs.declared.counts.Counts.{Counts}
use Rattle.hare_walk.specs.Counts.{is_labelled, IsBegun, IsAmong, IsBehind, IsAt}
use Rattle.hare_walk.specs.Walks.{IsOver, IsTurned}

-- ---- trees in some

trees-after : (ts : List Node) (i : ℕ) (t : Node) → slice_get ts i ≡ Some t →
    trees_in_each (nodes_of (drop i ts)) ≡ trees_in t + trees_in_each (nodes_of (drop (suc i) ts))
trees-after [] i t e = cc
trees-after (u ∷ us) zero t e = let same : u ≡ t = cc in ap (λ x. trees_in x + trees_in_each (nodes_of us)) same
trees-after (u ∷ us) (suc i) t e = trees-after us i t e

pub trees-next : (ts : List Node) (i : ℕ) (t : Node) → slice_get ts i ≡ Some t →
    trees_in_each (nodes_of (drop i ts)) ≡ trees_in t + trees_in_each (nodes_of (drop (i + 1) ts))
trees-next ts i t e = rw add-one (trees-after ts i t e)

pub trees-none : (ts : List Node) (i : ℕ) → length ts ≤ i → trees_in_each (nodes_of (drop i ts)) ≡ 0
trees-none [] zero h = refl
trees-none [] (suc i) h = refl
trees-none (t ∷ ts) zero h = absurd (omega arith)
trees-none (t ∷ ts) (suc i) h = trees-none ts i (omega arith)

trees-split : (ts : List Node) (i : ℕ) → trees_in_each (nodes_of (take i ts)) + trees_in_each (nodes_of (drop i ts)) ≡
    trees_in_each (nodes_of ts)
trees-split [] zero = refl
trees-split [] (suc i) = refl
trees-split (t ∷ ts) zero = zero-add (trees_in_each (nodes_of (t ∷ ts)))
trees-split (t ∷ ts) (suc i) = let k = trees-split ts i in omega (arith, k)

trees-erased : (xs : List TypedNode) → trees_of (map bare xs) ≡ trees_in_each (nodes_of (map erase xs))
trees-erased [] = refl
trees-erased (x ∷ xs) = rw (sym (erase-bare x), trees-erased xs) refl

-- the number of the node is the same at each of its kids
number-at : (a : Above) (xs : List TypedNode) (ts : List Node) (i : ℕ) (t : Node) → length xs ≡ i → map erase xs ≡ take i ts →
    slice_get ts i ≡ Some t →
    number_above a (map bare xs) t (nodes_of (drop (length xs + 1) ts)) ≡ a.begins + trees_in_each (nodes_of ts)
number-at a xs ts i t n e g =
    let p = trees-erased xs ∙ ap (λ us. trees_in_each (nodes_of us)) e in
    let q = trees-split ts i in
    let r = trees-next ts i t g in
    let s : trees_in_each (nodes_of (drop (length xs + 1) ts)) ≡ trees_in_each (nodes_of (drop (i + 1) ts)) =
    ap (λ k. trees_in_each (nodes_of (drop (k + 1) ts))) n in
    omega (arith, p, q, r, s)

-- ---- kids

pub at-kid : (a b : Above) (h : Head) (k : Kind) (xs : List TypedNode) (ts : List Node) (i : ℕ) (t : Node) (c d : Counts) (n : ℕ) → b ≡ a →
    h.kind ≡ k → length xs ≡ i → map erase xs ≡ take i ts → slice_get ts i ≡ Some t → IsAmong a h [] d → IsAmong a h (map bare xs) c →
    (is_labelled k ≡ true → n ≡ d.nodes + trees_in_each (nodes_of ts)) →
    IsAt b h (map bare xs) t (nodes_of (drop (length xs + 1) ts)) (record { begins = c.nodes; first = c.bindings; number = n })
at-kid a b h k xs ts i t c d n m j l e g y z o =
    subst (λ (x : Above). IsAt x h (map bare xs) t (nodes_of (drop (length xs + 1) ts))
    (record { begins = c.nodes; first = c.bindings; number = n }))
    (sym m)
    (record {
      begins = z.nodes;
      first = z.bindings;
      number = λ q.
          let u = o (sym (ap is_labelled j) ∙ q) in
          let v = number-at a xs ts i t l e g in
          let w = y.nodes in
          omega (arith, u, v, w);
    })

pub begun-kid : (w v : Store → Setting) (s : Store) (a b o : Above) (h : Head) (xs : List TypedNode) (t : Node) (rest : Nodes)
    (c : Counts) → b ≡ a →
    IsStore s → IsOver w s b h xs t rest o → IsAmong a h (map bare xs) c → IsBegun o c
begun-kid w v s a b o h xs t rest c m i over k =
    let e = over s (later_here s i) in
    record {
      nodes = k.nodes ∙ ap (λ (x : Above). x.begins + trees_of (map bare xs)) (sym m) ∙ sym (ap (λ (x : Above). x.begins) e);
      bindings = k.bindings ∙ ap (λ (x : Above). x.first + own_bindings h.kind + bindings_of (map bare xs)) (sym m) ∙ sym
          (ap (λ (x : Above). x.first) e);
    }

trees-append : (xs : List TypedNode) (x : TypedNode) → trees_of (xs ++ x ∷ []) ≡ trees_of xs + trees_in (erase x)
trees-append [] x = omega arith
trees-append (y ∷ ys) x = omega (arith, trees-append ys x)

bindings-append : (xs : List TypedNode) (x : TypedNode) → bindings_of (xs ++ x ∷ []) ≡ bindings_of xs + bindings_in x
bindings-append [] x = omega arith
bindings-append (y ∷ ys) x = omega (arith, bindings-append ys x)

pub among-more : (a : Above) (h : Head) (xs ys : List TypedNode) (x : TypedNode) (c d : Counts) → IsAmong a h (map bare xs) c →
    IsBehind c (bare x) d →
    ys ≡ xs ++ x ∷ [] → IsAmong a h (map bare ys) d
among-more a h xs ys x c d k b e =
    let p : map bare ys ≡ map bare xs ++ bare x ∷ [] = ap (map bare) e ∙ map-append bare xs (x ∷ []) in
    let t = ap trees_of p ∙ trees-append (map bare xs) (bare x) in
    let u = ap bindings_of p ∙ bindings-append (map bare xs) (bare x) in
    record { nodes = omega (arith, k.nodes, b.nodes, t); bindings = omega (arith, k.bindings, b.bindings, u) }

-- ---- a node's turn

trees-listed : (xs : List TypedNode) → trees_in_each (erase_each (typed_nodes xs)) ≡ trees_of xs
trees-listed [] = refl
trees-listed (x ∷ xs) = rw (trees-listed xs) refl

bindings-listed : (xs : List TypedNode) → bindings_in_each (typed_nodes xs) ≡ bindings_of xs
bindings-listed [] = refl
bindings-listed (x ∷ xs) = rw (bindings-listed xs) refl

turned-tree : (w : Setting) (a : Above) (h : Head) (xs : List TypedNode) (f g : Flow) (j : Result Ty Reason) (y : TypedNode) →
    with_type w a h xs f j ≡ Ok (found y g) → (m : Mark) × (marked h m (typed_nodes xs) ≡ y)
turned-tree w a h xs f g (Err r) y e = cc
turned-tree w a h xs f g (Ok t) y e =
    let m = mark_found (context w a h xs f) t in
    let same : found (marked h m (typed_nodes xs)) (flow_after w a h xs f) ≡ found y g = cc in
    (m, ap (λ (x : Found). x.tree) same)

behind-tree : (a : Above) (h : Head) (m : Mark) (xs : List TypedNode) (b c d : Counts) → IsBegun a b → IsAmong a h xs c →
    d.nodes ≡ c.nodes + 1 →
    d.bindings ≡ c.bindings → IsBehind b (marked h m (typed_nodes xs)) d
behind-tree a h m xs b c d i k n e =
    let t = trees-listed xs in
    let u = bindings-listed xs in
    record { nodes = omega (arith, i.nodes, k.nodes, n, t); bindings = omega (arith, i.bindings, k.bindings, e, u) }

pub behind-turn : (v : Store → Setting) (r : Store) (a o : Above) (h : Head) (xs : List TypedNode) (f g : Flow)
    (q : Result TypedNode (Stop Fault))
    (b c d : Counts) → o ≡ a → IfOk q (λ x. IsTurned v r o h xs f x g) → IsStore r → IsBegun a b → IsAmong a h (map bare xs) c →
    d.nodes ≡ c.nodes + 1 →
    d.bindings ≡ c.bindings → IfOk q (λ x. IsBehind b (bare x) d)
behind-turn v r a o h xs f g (Err e) b c d m t s i k n p = tt
behind-turn v r a o h xs f g (Ok x) b c d m t s i k n p =
    let e = t r (later_here r s) in
    let y = turned-tree (v r) o h (map bare xs) f g (judged (context (v r) o h (map bare xs) f)) (bare x) e in
    subst (λ (z : TypedNode). IsBehind b z d) y.1 (behind-tree a h y.0 (map bare xs) b c d i k n p)
