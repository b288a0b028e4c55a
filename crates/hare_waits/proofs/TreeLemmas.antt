-- What is kept of the nodes of a tree, from what is kept of its kids.
use Rattle.std.proofs.Common.{◌≡◌, ℕ, zero, suc, ◌+◌, ◌<◌, List, [], ◌∷◌, ◌++◌, length, take, Option, Some, refl, ap, sym, ◌∙◌, subst, arith, append_assoc, length-append}
use Rattle.std.specs.Prelude.{option_map, slice_get, Contains}
use Rattle.std.specs.List.{cons_option}
use Rattle.std.proofs.lemmas.List.{append-nil}
use Rattle.std.proofs.lemmas.List.Elements.{Contains-append_left, Contains-append_right}
use Rattle.std.proofs.lemmas.Option.{slice_get_within, get_or_from_slice_get}
use Rattle.std.proofs.lemmas.Grind.{flat_map-append}
use Rattle.hare_tree.specs.Node.{Head}
use Rattle.hare_types.specs.declared.coercion.Ty.TheVariants as ty
use Rattle.hare_types.specs.Store.{Store}
use Rattle.hare_typed.specs.Typed.{TypedNode, Mark, marked, typed_nodes, size_of, sizes_of}
use Rattle.hare_typed.specs.Order.{check_order, check_order_each}
use Rattle.hare_rules.specs.Context.{own_type}
use Rattle.hare_seen.specs.Sizes.{nodes_of_types}
use Rattle.hare_waits.specs.declared.waiting.Waiting.{Waiting}
use Rattle.hare_waits.specs.Nodes.{kept_of, unmeasured_as, unmeasured, AreIn}
use Rattle.hare_waits.proofs.ElementLemmas.{Contains-head, take-item}
use Rattle.hare_waits.proofs.NodeLemmas.{unmeasured-append}

-- a kid is smaller than its siblings together
pub kid_size : (ts : List TypedNode) (i : ℕ) (t : TypedNode) → slice_get ts i ≡ Some t → size_of t < sizes_of (typed_nodes ts)
kid_size [] i t e = absurd cc
kid_size (u ∷ ts) zero t e = let same : u ≡ t = cc in omega (arith, ap size_of same)
kid_size (u ∷ ts) (suc i) t e = omega (arith, kid_size ts i t e)

-- the nodes of some kids, as the kids of one tree have them
nodes_of_kids : (ts : List TypedNode) → check_order_each (typed_nodes ts) ≡ nodes_of_types ts
nodes_of_kids [] = refl
nodes_of_kids (t ∷ ts) = ap (λ ys. check_order t ++ ys) (nodes_of_kids ts)

nodes_of_kid : (ts : List TypedNode) (i : ℕ) (t y : TypedNode) → slice_get ts i ≡ Some t → Contains (check_order t) y →
    Contains (nodes_of_types ts) y
nodes_of_kid [] i t y e c = absurd cc
nodes_of_kid (u ∷ ts) zero t y e c =
    let same : t ≡ u = cc in
    Contains-append_left (check_order u) (nodes_of_types ts) y (subst (λ x. Contains (check_order x) y) same c)
nodes_of_kid (u ∷ ts) (suc i) t y e c = Contains-append_right (check_order u) (nodes_of_types ts) y (nodes_of_kid ts i t y e c)

pub AreIn-kid : (s : Store) (ts : List TypedNode) (i : ℕ) (t : TypedNode) → slice_get ts i ≡ Some t → AreIn s (nodes_of_types ts) →
    AreIn s (check_order t)
AreIn-kid s ts i t e h y u c g = h y u (nodes_of_kid ts i t y e c) g

-- ---- one kid more

taken : {X : Type 0} (xs : List X) (i : ℕ) (x : X) → slice_get xs i ≡ Some x → take (i + 1) xs ≡ take i xs ++ x ∷ []
taken xs i x e = take-item xs i x (slice_get_within xs i x e) (sym (get_or_from_slice_get xs i x x e))

nodes_of_types-take : (ts : List TypedNode) (i : ℕ) (t : TypedNode) → slice_get ts i ≡ Some t
    → nodes_of_types (take (i + 1) ts) ≡ nodes_of_types (take i ts) ++ check_order t
nodes_of_types-take ts i t e =
    ap nodes_of_types (taken ts i t e) ∙ flat_map-append check_order (take i ts) (t ∷ []) ∙ ap (λ ys. nodes_of_types (take i ts) ++ ys)
    (append-nil (check_order t))

module _ (ts : List TypedNode) (i : ℕ) (t : TypedNode) (e : slice_get ts i ≡ Some t) where
  pub counted-more : (o n p : ℕ) → n ≡ o + length (nodes_of_types (take i ts)) → p ≡ n + length (check_order t) →
      p ≡ o + length (nodes_of_types (take (i + 1) ts))
  counted-more o n p h k = omega (
    arith,
    ap length (nodes_of_types-take ts i t e),
    length-append (nodes_of_types (take i ts))
        (check_order t),
  )

  pub found-more : (s : Store) (m o n : ℕ) (f g k : List Waiting) → n ≡ o + length (nodes_of_types (take i ts)) →
      g ≡ f ++ unmeasured s m o (nodes_of_types (take i ts))
      → k ≡ g ++ unmeasured s m n (check_order t) → k ≡ f ++ unmeasured s m o (nodes_of_types (take (i + 1) ts))
  found-more s m o n f g k h before here =
      here ∙ ap (λ l. l ++ unmeasured s m n (check_order t)) before ∙ append_assoc f (unmeasured s m o (nodes_of_types (take i ts)))
      (unmeasured s m n (check_order t))
      ∙ ap (λ l. f ++ l)
      (sym (unmeasured-append s m o n (nodes_of_types (take i ts)) (check_order t) (sym h)) ∙ ap (unmeasured s m o)
      (sym (nodes_of_types-take ts i t e)))

-- ---- a tree behind its kids

module _ (h : Head) (k : Mark) (ts : List TypedNode) (t : TypedNode) (e : marked h k (typed_nodes ts) ≡ t) where
  check_order-kids : check_order t ≡ nodes_of_types ts ++ t ∷ []
  check_order-kids = subst (λ x. check_order x ≡ nodes_of_types ts ++ x ∷ []) e
      (ap (λ ys. ys ++ marked h k (typed_nodes ts) ∷ []) (nodes_of_kids ts))

  pub size-kids : sizes_of (typed_nodes ts) < size_of t
  size-kids = omega (arith, ap size_of e)

  pub AreIn-kids : (s : Store) → AreIn s (check_order t) → AreIn s (nodes_of_types ts)
  AreIn-kids s a y u c g = a y u (subst (λ ys. Contains ys y) (sym check_order-kids)
      (Contains-append_left (nodes_of_types ts) (t ∷ []) y c)) g

  pub AreIn-itself : (s : Store) → AreIn s (check_order t) → (u : ℕ) → k.ty ≡ ty.Of u → u < length s.rows
  AreIn-itself s a u g =
      a t u (subst (λ ys. Contains ys t) (sym check_order-kids) (Contains-append_right (nodes_of_types ts) (t ∷ []) t (Contains-head t [])))
      (ap own_type (sym e) ∙ g)

  pub counted-itself : (o n p : ℕ) → n ≡ o + length (nodes_of_types ts) → p ≡ n + 1 → p ≡ o + length (check_order t)
  counted-itself o n p a b = omega (arith, ap length check_order-kids, length-append (nodes_of_types ts) (t ∷ []))

  pub found-itself : (s : Store) (m o n : ℕ) (f g l : List Waiting) (a : Option ℕ) → n ≡ o + length (nodes_of_types ts)
      → g ≡ f ++ unmeasured s m o (nodes_of_types ts) → unmeasured_as s h.kind k.ty ≡ a
      → l ≡ g ++ cons_option (option_map (λ u. record { decl = m; order = n; place = h.place; ty = u }) a) [] →
      l ≡ f ++ unmeasured s m o (check_order t)
  found-itself s m o n f g l a p before q here =
      here ∙ ap (λ z. z ++ own) before ∙ append_assoc f (unmeasured s m o (nodes_of_types ts)) own
      ∙ ap (λ z. f ++ z) (ap (λ z. unmeasured s m o (nodes_of_types ts) ++ z) last ∙ sym
      (unmeasured-append s m o n (nodes_of_types ts) (t ∷ []) (sym p)) ∙ ap (unmeasured s m o) (sym check_order-kids))
    where
      own : List Waiting
      own = cons_option (option_map (λ u. record { decl = m; order = n; place = h.place; ty = u }) a) []

      last : own ≡ unmeasured s m n (t ∷ [])
      last =
          ap (λ b. cons_option (option_map (kept_of m n (marked h k (typed_nodes ts))) b) []) (sym q)
          ∙ ap (λ x. unmeasured s m n (x ∷ [])) e
