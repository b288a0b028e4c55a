-- A typed tree is known by what is left of it without its coercions, and by these.
use Rattle.std.proofs.Common.{◌≡◌, ℕ, List, [], ◌∷◌, ◌++◌, map, length, refl, ap, sym, ◌∙◌, arith}
use Rattle.std.proofs.lemmas.List.{map-append}
use Rattle.hare_tree.specs.declared.token.Meaning.{Meaning}
use Rattle.hare_tree.specs.Node.{branch}
use Rattle.hare_types.specs.declared.coercion.Ty.{Ty}
use Rattle.hare_types.specs.declared.coercion.Coercion.{Coercion}
use Rattle.hare_typed.specs.declared.constant.Const.{Const}
use Rattle.hare_typed.specs.Typed.{TypedNode, TypedNodes, Mark, marked, typed_none, typed_more, typed_nodes, mark_of, kids_of}
use Rattle.hare_typed.specs.Erased.{erase, erase_each}
use Rattle.hare_typed.specs.Order.{check_order, check_order_each}
use Rattle.hare_rules.specs.Above.{trees_in, trees_in_each}
use Rattle.hare_rules.specs.Finished.{bare, bare_each, coercions}
use Rattle.hare_inference.proofs.Orders.{length-check_order, length-check_order_each}

-- ---- marks by their parts

make : ℕ → Ty → Coercion → Meaning → Const → Mark
make n a r e v = record { node = n; ty = a; coerce = r; meaning = e; value = v }

pub mark-ext : (m n : Mark) → m.node ≡ n.node → m.ty ≡ n.ty → m.coerce ≡ n.coerce → m.meaning ≡ n.meaning → m.value ≡ n.value → m ≡ n
unfolding make
mark-ext m n d e f g h =
    let k : make m.node m.ty m.coerce m.meaning m.value ≡ make n.node n.ty n.coerce n.meaning n.value = cc in
    k

-- ---- bare trees

mutual
  pub erase-bare : (t : TypedNode) → erase (bare t) ≡ erase t
  erase-bare (marked h m ts) = ap (branch h) (erase_each-bare_each ts)

  pub erase_each-bare_each : (ts : TypedNodes) → erase_each (typed_nodes (bare_each ts)) ≡ erase_each ts
  erase_each-bare_each typed_none = refl
  erase_each-bare_each (typed_more t ts) = let a = erase-bare t in let b = erase_each-bare_each ts in cc

pub typed_nodes-inj : (xs ys : List TypedNode) → typed_nodes xs ≡ typed_nodes ys → xs ≡ ys
typed_nodes-inj [] [] e = refl
typed_nodes-inj [] (y ∷ ys) e = cc
typed_nodes-inj (x ∷ xs) [] e = cc
typed_nodes-inj (x ∷ xs) (y ∷ ys) e =
    let a : x ≡ y = cc in
    let b : typed_nodes xs ≡ typed_nodes ys = cc in
    let c = typed_nodes-inj xs ys b in
    cc

-- ---- the same tree

split-append : {A : Type 0} (xs us ys vs : List A) → length xs ≡ length us → xs ++ ys ≡ us ++ vs → (xs ≡ us) × (ys ≡ vs)
split-append [] [] ys vs n e = (refl, e)
split-append [] (u ∷ us) ys vs n e = absurd (omega arith)
split-append (x ∷ xs) [] ys vs n e = absurd (omega arith)
split-append (x ∷ xs) (u ∷ us) ys vs n e =
    let a : x ≡ u = cc in
    let b : xs ++ ys ≡ us ++ vs = cc in
    let r = split-append xs us ys vs (omega arith) b in
    let s : xs ≡ us = r.0 in
    let t : x ∷ xs ≡ u ∷ us = cc in
    (t, r.1)

abbrev coercion_of : TypedNode → Coercion
coercion_of u = (mark_of u).coerce

abbrev coercions_each : TypedNodes → List Coercion
coercions_each ts = map coercion_of (check_order_each ts)

length-map : {A B : Type 0} (f : A → B) (xs : List A) → length (map f xs) ≡ length xs
length-map f [] = refl
length-map f (x ∷ xs) = let e = length-map f xs in omega arith

-- trees that are one without their coercions have as many
as_many : (t u : TypedNode) → bare t ≡ bare u → length (coercions t) ≡ length (coercions u)
as_many t u e =
    length-map coercion_of (check_order t) ∙ length-check_order t ∙ ap trees_in (sym (erase-bare t) ∙ ap erase e ∙ erase-bare u)
    ∙ sym (length-check_order u)
    ∙ sym (length-map coercion_of (check_order u))

as_many_each : (ts us : TypedNodes) → bare_each ts ≡ bare_each us → length (coercions_each ts) ≡ length (coercions_each us)
as_many_each ts us e =
    length-map coercion_of (check_order_each ts) ∙ length-check_order_each ts
    ∙ ap trees_in_each (sym (erase_each-bare_each ts) ∙ ap (λ xs. erase_each (typed_nodes xs)) e ∙ erase_each-bare_each us)
    ∙ sym (length-check_order_each us) ∙ sym (length-map coercion_of (check_order_each us))

mutual
  pub by_coercions : (t u : TypedNode) → bare t ≡ bare u → coercions t ≡ coercions u → t ≡ u
  by_coercions (marked h m ts) (marked h' m' us) e f =
      let a : h ≡ h' = cc in
      let b : bare_each ts ≡ bare_each us = typed_nodes-inj (bare_each ts) (bare_each us) (ap kids_of e) in
      let c : coercions_each ts ++ m.coerce ∷ [] ≡ coercions_each us ++ m'.coerce ∷ [] =
      sym (map-append coercion_of (check_order_each ts) (marked h m ts ∷ [])) ∙ f
      ∙ map-append coercion_of (check_order_each us) (marked h' m' us ∷ []) in
      let d = split-append (coercions_each ts) (coercions_each us) (m.coerce ∷ []) (m'.coerce ∷ []) (as_many_each ts us b) c in
      let g : ts ≡ us = by_coercions_each ts us b d.0 in
      let i : m.coerce ∷ [] ≡ m'.coerce ∷ [] = d.1 in
      let j : m.coerce ≡ m'.coerce = cc in
      let k : m ≡ m' =
      mark-ext m m' (ap (λ x. (mark_of x).node) e) (ap (λ x. (mark_of x).ty) e) j (ap (λ x. (mark_of x).meaning) e) (ap (λ x.
      (mark_of x).value) e) in
      cc

  pub by_coercions_each : (ts us : TypedNodes) → bare_each ts ≡ bare_each us → coercions_each ts ≡ coercions_each us → ts ≡ us
  by_coercions_each typed_none typed_none e f = refl
  by_coercions_each typed_none (typed_more u us) e f = cc
  by_coercions_each (typed_more t ts) typed_none e f = cc
  by_coercions_each (typed_more t ts) (typed_more u us) e f =
      let a : bare t ≡ bare u = cc in
      let b : bare_each ts ≡ bare_each us = cc in
      let c : coercions t ++ coercions_each ts ≡ coercions u ++ coercions_each us =
      sym (map-append coercion_of (check_order t) (check_order_each ts)) ∙ f
      ∙ map-append coercion_of (check_order u) (check_order_each us) in
      let d = split-append (coercions t) (coercions u) (coercions_each ts) (coercions_each us) (as_many t u a) c in
      let g : t ≡ u = by_coercions t u a d.0 in
      let i : ts ≡ us = by_coercions_each ts us b d.1 in
      cc
