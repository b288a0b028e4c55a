-- A tree under a coat of coercions: it is the same tree but for these, and carries them where there is one for each of its nodes.
use Rattle.std.proofs.Common.{◌≡◌, suc, List, [], ◌∷◌, ◌++◌, map, length, refl, ap, sym, ◌∙◌, arith, append_assoc}
use Rattle.std.specs.Prelude.{slice_index_or}
use Rattle.std.proofs.lemmas.List.{map-append, length-append}
use Rattle.hare_tree.specs.Node.{Head, branch}
use Rattle.hare_types.specs.declared.coercion.Coercion.{Coercion}
use Rattle.hare_typed.specs.Typed.{TypedNode, TypedNodes, marked, typed_none, typed_more, typed_nodes, mark_of}
use Rattle.hare_typed.specs.Erased.{erase, erase_each}
use Rattle.hare_typed.specs.Order.{check_order, check_order_each}
use Rattle.hare_typed.specs.Numbers.{number_of, numbers_from}
use Rattle.hare_typed.specs.Coats.{coat, coat_each}
use Rattle.hare_rules.specs.Context.{Setting}
use Rattle.hare_rules.specs.Above.{Above, over_kid}
use Rattle.hare_rules.specs.Flow.{Flow, context, flow_before}
use Rattle.hare_rules.specs.Settles.{same}
use Rattle.hare_rules.specs.Finished.{coercions, bare, bare_each, behind, behind_each, Carries, AllCarry, EachCarries}
use Rattle.hare_inference.proofs.Orders.{numbered}

-- ---- what a coat leaves

mutual
  pub erase-coat : (cs : List Coercion) (t : TypedNode) → erase (coat cs t) ≡ erase t
  erase-coat cs (marked h m ts) = ap (branch h) (erase_each-coat_each cs ts)

  pub erase_each-coat_each : (cs : List Coercion) (ts : TypedNodes) → erase_each (coat_each cs ts) ≡ erase_each ts
  erase_each-coat_each cs typed_none = refl
  erase_each-coat_each cs (typed_more t ts) = let a = erase-coat cs t in let b = erase_each-coat_each cs ts in cc

mutual
  pub bare-coat : (cs : List Coercion) (t : TypedNode) → bare (coat cs t) ≡ bare t
  bare-coat cs (marked h m ts) = ap (λ xs. marked h (record m { coerce = same m.ty }) (typed_nodes xs)) (bare_each-coat_each cs ts)

  pub bare_each-coat_each : (cs : List Coercion) (ts : TypedNodes) → bare_each (coat_each cs ts) ≡ bare_each ts
  bare_each-coat_each cs typed_none = refl
  bare_each-coat_each cs (typed_more t ts) = let a = bare-coat cs t in let b = bare_each-coat_each cs ts in cc

mutual
  pub behind-coat : (w : Setting) (cs : List Coercion) (a : Above) (t : TypedNode) (f : Flow) → behind w a (coat cs t) f ≡ behind w a t f
  behind-coat w cs a (marked h m ts) f = rw (bare_each-coat_each cs ts, behind_each-coat_each w cs a h [] ts f) refl

  pub behind_each-coat_each : (w : Setting) (cs : List Coercion) (a : Above) (h : Head) (xs : List TypedNode) (ts : TypedNodes) (f : Flow) →
      behind_each w a h xs (coat_each cs ts) f ≡ behind_each w a h xs ts f
  behind_each-coat_each w cs a h xs typed_none f = refl
  behind_each-coat_each w cs a h xs (typed_more t ts) f =
      let o = over_kid w a h xs (erase t) (erase_each ts) in
      let g = flow_before w a h xs f in
      rw
      (bare-coat cs t, erase-coat cs t, erase_each-coat_each cs ts, behind-coat w cs o t g)
      (behind_each-coat_each w cs a h (xs ++ bare t ∷ []) ts (behind w o t g))

mutual
  pub carries-coat : (w : Setting) (cs : List Coercion) (a : Above) (t : TypedNode) (f : Flow) → AllCarry w a t f →
      AllCarry w a (coat cs t) f
  carries-coat w cs a (marked h m ts) f k =
      let c : Carries (context w a h (bare_each ts) (behind_each w a h [] ts f)) (record m { coerce = slice_index_or cs m.node m.coerce }) =
      record { rows = k.1.rows; type = k.1.type; node = k.1.node; meaning = k.1.meaning; value = k.1.value } in
      (each_carries-coat_each w cs a h [] ts f k.0, rw (bare_each-coat_each cs ts, behind_each-coat_each w cs a h [] ts f) c)

  pub each_carries-coat_each : (w : Setting) (cs : List Coercion) (a : Above) (h : Head) (xs : List TypedNode) (ts : TypedNodes)
      (f : Flow) →
      EachCarries w a h xs ts f → EachCarries w a h xs (coat_each cs ts) f
  each_carries-coat_each w cs a h xs typed_none f k = tt
  each_carries-coat_each w cs a h xs (typed_more t ts) f k =
      let o = over_kid w a h xs (erase t) (erase_each ts) in
      let g = flow_before w a h xs f in
      let p = carries-coat w cs o t g k.0 in
      let q = each_carries-coat_each w cs a h (xs ++ bare t ∷ []) ts (behind w o t g) k.1 in
      rw (bare-coat cs t, erase-coat cs t, erase_each-coat_each cs ts, behind-coat w cs o t g) (p, q)

-- ---- what it carries

-- the coercion that a node has under a coat
abbrev under : List Coercion → TypedNode → Coercion
under cs u = slice_index_or cs (mark_of u).node (mark_of u).coerce

abbrev coercion_of : TypedNode → Coercion
coercion_of u = (mark_of u).coerce

mutual
  coercions-coat : (cs : List Coercion) (t : TypedNode) → coercions (coat cs t) ≡ map (under cs) (check_order t)
  coercions-coat cs (marked h m ts) =
      map-append coercion_of (check_order_each (coat_each cs ts)) (coat cs (marked h m ts) ∷ [])
      ∙ ap (λ rs. rs ++ under cs (marked h m ts) ∷ []) (coercions_each-coat_each cs ts)
      ∙ sym (map-append (under cs) (check_order_each ts) (marked h m ts ∷ []))

  coercions_each-coat_each : (cs : List Coercion) (ts : TypedNodes) →
      map coercion_of (check_order_each (coat_each cs ts)) ≡ map (under cs) (check_order_each ts)
  coercions_each-coat_each cs typed_none = refl
  coercions_each-coat_each cs (typed_more t ts) =
      let a : map coercion_of (check_order (coat cs t)) ≡ map (under cs) (check_order t) = coercions-coat cs t in
      let b = coercions_each-coat_each cs ts in
      map-append coercion_of (check_order (coat cs t)) (check_order_each (coat_each cs ts))
      ∙ rw (a, b) refl
      ∙ sym (map-append (under cs) (check_order t) (check_order_each ts))

index-past : (bs : List Coercion) (c : Coercion) (cs : List Coercion) (d : Coercion) → slice_index_or (bs ++ c ∷ cs) (length bs) d ≡ c
index-past [] c cs d = refl
index-past (b ∷ bs) c cs d = index-past bs c cs d

-- a coercion for each node, by their numbers
each-under : (bs cs : List Coercion) (us : List TypedNode) → map number_of us ≡ numbers_from (length bs) us → length cs ≡ length us →
    map (under (bs ++ cs)) us ≡ cs
each-under bs [] [] e n = refl
each-under bs [] (u ∷ us) e n = absurd (omega arith)
each-under bs (c ∷ cs) [] e n = absurd (omega arith)
each-under bs (c ∷ cs) (u ∷ us) e n =
    let i : number_of u ≡ length bs = cc in
    let j : map number_of us ≡ numbers_from (suc (length bs)) us = cc in
    let k : suc (length bs) ≡ length (bs ++ c ∷ []) = omega (arith, length-append bs (c ∷ [])) in
    let r : map (under ((bs ++ c ∷ []) ++ cs)) us ≡ cs = each-under (bs ++ c ∷ []) cs us (j
    ∙ ap (λ x. numbers_from x us) k) (omega arith) in
    let s : map (under (bs ++ c ∷ cs)) us ≡ cs = rw append_assoc at r in
    let p : under (bs ++ c ∷ cs) u ≡ c = ap (λ x. slice_index_or (bs ++ c ∷ cs) x (mark_of u).coerce) i
    ∙ index-past bs c cs (mark_of u).coerce in
    cc

-- where the numbers of a tree begin at 0, it carries just the coat
pub coercions-coat_whole : (w : Setting) (a : Above) (t : TypedNode) (f : Flow) (cs : List Coercion) → f.coercions ≡ [] → AllCarry w a t f →
    length cs ≡ length (check_order t) → coercions (coat cs t) ≡ cs
coercions-coat_whole w a t f cs z k n =
    let e : map number_of (check_order t) ≡ numbers_from 0 (check_order t) =
    numbered w a t f k ∙ ap (λ rs. numbers_from (length rs) (check_order t)) z in
    coercions-coat cs t ∙ each-under [] cs (check_order t) e n
