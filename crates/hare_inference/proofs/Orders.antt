-- Nodes are numbered in check order, and each has one coercion.
use Rattle.std.proofs.Common.{◌≡◌, ℕ, suc, ◌+◌, Bool, true, false, cond, List, [], ◌∷◌, ◌++◌, map, length, refl, ap, sym, ◌∙◌, arith, add-zero}
use Rattle.std.specs.Prelude.{slice_set}
use Rattle.std.proofs.lemmas.List.{map-append, length-append, length-set}
use Rattle.hare_tree.specs.Node.{Head}
use Rattle.hare_types.specs.declared.coercion.Coercion.{Coercion}
use Rattle.hare_typed.specs.Typed.{TypedNode, TypedNodes, marked, typed_none, typed_more}
use Rattle.hare_typed.specs.Erased.{erase, erase_each}
use Rattle.hare_typed.specs.Order.{check_order, check_order_each}
use Rattle.hare_typed.specs.Numbers.{number_of, numbers_from}
use Rattle.hare_rules.specs.Context.{Setting}
use Rattle.hare_rules.specs.Above.{Above, over_kid, trees_in, trees_in_each}
use Rattle.hare_rules.specs.Settles.{Settled, settles_kids}
use Rattle.hare_rules.specs.Types.{type_of}
use Rattle.hare_rules.specs.Flow.{Flow, count, write_each, context, flow_before, flow_after, settled_type, is_behind_operand, each_entry, all_settled}
use Rattle.hare_rules.specs.Finished.{bare, bare_each, behind, behind_each, AllCarry, EachCarries}

-- ---- how many

mutual
  pub length-check_order : (t : TypedNode) → length (check_order t) ≡ trees_in (erase t)
  length-check_order (marked h m ts) = length-append (check_order_each ts) (marked h m ts ∷ []) ∙ omega (arith, length-check_order_each ts)

  pub length-check_order_each : (ts : TypedNodes) → length (check_order_each ts) ≡ trees_in_each (erase_each ts)
  length-check_order_each typed_none = refl
  length-check_order_each (typed_more t ts) =
      length-append (check_order t) (check_order_each ts) ∙ omega (arith, length-check_order t, length-check_order_each ts)

-- ---- how many have been judged

pub length-write_each : (ss : List Settled) (cs : List Coercion) → length (write_each ss cs) ≡ length cs
length-write_each [] cs = refl
length-write_each (s ∷ ss) cs = length-write_each ss (slice_set cs s.node s.coercion) ∙ length-set cs s.node s.coercion

pub length-all_settled : (f : Flow) → length (all_settled f) ≡ count f
length-all_settled f = length-write_each f.late f.coercions

pub count-flow_before : (w : Setting) (a : Above) (h : Head) (xs : List TypedNode) (f : Flow) → count (flow_before w a h xs f) ≡ count f
count-flow_before w a h xs f = by_kind (is_behind_operand h.kind (length xs)) where
  by_kind : (b : Bool) → count (cond b (record f { locals = slice_set f.locals a.first (each_entry w h xs) }) f) ≡ count f
  by_kind true = refl
  by_kind false = refl

pub count-flow_after : (w : Setting) (a : Above) (h : Head) (xs : List TypedNode) (f : Flow) → count (flow_after w a h xs f) ≡ count f + 1
count-flow_after w a h xs f =
    let r = settled_type (context w a h xs f) (type_of (context w a h xs f)) in
    length-write_each (settles_kids (context w a h xs f)) (f.coercions ++ r ∷ []) ∙ length-append f.coercions (r ∷ [])

mutual
  pub count-behind : (w : Setting) (a : Above) (t : TypedNode) (f : Flow) → count (behind w a t f) ≡ count f + trees_in (erase t)
  count-behind w a (marked h m ts) f =
      count-flow_after w a h (bare_each ts) (behind_each w a h [] ts f) ∙ omega (arith, count-behind_each w a h [] ts f)

  pub count-behind_each : (w : Setting) (a : Above) (h : Head) (xs : List TypedNode) (ts : TypedNodes) (f : Flow) →
      count (behind_each w a h xs ts f) ≡ count f + trees_in_each (erase_each ts)
  count-behind_each w a h xs typed_none f = sym (add-zero (count f))
  count-behind_each w a h xs (typed_more t ts) f =
      let o = over_kid w a h xs (erase t) (erase_each ts) in
      let g = flow_before w a h xs f in
      omega (arith, count-flow_before w a h xs f, count-behind w o t g, count-behind_each w a h (xs ++ bare t ∷ []) ts (behind w o t g))

-- ---- numbers

numbers_from-append : {A : Type 0} (n : ℕ) (xs ys : List A) →
    numbers_from n (xs ++ ys) ≡ numbers_from n xs ++ numbers_from (n + length xs) ys
numbers_from-append n [] ys = ap (λ k. numbers_from k ys) (sym (add-zero n))
numbers_from-append n (x ∷ xs) ys =
    let e : suc n + length xs ≡ n + suc (length xs) = omega arith in
    ap (λ l. n ∷ l) (numbers_from-append (suc n) xs ys ∙ ap (λ k. numbers_from (suc n) xs ++ numbers_from k ys) e)

pub number_of-root : (w : Setting) (a : Above) (t : TypedNode) (f : Flow) → AllCarry w a t f →
    suc (number_of t) ≡ count f + trees_in (erase t)
number_of-root w a (marked h m ts) f k = omega (arith, k.1.node, count-behind_each w a h [] ts f)

mutual
  pub numbered : (w : Setting) (a : Above) (t : TypedNode) (f : Flow) → AllCarry w a t f →
      map number_of (check_order t) ≡ numbers_from (count f) (check_order t)
  numbered w a (marked h m ts) f k =
      let us = check_order_each ts in
      let i : m.node ≡ count f + length us = omega (arith, k.1.node, count-behind_each w a h [] ts f, length-check_order_each ts) in
      map-append number_of us (marked h m ts ∷ [])
      ∙ rw (numbered_each w a h [] ts f k.0, i) refl
      ∙ sym (numbers_from-append (count f) us (marked h m ts ∷ []))

  pub numbered_each : (w : Setting) (a : Above) (h : Head) (xs : List TypedNode) (ts : TypedNodes) (f : Flow) → EachCarries w a h xs ts f →
      map number_of (check_order_each ts) ≡ numbers_from (count f) (check_order_each ts)
  numbered_each w a h xs typed_none f k = refl
  numbered_each w a h xs (typed_more t ts) f k =
      let o = over_kid w a h xs (erase t) (erase_each ts) in
      let g = flow_before w a h xs f in
      let us = check_order t in
      let vs = check_order_each ts in
      let b : count g ≡ count f = count-flow_before w a h xs f in
      let p : map number_of us ≡ numbers_from (count f) us = numbered w o t g k.0 ∙ ap (λ n. numbers_from n us) b in
      let c : count (behind w o t g) ≡ count f + length us = omega (arith, b, count-behind w o t g, length-check_order t) in
      let q : map number_of vs ≡ numbers_from (count f + length us) vs =
      numbered_each w a h (xs ++ bare t ∷ []) ts (behind w o t g) k.1 ∙ ap (λ n. numbers_from n vs) c in
      map-append number_of us vs ∙ rw (p, q) refl ∙ sym (numbers_from-append (count f) us vs)
