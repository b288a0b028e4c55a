-- Check order, numbers and copies speak of the same nodes.
use Rattle.std.proofs.Common.{◌≡◌, ℕ, zero, suc, ◌+◌, Bool, List, [], ◌∷◌, ◌++◌, map, Some, refl, ap, ap₂, sym, ◌∙◌, arith, if◌then◌else◌}
use Rattle.std.specs.Prelude.{slice_get, flat_map}
use Rattle.std.proofs.lemmas.List.{map-append}
use Rattle.hare_tree.specs.declared.kind.Kind.{Kind}
use Rattle.hare_tree.specs.declared.kind.Kind.TheVariants as kind
use Rattle.hare_typed.specs.Typed.{TypedNode, TypedNodes, marked, typed_none, typed_more, head_of}
use Rattle.hare_typed.specs.Erased.{erase, erase_each, heads, heads_each}
use Rattle.hare_typed.specs.Order.{check_order, check_order_each}
use Rattle.hare_typed.specs.Numbers.{numbered, numbered_by, number_of, numbers_from, kind_of, body_of, parameters_of}
use Rattle.hare_typed.specs.Copies.{Copied, copied, copied_each, counted_by, once, has_defers, inner_copies, deferred_copies}
use Rattle.hare_typed.specs.CostLaws.{OrdersAgree}

-- ---- heads

mutual
  map-head_of : (t : TypedNode) → map head_of (check_order t) ≡ heads (erase t)
  map-head_of (marked h m ts) =
      map-append head_of (check_order_each ts) (marked h m ts ∷ []) ∙ ap (λ hs. hs ++ h ∷ []) (map-head_of_each ts)

  map-head_of_each : (ts : TypedNodes) → map head_of (check_order_each ts) ≡ heads_each (erase_each ts)
  map-head_of_each typed_none = refl
  map-head_of_each (typed_more t ts) =
      map-append head_of (check_order t) (check_order_each ts) ∙ ap₂ (λ a b. a ++ b) (map-head_of t) (map-head_of_each ts)

-- ---- copies

abbrev tree_of : Copied → TypedNode
tree_of x = x.tree

mutual
  map-tree_of : (own deferred : ℕ) (t : TypedNode) → map tree_of (copied own deferred t) ≡ check_order t
  map-tree_of own deferred (marked h m ts) =
      map-append tree_of (copied_each (has_defers h.kind) (inner_copies h.kind own deferred) ts)
      (record { tree = marked h m ts; times = own } ∷ [])
      ∙ ap (λ us. us ++ marked h m ts ∷ []) (map-tree_of_each (has_defers h.kind) (inner_copies h.kind own deferred) ts)

  map-tree_of_each : (b : Bool) (own : ℕ) (ts : TypedNodes) → map tree_of (copied_each b own ts) ≡ check_order_each ts
  map-tree_of_each b own typed_none = refl
  map-tree_of_each b own (typed_more t ts) =
      map-append tree_of (copied own (if b then deferred_copies own ts else own) t) (copied_each b own ts)
      ∙ ap₂ (λ a c. a ++ c) (map-tree_of own (if b then deferred_copies own ts else own) t) (map-tree_of_each b own ts)

bodies-counted : (ts : List TypedNode) → map tree_of (flat_map (copied 1 1) ts) ≡ flat_map check_order ts
bodies-counted [] = refl
bodies-counted (t ∷ ts) = map-append tree_of (copied 1 1 t) (flat_map (copied 1 1) ts) ∙ ap₂ (λ a b. a ++ b) (map-tree_of 1 1 t)
    (bodies-counted ts)

map-once : (ts : List TypedNode) → map tree_of (map once ts) ≡ ts
map-once [] = refl
map-once (t ∷ ts) = ap (λ us. t ∷ us) (map-once ts)

counted-trees : (k : Kind) (t : TypedNode) → map tree_of (counted_by k t) ≡ numbered_by k t
counted-trees kind.Fn t =
    map-append tree_of (flat_map (copied 1 1) (body_of t)) (map once (parameters_of t))
    ∙ ap₂ (λ a b. a ++ b) (bodies-counted (body_of t)) (map-once (parameters_of t))
counted-trees kind.Def t = bodies-counted (body_of t)
counted-trees kind.GlobalLet t = bodies-counted (body_of t)
counted-trees kind.GlobalConst t = bodies-counted (body_of t)
counted-trees _ t = refl

-- ---- numbers

place-from : (n : ℕ) (ts : List TypedNode) (i : ℕ) (u : TypedNode) → map number_of ts ≡ numbers_from n ts → slice_get ts i ≡ Some u →
    number_of u ≡ n + i
place-from n [] i u e h = cc
place-from n (t ∷ ts) zero u e h = let k : number_of t ≡ n = cc in let l : t ≡ u = cc in ap number_of (sym l) ∙ k ∙ omega arith
place-from n (t ∷ ts) (suc i) u e h = let k : map number_of ts ≡ numbers_from (suc n) ts = cc in place-from (suc n) ts i u k h ∙ omega arith

pub orders_agree : (t : TypedNode) → OrdersAgree t
orders_agree t = record {
  heads_kept = map-head_of t;
  all_counted = counted-trees (kind_of t) t;
  number_is_place = λ n i u h. place-from 0 (numbered t) i u n.counted h ∙ omega arith;
}
