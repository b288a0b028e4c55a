-- Sums over the first declarations.
use Rattle.std.proofs.Common.{◌≡◌, ℕ, suc, ◌+◌, ◌<◌, ◌≤◌, List, length, min, take, Some, refl, ap, sym, subst, ◌∙◌, arith, add-one}
use Rattle.std.specs.Prelude.{slice_get, sum_by, get_or}
use Rattle.std.proofs.lemmas.List.Sums.{sum_by_push}
use Rattle.std.proofs.lemmas.Option.{get_or_from_slice_get}
use Rattle.hare_tree.specs.declared.place.Fault.{Fault}
use Rattle.hare_types.specs.Store.{Store}
use Rattle.hare_typed.specs.Typed.{TypedNode}
use Rattle.hare_typed.proofs.KidLemmas.{take-get}
use Rattle.hare_modules.specs.Order.{fault}
use Rattle.hare_whole.specs.Limits.{function_weight, global_bytes, IsWithin, IsSumFault, name_place}
use Rattle.hare_costs.specs.Amounts.{most}
use Rattle.hare_limits.specs.Stops.{AreBytes}

-- what the first declarations have together, which pass no limit
pub record Summed (s : Store) (ds : List TypedNode) (n weight size : ℕ) : Type 0 where
  pub weight_is : weight ≡ sum_by (function_weight s) (take n ds)
  pub size_is : size ≡ sum_by (global_bytes s) (take n ds)
  pub light : weight ≤ 524288
  pub small : size ≤ 16777216

pub summed-none : (s : Store) (ds : List TypedNode) → Summed s ds 0 0 0
summed-none s ds = record { weight_is = refl; size_is = refl; light = omega arith; small = omega arith }

sum-more : (f : TypedNode → ℕ) (ds : List TypedNode) (i : ℕ) (d : TypedNode) → slice_get ds i ≡ Some d
    → sum_by f (take (i + 1) ds) ≡ sum_by f (take i ds) + f d
sum-more f ds i d g = ap (sum_by f) (take-get ds i d g) ∙ sum_by_push f (take i ds) d

pub summed-within : (s : Store) (ds : List TypedNode) (n weight size : ℕ) → Summed s ds n weight size → IsWithin s ds n
summed-within s ds n weight size h = record {
  weight = λ l. let e = h.weight_is in let k = h.light in omega arith;
  bytes = λ l. let e = h.size_is in let k = h.small in omega arith;
}

pub summed-more : (s : Store) (ds : List TypedNode) (i w n x y : ℕ) (d : TypedNode) → slice_get ds i ≡ Some d → Summed s ds i w n
    → x ≡ min (function_weight s d) most
    → y ≡ min (global_bytes s d) most → w + x ≤ 524288 → n + y ≤ 16777216 → Summed s ds (i + 1) (w + x) (n + y)
summed-more s ds i w n x y d g h e f l k =
    let p = sum-more (function_weight s) ds i d g in
    let q = sum-more (global_bytes s) ds i d g in
    let a = h.weight_is in
    let b = h.size_is in
    record { weight_is = omega arith; size_is = omega arith; light = l; small = k }

-- the declaration with which a sum passes its limit
sum-fault : (s : Store) (ds : List TypedNode) (i w n : ℕ) (d : TypedNode) (f : Fault) → slice_get ds i ≡ Some d → Summed s ds i w n
    → (IsWithin s ds (suc i) → ⊥) → f ≡ fault 48 (name_place d)
    → IsSumFault s ds f
sum-fault s ds i w n d f g h p e = record { number = i; decl = d; is_there = g; before = summed-within s ds i w n h; passes = p; is = e }

pub weight-passes : (s : Store) (ds : List TypedNode) (i w n x : ℕ) (d : TypedNode) (f : Fault) → slice_get ds i ≡ Some d
    → Summed s ds i w n → x ≡ min (function_weight s d) most
    → 524288 < w + x → f ≡ fault 48 (name_place d) → IsSumFault s ds f
weight-passes s ds i w n x d f g h e l p =
    sum-fault s ds i w n d f g h
    (λ k.
    let q = sum-more (function_weight s) ds i d g in
    let a = h.weight_is in
    let over : 524288 < sum_by (function_weight s) (take (i + 1) ds) = omega arith in
    k.weight (subst (λ m. 524288 < sum_by (function_weight s) (take m ds)) (add-one i) over))
    p

pub size-passes : (s : Store) (ds : List TypedNode) (i w n y : ℕ) (d : TypedNode) (f : Fault) → slice_get ds i ≡ Some d
    → Summed s ds i w n → y ≡ min (global_bytes s d) most
    → 16777216 < n + y → f ≡ fault 48 (name_place d) → IsSumFault s ds f
size-passes s ds i w n y d f g h e l p =
    sum-fault s ds i w n d f g h
    (λ k.
    let q = sum-more (global_bytes s) ds i d g in
    let a = h.size_is in
    let over : 16777216 < sum_by (global_bytes s) (take (i + 1) ds) = omega arith in
    k.bytes (subst (λ m. 16777216 < sum_by (global_bytes s) (take m ds)) (add-one i) over))
    p

pub summed-all : (s : Store) (ds : List TypedNode) (n w m : ℕ) → length ds ≡ n → Summed s ds n w m → IsWithin s ds (length ds)
summed-all s ds n w m e h = subst (IsWithin s ds) (sym e) (summed-within s ds n w m h)

-- ---- bytes

pub bytes-there : (s : Store) (ds : List TypedNode) (bs : List ℕ) (i y : ℕ) (d : TypedNode) → AreBytes s ds bs → slice_get ds i ≡ Some d
    → y ≡ get_or bs i 0
    → y ≡ min (global_bytes s d) most
bytes-there s ds bs i y d h g e = e ∙ get_or_from_slice_get bs i (min (global_bytes s d) most) 0 (h i d g)
