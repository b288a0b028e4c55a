-- What nodes cost together, by parts.
use Rattle.std.proofs.Common.{◌≡◌, ℕ, zero, suc, ◌+◌, ◌*◌, ◌<◌, ◌≤◌, Bool, true, false, if◌then◌else◌, List, [], ◌∷◌, ◌++◌, length, map, drop, min, Some, ◌⊎◌, inl, inr, refl, ap, sym, ◌∙◌, arith}
use Rattle.std.specs.Prelude.{flat_map, slice_get}
use Rattle.std.proofs.lemmas.List.{append-nil, map-append}
use Rattle.std.proofs.lemmas.List.Sums.{sum_by-append, sum_by-cons}
use Rattle.std.proofs.Math.Nat.{mul_assoc}
use Rattle.std.proofs.lemmas.Bool.{cases_lt}
use Rattle.hare_tree.specs.declared.kind.Kind.{Kind}
use Rattle.hare_tree.specs.declared.kind.Kind.TheVariants as kind
use Rattle.hare_tree.specs.Node.{Head}
use Rattle.hare_types.specs.Store.{Store}
use Rattle.hare_typed.specs.Typed.{TypedNode, TypedNodes, Mark, marked, typed_none, typed_more, typed_nodes, listed_nodes, kids_of}
use Rattle.hare_typed.specs.Order.{missing, tree_from_front}
use Rattle.hare_typed.specs.Weight.{weight_of}
use Rattle.hare_typed.specs.Frame.{node_frame}
use Rattle.hare_typed.specs.Numbers.{params_among, body_of, parameters_of, last_of}
use Rattle.hare_typed.specs.Copies.{Copied, copied, copied_each, deferred_copies, inner_copies, is_defer, has_defers, exits_each, once}
use Rattle.hare_typed.proofs.ExitLemmas.{drop-get}
use Rattle.hare_costs.specs.declared.amount.Amount.{Amount}
use Rattle.hare_costs.specs.Amounts.{most, amount, none, plus, times}
use Rattle.hare_costs.specs.Costs.{total, cost_of, own_cost, as_parameter}

-- ---- amounts that stop

cap-sum : (a b m : ℕ) → min (min a m + min b m) m ≡ min (a + b) m
cap-sum a b m = omega arith

big : (n a m : ℕ) → m ≤ a → m ≤ suc n * a
big n a m h = let k : suc n * a ≡ a + n * a = omega arith in omega arith

cap-times : (n a m : ℕ) → (a < m) ⊎ (m ≤ a) → min (suc n * min a m) m ≡ min (suc n * a) m
cap-times n a m (inl h) = let e : min a m ≡ a = omega arith in ap (λ x. min (suc n * x) m) e
cap-times n a m (inr h) =
    let e : min a m ≡ m = omega arith in
    let left : m ≤ suc n * m = big n m m (omega arith) in
    let right : m ≤ suc n * a = big n a m h in
    ap (λ x. min (suc n * x) m) e ∙ omega arith

abbrev as_told : (weight frame : ℕ) → Amount
as_told w f = record { weight = w; frame = f }

pub plus-amounts : (a b c d : ℕ) → plus (amount a b) (amount c d) ≡ amount (a + c) (b + d)
plus-amounts a b c d =
    ap (λ n. as_told n (min (min b most + min d most) most)) (cap-sum a c most) ∙ ap (as_told (min (a + c) most)) (cap-sum b d most)

times-amount : (n a b : ℕ) → times (suc n) (amount a b) ≡ amount (suc n * a) (suc n * b)
times-amount n a b =
    ap (λ k. as_told k (min (suc n * min b most) most)) (cap-times n a most (cases_lt a most))
    ∙ ap (as_told (min (suc n * a) most)) (cap-times n b most (cases_lt b most))

-- ---- sums over nodes

total-append : (v : TypedNode → ℕ) (xs ys : List Copied) → total v (xs ++ ys) ≡ total v xs + total v ys
total-append v xs ys = sum_by-append (λ x. x.times * v x.tree) xs ys

pub cost_of-append : (s : Store) (xs ys : List Copied) → plus (cost_of s xs) (cost_of s ys) ≡ cost_of s (xs ++ ys)
cost_of-append s xs ys =
    plus-amounts (total (weight_of s) xs) (total (node_frame s) xs) (total (weight_of s) ys) (total (node_frame s) ys)
    ∙ ap (λ n. amount n (total (node_frame s) xs + total (node_frame s) ys)) (sym (total-append (weight_of s) xs ys))
    ∙ ap (amount (total (weight_of s) (xs ++ ys))) (sym (total-append (node_frame s) xs ys))

total-one : (v : TypedNode → ℕ) (t : TypedNode) (n : ℕ) → total v (record { tree = t; times = n } ∷ []) ≡ n * v t
total-one v t n =
    let z : n * v t + 0 ≡ n * v t = omega arith in
    sum_by-cons (λ (x : Copied). x.times * v x.tree) (record { tree = t; times = n }) [] ∙ z

total-once : (v : TypedNode → ℕ) (t : TypedNode) → v t ≡ total v (once t ∷ [])
total-once v t = let z : v t ≡ 1 * v t = omega arith in z ∙ sym (total-one v t 1)

cost_of-one : (s : Store) (t : TypedNode) → own_cost s t ≡ cost_of s (once t ∷ [])
cost_of-one s t =
    ap (λ n. amount n (node_frame s t)) (total-once (weight_of s) t)
    ∙ ap (amount (total (weight_of s) (once t ∷ []))) (total-once (node_frame s) t)

-- ---- copies of copies

if-scaled : (b : Bool) (a m n : ℕ) → (if b then a * m else a * n) ≡ a * (if b then m else n)
if-scaled true a m n = refl
if-scaled false a m n = refl

deferred-scaled : (b : Bool) (a own : ℕ) (ts : TypedNodes)
    → (if b then deferred_copies (a * own) ts else a * own) ≡ a * (if b then deferred_copies own ts else own)
deferred-scaled true a own ts = mul_assoc a own (suc (length (exits_each ts)))
deferred-scaled false a own ts = refl

spread : (a x y : ℕ) → a * x + a * y ≡ a * (x + y)
spread a x y = omega arith

mutual
  total-scaled : (v : TypedNode → ℕ) (a own deferred : ℕ) (t : TypedNode)
      → total v (copied (a * own) (a * deferred) t) ≡ a * total v (copied own deferred t)
  total-scaled v a own deferred (marked h m ts) =
      let t = marked h m ts in
      let inner = inner_copies h.kind own deferred in
      let last : List Copied = record { tree = t; times = own } ∷ [] in
      let one : total v (record { tree = t; times = a * own } ∷ []) ≡ a * total v last
      = total-one v t (a * own) ∙ mul_assoc a own (v t) ∙ ap (λ n. a * n) (sym (total-one v t own)) in
      ap (λ n. total v (copied_each (has_defers h.kind) n ts ++ record { tree = t; times = a * own } ∷ []))
      (if-scaled (is_defer h.kind) a deferred own)
      ∙ total-append v (copied_each (has_defers h.kind) (a * inner) ts) (record { tree = t; times = a * own } ∷ [])
      ∙ ap (λ n. n + total v (record { tree = t; times = a * own } ∷ [])) (total-scaled-each v (has_defers h.kind) a inner ts)
      ∙ ap (λ n. a * total v (copied_each (has_defers h.kind) inner ts) + n) one
      ∙ spread a (total v (copied_each (has_defers h.kind) inner ts)) (total v last)
      ∙ ap (λ n. a * n) (sym (total-append v (copied_each (has_defers h.kind) inner ts) last))

  total-scaled-each : (v : TypedNode → ℕ) (b : Bool) (a own : ℕ) (ts : TypedNodes)
      → total v (copied_each b (a * own) ts) ≡ a * total v (copied_each b own ts)
  total-scaled-each v b a own typed_none = let z : 0 ≡ a * 0 = omega arith in z
  total-scaled-each v b a own (typed_more t ts) =
      let d = if b then deferred_copies own ts else own in
      ap (λ n. total v (copied (a * own) n t ++ copied_each b (a * own) ts)) (deferred-scaled b a own ts)
      ∙ total-append v (copied (a * own) (a * d) t) (copied_each b (a * own) ts)
      ∙ ap (λ n. n + total v (copied_each b (a * own) ts)) (total-scaled v a own d t)
      ∙ ap (λ n. a * total v (copied own d t) + n) (total-scaled-each v b a own ts)
      ∙ spread a (total v (copied own d t)) (total v (copied_each b own ts))
      ∙ ap (λ n. a * n) (sym (total-append v (copied own d t) (copied_each b own ts)))

-- ---- trees

same-inner : (b : Bool) (n : ℕ) → (if b then n else n) ≡ n
same-inner true n = refl
same-inner false n = refl

-- a tree, by its kids and itself
pub cost-tree : (s : Store) (b : Bool) (h : Head) (m : Mark) (ts : TypedNodes) (t : TypedNode) (inner : Amount) → marked h m ts ≡ t
    → b ≡ has_defers h.kind
    → inner ≡ cost_of s (copied_each b 1 ts) → plus inner (own_cost s t) ≡ cost_of s (copied 1 1 t)
cost-tree s b h m ts t inner v g e =
    let u = marked h m ts in
    ap (λ x. plus inner (own_cost s x)) (sym v)
    ∙ ap (λ x. plus x (own_cost s u)) e
    ∙ ap (λ d. plus (cost_of s (copied_each d 1 ts)) (own_cost s u)) g
    ∙ ap (λ n. plus (cost_of s (copied_each (has_defers h.kind) n ts)) (own_cost s u)) (sym (same-inner (is_defer h.kind) 1))
    ∙ ap (λ x. plus (cost_of s (copied_each (has_defers h.kind) (inner_copies h.kind 1 1) ts)) x) (cost_of-one s u)
    ∙ cost_of-append s (copied_each (has_defers h.kind) (inner_copies h.kind 1 1) ts) (once u ∷ [])
    ∙ ap (λ x. cost_of s (copied 1 1 x)) v

is_defer-block : (k : Kind) → is_defer k ≡ true → has_defers k ≡ false
is_defer-block kind.Block e = cc
is_defer-block kind.Case e = cc
is_defer-block kind.SwitchCase e = cc
is_defer-block _ e = refl

cost_of-scaled : (s : Store) (b : Bool) (l : ℕ) (ts : TypedNodes)
    → times (suc l) (cost_of s (copied_each b 1 ts)) ≡ cost_of s (copied_each b (suc l) ts)
cost_of-scaled s b l ts =
    let xs = copied_each b 1 ts in
    let one : suc l * 1 ≡ suc l = omega arith in
    let x : suc l * total (weight_of s) xs ≡ total (weight_of s) (copied_each b (suc l) ts)
    = sym (total-scaled-each (weight_of s) b (suc l) 1 ts) ∙ ap (λ n. total (weight_of s) (copied_each b n ts)) one in
    let y : suc l * total (node_frame s) xs ≡ total (node_frame s) (copied_each b (suc l) ts)
    = sym (total-scaled-each (node_frame s) b (suc l) 1 ts) ∙ ap (λ n. total (node_frame s) (copied_each b n ts)) one in
    times-amount l (total (weight_of s) xs) (total (node_frame s) xs)
    ∙ ap (λ n. amount n (suc l * total (node_frame s) xs)) x ∙ ap (amount (total (weight_of s) (copied_each b (suc l) ts))) y

-- a deferred expression runs once more than there are exits behind it
pub cost-defer : (s : Store) (l : ℕ) (b : Bool) (h : Head) (m : Mark) (ts : TypedNodes) (t : TypedNode) (inner : Amount)
    → marked h m ts ≡ t → is_defer h.kind ≡ true → b ≡ true
    → inner ≡ cost_of s (copied_each false 1 ts)
    → plus (times (suc l) inner) (own_cost s t) ≡ cost_of s (copied 1 (if b then 1 * suc l else 1) t)
cost-defer s l b h m ts t inner v d g e =
    let u = marked h m ts in
    let one : 1 * suc l ≡ suc l = omega arith in
    ap (λ x. plus (times (suc l) inner) (own_cost s x)) (sym v)
    ∙ ap (λ x. plus (times (suc l) x) (own_cost s u)) e
    ∙ ap (λ x. plus x (own_cost s u)) (cost_of-scaled s false l ts)
    ∙ ap (λ n. plus (cost_of s (copied_each false n ts)) (own_cost s u)) (sym one)
    ∙ ap (λ c. plus (cost_of s (copied_each false (if c then 1 * suc l else 1) ts)) (own_cost s u)) (sym d)
    ∙ ap (λ c. plus (cost_of s (copied_each c (inner_copies h.kind 1 (1 * suc l)) ts)) (own_cost s u)) (sym (is_defer-block h.kind d))
    ∙ ap (λ x. plus (cost_of s (copied_each (has_defers h.kind) (inner_copies h.kind 1 (1 * suc l)) ts)) x) (cost_of-one s u)
    ∙ cost_of-append s (copied_each (has_defers h.kind) (inner_copies h.kind 1 (1 * suc l)) ts) (once u ∷ [])
    ∙ ap (λ x. cost_of s (copied 1 (1 * suc l) x)) v
    ∙ ap (λ c. cost_of s (copied 1 (if c then 1 * suc l else 1) t)) (sym g)

-- ---- kids

-- the kids from one on, by that one and those behind it
pub cost-kids : (s : Store) (b : Bool) (ks : List TypedNode) (i j l : ℕ) (t : TypedNode) (own rest : Amount) → j ≡ i + 1
    → slice_get ks i ≡ Some t
    → l ≡ length (exits_each (typed_nodes (drop j ks))) → own ≡ cost_of s (copied 1 (if b then 1 * suc l else 1) t)
    → rest ≡ cost_of s (copied_each b 1 (typed_nodes (drop j ks)))
    → plus own rest ≡ cost_of s (copied_each b 1 (typed_nodes (drop i ks)))
cost-kids s b ks i j l t own rest q g n e f =
    let us = drop j ks in
    ap (λ x. plus x rest) e ∙ ap (λ x. plus (cost_of s (copied 1 (if b then 1 * suc l else 1) t)) x) f
    ∙ ap (λ k. plus (cost_of s (copied 1 (if b then 1 * suc k else 1) t)) (cost_of s (copied_each b 1 (typed_nodes us)))) n
    ∙ cost_of-append s (copied 1 (if b then deferred_copies 1 (typed_nodes us) else 1) t) (copied_each b 1 (typed_nodes us))
    ∙ ap (λ k. cost_of s (copied_each b 1 (typed_nodes (t ∷ drop k ks)))) q
    ∙ ap (λ xs. cost_of s (copied_each b 1 (typed_nodes xs))) (sym (drop-get ks i t g))

-- ---- parameters

abbrev pub parameters_cost : Store → List TypedNode → Amount
parameters_cost s ks = cost_of s (map once (params_among (typed_nodes ks)))

pub cost-parameters : (s : Store) (ks : List TypedNode) (i j : ℕ) (t : TypedNode) (own rest : Amount) → j ≡ i + 1
    → slice_get ks i ≡ Some t → own ≡ cost_of s (map once (as_parameter t))
    → rest ≡ parameters_cost s (drop j ks) → plus own rest ≡ parameters_cost s (drop i ks)
cost-parameters s ks i j t own rest q g e f =
    let us = drop j ks in
    ap (λ x. plus x rest) e ∙ ap (λ x. plus (cost_of s (map once (as_parameter t))) x) f
    ∙ cost_of-append s (map once (as_parameter t)) (map once (params_among (typed_nodes us)))
    ∙ ap (cost_of s) (sym (map-append once (as_parameter t) (params_among (typed_nodes us))))
    ∙ ap (λ k. parameters_cost s (t ∷ drop k ks)) q
    ∙ ap (parameters_cost s) (sym (drop-get ks i t g))

-- ---- declarations

listed-typed : (ts : List TypedNode) → listed_nodes (typed_nodes ts) ≡ ts
listed-typed [] = refl
listed-typed (t ∷ ts) = ap (λ us. t ∷ us) (listed-typed ts)

front-get : (ts : List TypedNode) (i : ℕ) (t : TypedNode) → slice_get ts i ≡ Some t → tree_from_front i ts ≡ t
front-get [] i t e = cc
front-get (u ∷ us) zero t e = cc
front-get (u ∷ us) (suc i) t e = front-get us i t e

front-past : (ts : List TypedNode) (i : ℕ) → length ts ≤ i → tree_from_front i ts ≡ missing
front-past [] i e = refl
front-past (u ∷ us) zero e = absurd (omega arith)
front-past (u ∷ us) (suc i) e = front-past us i (omega arith)

-- the parameters stand in the third kid
third : (s : Store) (h : Head) (m : Mark) (ks : List TypedNode) (f t : TypedNode) → marked h m (typed_nodes ks) ≡ f
    → tree_from_front 2 ks ≡ t
    → cost_of s (map once (params_among (kids_of t))) ≡ cost_of s (map once (parameters_of f))
third s h m ks f t v e =
    ap (λ u. cost_of s (map once (params_among (kids_of u)))) (sym e ∙ sym (ap (tree_from_front 2) (listed-typed ks)))
    ∙ ap (λ u. cost_of s (map once (parameters_of u))) v

pub third-get : (s : Store) (h : Head) (m : Mark) (ks : List TypedNode) (f : TypedNode) (x : Head) (y : Mark) (us : List TypedNode)
    (t : TypedNode) → marked h m (typed_nodes ks) ≡ f
    → slice_get ks 2 ≡ Some t → marked x y (typed_nodes us) ≡ t → parameters_cost s us ≡ cost_of s (map once (parameters_of f))
third-get s h m ks f x y us t v e w =
    ap (λ u. cost_of s (map once (params_among (kids_of u)))) w ∙ third s h m ks f t v (front-get ks 2 t e)

pub third-past : (s : Store) (h : Head) (m : Mark) (ks : List TypedNode) (f : TypedNode) → marked h m (typed_nodes ks) ≡ f → length ks ≤ 2
    → none ≡ cost_of s (map once (parameters_of f))
third-past s h m ks f v e = third s h m ks f missing v (front-past ks 2 e)

last-get : (ts : List TypedNode) (i : ℕ) (t : TypedNode) → i + 1 ≡ length ts → slice_get ts i ≡ Some t → last_of ts ≡ t ∷ []
last-get [] i t h e = absurd (omega arith)
last-get (u ∷ []) zero t h e = let k : u ≡ t = cc in ap (λ x. x ∷ []) k
last-get (u ∷ []) (suc i) t h e = absurd (omega arith)
last-get (u ∷ v ∷ vs) zero t h e = absurd (omega arith)
last-get (u ∷ v ∷ vs) (suc i) t h e = last-get (v ∷ vs) i t (omega arith) e

-- the body is the last kid
pub body-last : (s : Store) (h : Head) (m : Mark) (ks : List TypedNode) (f : TypedNode) (i : ℕ) (t : TypedNode)
    → marked h m (typed_nodes ks) ≡ f → i + 1 ≡ length ks → slice_get ks i ≡ Some t
    → cost_of s (copied 1 1 t) ≡ cost_of s (flat_map (copied 1 1) (body_of f))
body-last s h m ks f i t v w e =
    ap (cost_of s) (sym (append-nil (copied 1 1 t)))
    ∙ ap (λ us. cost_of s (flat_map (copied 1 1) us)) (sym (last-get ks i t w e) ∙ sym (ap last_of (listed-typed ks)))
    ∙ ap (λ u. cost_of s (flat_map (copied 1 1) (body_of u))) v
