-- How many copies a node has, from how many it has within its kid.
use Rattle.std.proofs.Common.{◌≡◌, ◌≢◌, ℕ, zero, suc, ◌+◌, ◌*◌, ◌<◌, ◌≤◌, Bool, true, false, cond, if◌then◌else◌, List, [], ◌∷◌, ◌++◌, length, map, drop, min, Some, None, Option, ◌⊎◌, inl, inr, refl, ap, sym, ◌∙◌, arith, lit≤}
use Rattle.std.specs.Prelude.{find, option_map, ◌==◌, slice_get}
use Rattle.std.specs.Option.{option_or}
use Rattle.std.proofs.lemmas.List.{map-append}
use Rattle.std.proofs.lemmas.List.Folds.{find-append}
use Rattle.std.proofs.Math.Nat.{mul_assoc, mul_comm, mul-one, one-mul, mul-le-mul}
use Rattle.std.proofs.lemmas.Bool.{cases_lt, eq-eqb}
use Rattle.std.proofs.lemmas.Bool.Decides.{eqb_tells}
use Rattle.hare_tree.specs.declared.kind.Kind.{Kind}
use Rattle.hare_tree.specs.declared.kind.Kind.TheVariants as kind
use Rattle.hare_tree.specs.Node.{Head}
use Rattle.hare_typed.specs.Typed.{TypedNode, TypedNodes, Mark, marked, typed_none, typed_more, typed_nodes}
use Rattle.hare_typed.specs.Copies.{Exit, Copied, copied, copied_each, deferred_copies, inner_copies, is_defer, has_defers, has_number, exits_each}
use Rattle.hare_typed.specs.Rounds.{Frame, most, capped, leaving}
use Rattle.hare_typed.proofs.ExitLemmas.{drop-get}

-- ---- copies of copies

-- the node with so many times its copies
abbrev pub scaled : ℕ → Copied → Copied
scaled a x = record x { times = a * x.times }

if-scaled : (b : Bool) (a m n : ℕ) → (if b then a * m else a * n) ≡ a * (if b then m else n)
if-scaled true a m n = refl
if-scaled false a m n = refl

deferred-scaled : (b : Bool) (a own : ℕ) (ts : TypedNodes) →
    (if b then deferred_copies (a * own) ts else a * own) ≡ a * (if b then deferred_copies own ts else own)
deferred-scaled true a own ts = mul_assoc a own (suc (length (exits_each ts)))
deferred-scaled false a own ts = refl

mutual
  copied-scaled : (a own deferred : ℕ) (t : TypedNode) → copied (a * own) (a * deferred) t ≡ map (scaled a) (copied own deferred t)
  copied-scaled a own deferred (marked h m ts) =
      let last : Copied = record { tree = marked h m ts; times = own } in
      ap (λ n. copied_each (has_defers h.kind) n ts ++ scaled a last ∷ []) (if-scaled (is_defer h.kind) a deferred own)
      ∙ ap (λ xs. xs ++ scaled a last ∷ []) (copied_each-scaled (has_defers h.kind) a (inner_copies h.kind own deferred) ts)
      ∙ sym (map-append (scaled a) (copied_each (has_defers h.kind) (inner_copies h.kind own deferred) ts) (last ∷ []))

  copied_each-scaled : (b : Bool) (a own : ℕ) (ts : TypedNodes) → copied_each b (a * own) ts ≡ map (scaled a) (copied_each b own ts)
  copied_each-scaled b a own typed_none = refl
  copied_each-scaled b a own (typed_more t ts) =
      let d = if b then deferred_copies own ts else own in
      ap (λ n. copied (a * own) n t ++ copied_each b (a * own) ts) (deferred-scaled b a own ts)
      ∙ ap (λ xs. xs ++ copied_each b (a * own) ts) (copied-scaled a own d t)
      ∙ ap (λ xs. map (scaled a) (copied own d t) ++ xs) (copied_each-scaled b a own ts)
      ∙ sym (map-append (scaled a) (copied own d t) (copied_each b own ts))

-- ---- what is found

choice-scaled : (b : Bool) (a : ℕ) (x : Copied) (o : Option Copied) →
    cond b (Some (scaled a x)) (option_map (scaled a) o) ≡ option_map (scaled a) (cond b (Some x) o)
choice-scaled true a x o = refl
choice-scaled false a x o = refl

find-scaled : (n a : ℕ) (xs : List Copied) → find (has_number n) (map (scaled a) xs) ≡ option_map (scaled a) (find (has_number n) xs)
find-scaled n a [] = refl
find-scaled n a (x ∷ xs) = ap (cond (has_number n x) (Some (scaled a x))) (find-scaled n a xs) ∙ choice-scaled (has_number n x) a x
    (find (has_number n) xs)

-- the node by itself
abbrev pub itself : Bool → TypedNode → ℕ → Option Copied
itself b t own = cond b (Some (record { tree = t; times = own })) None

-- a node is found among its kids, or is itself the one
pub find-copied : (n own deferred : ℕ) (h : Head) (m : Mark) (ts : TypedNodes) → find (has_number n) (copied own deferred (marked h m ts))
    ≡ option_or (find (has_number n) (copied_each (has_defers h.kind) (inner_copies h.kind own deferred) ts))
    (itself (m.node == n) (marked h m ts) own)
find-copied n own deferred h m ts = find-append (has_number n) (copied_each (has_defers h.kind) (inner_copies h.kind own deferred) ts)
    (record { tree = marked h m ts; times = own } ∷ [])

-- ---- caps

big-left : (a b m : ℕ) → m ≤ a → 1 ≤ b → m ≤ a * b
big-left a b m h k = let p = mul-le-mul h k in omega (arith, p)

big-right : (a b m : ℕ) → 1 ≤ a → m ≤ b → m ≤ a * b
big-right a b m h k = let p = mul-le-mul h k in omega (arith, p)

-- A product is capped alike where its factors were.
product : (k l m : ℕ) → 1 ≤ m → (k < m) ⊎ (m ≤ k) → (l < m) ⊎ (m ≤ l) → min (min k m * min (min l m + 1) m) m ≡ min (suc l * k) m
product zero l m h a b =
    let none : min 0 m ≡ 0 = omega arith in
    ap (λ x. min (x * min (min l m + 1) m) m) none ∙ omega arith
product (suc k) l m h (inl a) (inl b) =
    let left : min (suc k) m ≡ suc k = omega arith in
    let right : min (min l m + 1) m ≡ suc l = omega arith in
    ap (λ x. min (x * min (min l m + 1) m) m) left ∙ ap (λ x. min (suc k * x) m) right ∙ ap (λ x. min x m) (mul_comm (suc k) (suc l))
product (suc k) l m h (inl a) (inr b) =
    let left : m ≤ min (suc k) m * min (min l m + 1) m = big-right (min (suc k) m) (min (min l m + 1) m) m (omega arith) (omega arith) in
    let right : m ≤ suc l * suc k = big-left (suc l) (suc k) m (omega arith) (omega arith) in
    omega arith
product (suc k) l m h (inr a) b =
    let left : m ≤ min (suc k) m * min (min l m + 1) m = big-left (min (suc k) m) (min (min l m + 1) m) m (omega arith) (omega arith) in
    let right : m ≤ suc l * suc k = big-right (suc l) (suc k) m (omega arith) (omega arith) in
    omega arith

pub capped-product : (k l : ℕ) → min (min k most * min (min l most + 1) most) most ≡ min (1 * suc l * k) most
capped-product k l = product k l most (lit≤ tt) (cases_lt k most) (cases_lt l most) ∙ ap (λ x. min (x * k) most) (sym (one-mul (suc l)))

-- ---- what a program finds

pub same-number : (a b : ℕ) → a ≡ b → (a == b) ≡ true
same-number a b e = eq-eqb a b e

pub other-number : (a b : ℕ) → a ≢ b → (a == b) ≡ false
other-number a b e = elim (eqb_tells a b) [ inl h ↦ absurd (e h.1) | inr h ↦ h.0 ]

capped-left : (a b : Option Copied) (k : ℕ) → Some k ≡ capped a → Some k ≡ capped (option_or a b)
capped-left None b k e = cc
capped-left (Some x) b k e = e

capped-right : (a b : Option Copied) → None ≡ capped a → capped b ≡ capped (option_or a b)
capped-right None b e = refl
capped-right (Some x) b e = cc

inner-same : (b : Bool) (own : ℕ) → (if b then own else own) ≡ own
inner-same true own = refl
inner-same false own = refl

-- what is found in a node, from what is found among its kids
node-found : (n : ℕ) (h : Head) (m : Mark) (ts : TypedNodes) (t : TypedNode) → marked h m ts ≡ t
    → capped (option_or (find (has_number n) (copied_each (has_defers h.kind) 1 ts)) (itself (m.node == n) (marked h m ts) 1)) ≡
    capped (find (has_number n) (copied 1 1 t))
node-found n h m ts t v =
    ap (λ i. capped (option_or (find (has_number n) (copied_each (has_defers h.kind) i ts)) (itself (m.node == n) (marked h m ts) 1)))
    (sym (inner-same (is_defer h.kind) 1))
    ∙ ap capped (sym (find-copied n 1 1 h m ts)) ∙ ap (λ u. capped (find (has_number n) (copied 1 1 u))) v

pub found-among : (n k : ℕ) (b : Bool) (h : Head) (m : Mark) (ts : TypedNodes) (t : TypedNode) → marked h m ts ≡ t → b ≡ has_defers h.kind
    → Some k ≡ capped (find (has_number n) (copied_each b 1 ts)) → Some k ≡ capped (find (has_number n) (copied 1 1 t))
found-among n k b h m ts t v g f =
    let e = f ∙ ap (λ d. capped (find (has_number n) (copied_each d 1 ts))) g in
    capped-left (find (has_number n) (copied_each (has_defers h.kind) 1 ts)) (itself (m.node == n) (marked h m ts) 1) k e ∙ node-found n h m
    ts t v

-- the answer of a node that is not among the kids
abbrev pub answer : Bool → Option ℕ
answer b = cond b (Some 1) None

answer-itself : (b : Bool) (t : TypedNode) → answer b ≡ capped (itself b t 1)
answer-itself true t = refl
answer-itself false t = refl

pub found-itself : (n : ℕ) (b g : Bool) (h : Head) (m : Mark) (ts : TypedNodes) (t : TypedNode) → marked h m ts ≡ t → g ≡ has_defers h.kind
    → None ≡ capped (find (has_number n) (copied_each g 1 ts)) → (m.node == n) ≡ b → answer b ≡ capped (find (has_number n) (copied 1 1 t))
found-itself n b g h m ts t v i f d =
    let e = f ∙ ap (λ j. capped (find (has_number n) (copied_each j 1 ts))) i in
    ap answer (sym d) ∙ answer-itself (m.node == n) (marked h m ts)
    ∙ capped-right (find (has_number n) (copied_each (has_defers h.kind) 1 ts)) (itself (m.node == n) (marked h m ts) 1) e ∙ node-found n h
    m ts t v

-- ---- defers

is_defer-block : (k : Kind) → is_defer k ≡ true → has_defers k ≡ false
is_defer-block kind.Block e = cc
is_defer-block kind.Case e = cc
is_defer-block kind.SwitchCase e = cc
is_defer-block _ e = refl

-- what is found in a defer, from what is found in its expression for each copy of that
defer-found : (n d : ℕ) (h : Head) (m : Mark) (ts : TypedNodes) (t : TypedNode) → marked h m ts ≡ t → is_defer h.kind ≡ true
    → capped (option_or (option_map (scaled d) (find (has_number n) (copied_each false 1 ts))) (itself (m.node == n) (marked h m ts) 1)) ≡
    capped (find (has_number n) (copied 1 d t))
defer-found n d h m ts t v e =
    let own = itself (m.node == n) (marked h m ts) 1 in
    ap (λ o. capped (option_or o own)) (sym (find-scaled n d (copied_each false 1 ts)))
    ∙ ap (λ xs. capped (option_or (find (has_number n) xs) own)) (sym (copied_each-scaled false d 1 ts))
    ∙ ap (λ i. capped (option_or (find (has_number n) (copied_each false i ts)) own)) (mul-one d)
    ∙ ap (λ b. capped (option_or (find (has_number n) (copied_each false (if b then d else 1) ts)) own)) (sym e)
    ∙ ap (λ b. capped (option_or (find (has_number n) (copied_each b (inner_copies h.kind 1 d) ts)) own)) (sym (is_defer-block h.kind e))
    ∙ ap capped (sym (find-copied n 1 d h m ts)) ∙ ap (λ u. capped (find (has_number n) (copied 1 d u))) v

-- the copies of what was found, so many times
capped-times : (k l : ℕ) (o : Option Copied) → Some k ≡ capped o →
    Some (min (k * min (min l most + 1) most) most) ≡ capped (option_map (scaled (1 * suc l)) o)
capped-times k l None e = cc
capped-times k l (Some x) e =
    let h : k ≡ min x.times most = cc in
    ap (λ i. Some (min (i * min (min l most + 1) most) most)) h ∙ ap Some (capped-product x.times l)

capped-nothing : (a : ℕ) (o : Option Copied) → None ≡ capped o → None ≡ capped (option_map (scaled a) o)
capped-nothing a None e = refl
capped-nothing a (Some x) e = cc

-- with nothing round it, each exit leaves
leaving-nothing : (es : List Exit) → leaving [] es ≡ es
leaving-nothing [] = refl
leaving-nothing (e ∷ es) = ap (λ xs. e ∷ xs) (leaving-nothing es)

pub found-deferred : (n k l runs r : ℕ) (b : Bool) (fs : List Frame) (h : Head) (m : Mark) (ts behind : TypedNodes) (t : TypedNode) →
    marked h m ts ≡ t → is_defer h.kind ≡ true
    → Some k ≡ capped (find (has_number n) (copied_each false 1 ts)) → fs ≡ [] → l ≡ min (length (leaving fs (exits_each behind))) most →
    runs ≡ min (l + 1) most → r ≡ min (k * runs) most
    → b ≡ true → Some r ≡ capped (find (has_number n) (copied 1 (if b then deferred_copies 1 behind else 1) t))
found-deferred n k l runs r b fs h m ts behind t v e f i a d c g =
    let count : l ≡ min (length (exits_each behind)) most =
    a ∙ ap (λ gs. min (length (leaving gs (exits_each behind))) most) i ∙ ap (λ es. min (length es) most)
    (leaving-nothing (exits_each behind)) in
    let all : r ≡ min (k * min (min (length (exits_each behind)) most + 1) most) most =
    c ∙ ap (λ i. min (k * i) most) d ∙ ap (λ i. min (k * min (i + 1) most) most) count in
    let found = find (has_number n) (copied_each false 1 ts) in
    capped-left (option_map (scaled (deferred_copies 1 behind)) found) (itself (m.node == n) (marked h m ts) 1) r
    (ap Some all ∙ capped-times k (length (exits_each behind)) found f)
    ∙ defer-found n (deferred_copies 1 behind) h m ts t v e ∙ ap
    (λ j. capped (find (has_number n) (copied 1 (if j then deferred_copies 1 behind else 1) t))) (sym g)

pub found-defer : (n d : ℕ) (b : Bool) (h : Head) (m : Mark) (ts : TypedNodes) (t : TypedNode) → marked h m ts ≡ t → is_defer h.kind ≡ true
    → None ≡ capped (find (has_number n) (copied_each false 1 ts)) → (m.node == n) ≡ b →
    answer b ≡ capped (find (has_number n) (copied 1 d t))
found-defer n d b h m ts t v e f g =
    let found = find (has_number n) (copied_each false 1 ts) in
    ap answer (sym g) ∙ answer-itself (m.node == n) (marked h m ts)
    ∙ capped-right (option_map (scaled d) found) (itself (m.node == n) (marked h m ts) 1) (capped-nothing d found f)
    ∙ defer-found n d h m ts t v e

-- ---- kids

-- the first kid from a place on, and those behind it
abbrev pub kid_times : Bool → ℕ → List TypedNode → ℕ → TypedNode → Option ℕ
kid_times b n ks i t = capped (find (has_number n) (copied 1 (if b then deferred_copies 1 (typed_nodes (drop (i + 1) ks)) else 1) t))

abbrev pub kids_times : Bool → ℕ → List TypedNode → Option ℕ
kids_times b n ks = capped (find (has_number n) (copied_each b 1 (typed_nodes ks)))

kids-found : (b : Bool) (n : ℕ) (ks : List TypedNode) (i : ℕ) (t : TypedNode) → slice_get ks i ≡ Some t
    → kids_times b n (drop i ks) ≡ capped (option_or
    (find (has_number n) (copied 1 (if b then deferred_copies 1 (typed_nodes (drop (i + 1) ks)) else 1) t))
    (find (has_number n) (copied_each b 1 (typed_nodes (drop (i + 1) ks)))))
kids-found b n ks i t e =
    let rest = drop (i + 1) ks in
    ap (λ us. kids_times b n us) (drop-get ks i t e)
    ∙ ap capped (find-append (has_number n) (copied 1 (if b then deferred_copies 1 (typed_nodes rest) else 1) t)
    (copied_each b 1 (typed_nodes rest)))

pub found-here : (b : Bool) (n k : ℕ) (ks : List TypedNode) (i : ℕ) (t : TypedNode) → slice_get ks i ≡ Some t →
    Some k ≡ kid_times b n ks i t
    → kids_times b n (drop i ks) ≡ kids_times b n ks → Some k ≡ kids_times b n ks
found-here b n k ks i t e h w =
    capped-left (find (has_number n) (copied 1 (if b then deferred_copies 1 (typed_nodes (drop (i + 1) ks)) else 1) t))
    (find (has_number n) (copied_each b 1 (typed_nodes (drop (i + 1) ks)))) k h
    ∙ sym (kids-found b n ks i t e) ∙ w

pub found-later : (b : Bool) (n : ℕ) (ks : List TypedNode) (i : ℕ) (t : TypedNode) → slice_get ks i ≡ Some t → None ≡ kid_times b n ks i t
    → kids_times b n (drop i ks) ≡ kids_times b n ks → kids_times b n (drop (i + 1) ks) ≡ kids_times b n ks
found-later b n ks i t e h w =
    capped-right (find (has_number n) (copied 1 (if b then deferred_copies 1 (typed_nodes (drop (i + 1) ks)) else 1) t))
    (find (has_number n) (copied_each b 1 (typed_nodes (drop (i + 1) ks)))) h
    ∙ sym (kids-found b n ks i t e) ∙ w
