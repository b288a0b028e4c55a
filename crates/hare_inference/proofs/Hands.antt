-- What is settled of trees that have been judged stays, while others are judged.
use Rattle.std.proofs.Common.{◌≡◌, ℕ, zero, suc, ◌+◌, ◌<◌, ◌≤◌, List, [], ◌∷◌, ◌++◌, map, length, refl, ap, ◌∙◌, arith, Bool, true, false, Option, Some, None}
use Rattle.std.specs.Prelude.{slice_index_or, slice_set, cond}
use Rattle.hare_tree.specs.Node.{Head, Node, branch}
use Rattle.hare_types.specs.declared.coercion.Coercion.{Coercion}
use Rattle.hare_typed.specs.Typed.{TypedNode, TypedNodes, marked, typed_none, typed_more}
use Rattle.hare_typed.specs.Erased.{erase, erase_each}
use Rattle.hare_typed.specs.Numbers.{number_of}
use Rattle.hare_typed.specs.Coats.{coat, coat_each}
use Rattle.hare_rules.specs.Context.{Setting, Context}
use Rattle.hare_rules.specs.Above.{Above, over_kid, trees_in}
use Rattle.hare_rules.specs.Settles.{Settled, target_of, settled_where, settles_from, settles_kids}
use Rattle.hare_rules.specs.Types.{type_of}
use Rattle.hare_rules.specs.Flow.{Flow, count, write_each, context, flow_before, settled_type, is_behind_operand, each_entry}
use Rattle.hare_rules.specs.Finished.{bare, bare_each, behind, behind_each, AllCarry, EachCarries}
use Rattle.hare_inference.specs.Hands.{IsBelow, AreBelow, JudgedTreesStay}
use Rattle.hare_inference.proofs.Orders.{number_of-root, count-flow_before, count-flow_after, count-behind, count-behind_each}

-- ---- what is written behind a front leaves it

-- each is of a node from this number on
unfoldable pub AreFrom : ℕ → List Settled → Type 0
AreFrom n [] = Unit {0}
AreFrom n (s ∷ ss) = (n ≤ s.node) × AreFrom n ss

index-set_other : (cs : List Coercion) (i j : ℕ) (c d : Coercion) → i < j → slice_index_or (slice_set cs j c) i d ≡ slice_index_or cs i d
index-set_other [] i j c d h = refl
index-set_other (x ∷ cs) i zero c d h = absurd (omega arith)
index-set_other (x ∷ cs) zero (suc j) c d h = refl
index-set_other (x ∷ cs) (suc i) (suc j) c d h = index-set_other cs i j c d (omega arith)

pub index-write_each : (ss : List Settled) (cs : List Coercion) (n i : ℕ) (d : Coercion) → AreFrom n ss → i < n →
    slice_index_or (write_each ss cs) i d ≡ slice_index_or cs i d
unfolding AreFrom
index-write_each [] cs n i d k h = refl
index-write_each (s ∷ ss) cs n i d k h =
    let j : i < s.node = let q = k.0 in omega (arith, q, h) in
    index-write_each ss (slice_set cs s.node s.coercion) n i d k.1 h ∙ index-set_other cs i s.node s.coercion d j

index-front : (cs ds : List Coercion) (i : ℕ) (d : Coercion) → i < length cs → slice_index_or (cs ++ ds) i d ≡ slice_index_or cs i d
index-front [] ds i d h = absurd (omega arith)
index-front (c ∷ cs) ds zero d h = refl
index-front (c ∷ cs) ds (suc i) d h = index-front cs ds i d (omega arith)

-- ---- the kids of a node have numbers from its beginning on

-- each has a number from this one on
unfoldable pub AreNumberedFrom : ℕ → List TypedNode → Type 0
AreNumberedFrom n [] = Unit {0}
AreNumberedFrom n (x ∷ xs) = (n ≤ number_of x) × AreNumberedFrom n xs

pub numbered-more : (n m : ℕ) (xs : List TypedNode) → n ≤ m → AreNumberedFrom m xs → AreNumberedFrom n xs
unfolding AreNumberedFrom
numbered-more n m [] h k = tt
numbered-more n m (x ∷ xs) h k = (let q = k.0 in omega (arith, q, h), numbered-more n m xs h k.1)

number_of-coat_bare : (cs : List Coercion) (t : TypedNode) → number_of (coat cs (bare t)) ≡ number_of t
number_of-coat_bare cs (marked h m ts) = refl

one_tree : (t : Node) → 0 < trees_in t
one_tree (branch h ts) = omega arith

kids_numbered : (w : Setting) (a : Above) (h : Head) (xs : List TypedNode) (ts : TypedNodes) (f : Flow) (cs : List Coercion) →
    EachCarries w a h xs ts f → AreNumberedFrom (count f) (map (coat cs) (bare_each ts))
unfolding AreNumberedFrom
kids_numbered w a h xs typed_none f cs k = tt
kids_numbered w a h xs (typed_more t ts) f cs k =
    let o = over_kid w a h xs (erase t) (erase_each ts) in
    let g = flow_before w a h xs f in
    let b : count g ≡ count f = count-flow_before w a h xs f in
    let i = number_of-root w o t g k.0 in
    let j = count-behind w o t g in
    let p : count f ≤ number_of (coat cs (bare t)) = omega (arith, b, i, one_tree (erase t), number_of-coat_bare cs t) in
    let q : count f ≤ count (behind w o t g) = omega (arith, b, j) in
    let r = kids_numbered w a h (xs ++ bare t ∷ []) ts (behind w o t g) cs k.1 in
    (p, numbered-more (count f) (count (behind w o t g)) (map (coat cs) (bare_each ts)) q r)

pub settled-from : (c : Context) (n i : ℕ) (xs : List TypedNode) → AreNumberedFrom n xs → AreFrom n (settles_from c i xs)
unfolding AreNumberedFrom AreFrom
settled-from c n i [] k = tt
settled-from c n i (x ∷ xs) k = by_target (target_of c c.head.kind i) (settled-from c n (suc i) xs k.1) where
  by_target : (o : Option ℕ) → AreFrom n (settles_from c (suc i) xs) → AreFrom n (settled_where c x i o ++ settles_from c (suc i) xs)
  by_target None r = r
  by_target (Some t) r = (k.0, r)

-- ---- what is settled before a tree

pub coercions-before : (w : Setting) (a : Above) (h : Head) (xs : List TypedNode) (f : Flow) →
    (flow_before w a h xs f).coercions ≡ f.coercions
coercions-before w a h xs f = by_kind (is_behind_operand h.kind (length xs)) where
  by_kind : (b : Bool) → (cond b (record f { locals = slice_set f.locals a.first (each_entry w h xs) }) f).coercions ≡ f.coercions
  by_kind true = refl
  by_kind false = refl

mutual
  pub settled-behind : (w : Setting) (a : Above) (t : TypedNode) (f : Flow) (i : ℕ) (d : Coercion) → AllCarry w a t f → i < count f →
      slice_index_or (behind w a t f).coercions i d ≡ slice_index_or f.coercions i d
  settled-behind w a (marked h m ts) f i d k l =
      let g = behind_each w a h [] ts f in
      let c = context w a h (bare_each ts) g in
      let r = settled_type c (type_of c) in
      let n = kids_numbered w a h [] ts f g.coercions k.0 in
      let j : i < length g.coercions = omega (arith, l, count-behind_each w a h [] ts f) in
      index-write_each (settles_kids c) (g.coercions ++ r ∷ []) (count f) i d (settled-from c (count f) 0 c.kids n) l
      ∙ index-front g.coercions (r ∷ []) i d j
      ∙ settled-behind_each w a h [] ts f i d k.0 l

  pub settled-behind_each : (w : Setting) (a : Above) (h : Head) (xs : List TypedNode) (ts : TypedNodes) (f : Flow) (i : ℕ) (d : Coercion) →
      EachCarries w a h xs ts f → i < count f → slice_index_or (behind_each w a h xs ts f).coercions i d ≡ slice_index_or f.coercions i d
  settled-behind_each w a h xs typed_none f i d k l = refl
  settled-behind_each w a h xs (typed_more t ts) f i d k l =
      let o = over_kid w a h xs (erase t) (erase_each ts) in
      let g = flow_before w a h xs f in
      let b : count g ≡ count f = count-flow_before w a h xs f in
      let p : i < count g = omega (arith, b, l) in
      let q : i < count (behind w o t g) = omega (arith, p, count-behind w o t g) in
      settled-behind_each w a h (xs ++ bare t ∷ []) ts (behind w o t g) i d k.1 q
      ∙ settled-behind w o t g i d k.0 p
      ∙ ap (λ cs. slice_index_or cs i d) (coercions-before w a h xs f)

-- ---- coats

-- both have the same for each number below this one
Agree : ℕ → List Coercion → List Coercion → Type 0
Agree n cs ds = (i : ℕ) (d : Coercion) → i < n → slice_index_or cs i d ≡ slice_index_or ds i d

mutual
  unfolding Agree

  coat-agree : (n : ℕ) (cs ds : List Coercion) (t : TypedNode) → Agree n cs ds → IsBelow n t → coat cs t ≡ coat ds t
  coat-agree n cs ds (marked h m ts) e k =
      let a = e m.node m.coerce k.0 in
      let b = coat_each-agree n cs ds ts e k.1 in
      rw (a, b) refl

  coat_each-agree : (n : ℕ) (cs ds : List Coercion) (ts : TypedNodes) → Agree n cs ds → AreBelow n ts → coat_each cs ts ≡ coat_each ds ts
  coat_each-agree n cs ds typed_none e k = refl
  coat_each-agree n cs ds (typed_more t ts) e k = rw (coat-agree n cs ds t e k.0, coat_each-agree n cs ds ts e k.1) refl

pub coats-behind : (w : Setting) (a : Above) (t : TypedNode) (f : Flow) (u : TypedNode) → AllCarry w a t f → IsBelow (count f) u →
    coat (behind w a t f).coercions u ≡ coat f.coercions u
unfolding Agree
coats-behind w a t f u k b =
    coat-agree (count f) (behind w a t f).coercions f.coercions u (λ i d l. settled-behind w a t f i d k l) b

index-within : (ds : List Coercion) (i : ℕ) (c d : Coercion) → i < length ds → slice_index_or ds i c ≡ slice_index_or ds i d
index-within [] i c d h = absurd (omega arith)
index-within (x ∷ ds) zero c d h = refl
index-within (x ∷ ds) (suc i) c d h = index-within ds i c d (omega arith)

mutual
  pub coat-coat : (cs ds : List Coercion) (t : TypedNode) → IsBelow (length ds) t → coat ds (coat cs t) ≡ coat ds t
  coat-coat cs ds (marked h m ts) k =
      let a = index-within ds m.node (slice_index_or cs m.node m.coerce) m.coerce k.0 in
      let b = coat_each-coat_each cs ds ts k.1 in
      rw (a, b) refl

  coat_each-coat_each : (cs ds : List Coercion) (ts : TypedNodes) → AreBelow (length ds) ts →
      coat_each ds (coat_each cs ts) ≡ coat_each ds ts
  coat_each-coat_each cs ds typed_none k = refl
  coat_each-coat_each cs ds (typed_more t ts) k = rw (coat-coat cs ds t k.0, coat_each-coat_each cs ds ts k.1) refl

-- ---- the numbers of a tree

mutual
  pub below-more : (n m : ℕ) (t : TypedNode) → n ≤ m → IsBelow n t → IsBelow m t
  below-more n m (marked h k ts) l b = (let q = b.0 in omega (arith, q, l), below_each-more n m ts l b.1)

  pub below_each-more : (n m : ℕ) (ts : TypedNodes) → n ≤ m → AreBelow n ts → AreBelow m ts
  below_each-more n m typed_none l b = tt
  below_each-more n m (typed_more t ts) l b = (below-more n m t l b.0, below_each-more n m ts l b.1)

mutual
  pub below-behind : (w : Setting) (a : Above) (t : TypedNode) (f : Flow) → AllCarry w a t f → IsBelow (count (behind w a t f)) t
  below-behind w a (marked h m ts) f k =
      let g = behind_each w a h [] ts f in
      let n = count (behind w a (marked h m ts) f) in
      let e : n ≡ count g + 1 = count-flow_after w a h (bare_each ts) g in
      let p : m.node < n = omega (arith, e, k.1.node) in
      let q : count g ≤ n = omega (arith, e) in
      (p, below_each-more (count g) n ts q (below-behind_each w a h [] ts f k.0))

  pub below-behind_each : (w : Setting) (a : Above) (h : Head) (xs : List TypedNode) (ts : TypedNodes) (f : Flow) →
      EachCarries w a h xs ts f →
      AreBelow (count (behind_each w a h xs ts f)) ts
  below-behind_each w a h xs typed_none f k = tt
  below-behind_each w a h xs (typed_more t ts) f k =
      let o = over_kid w a h xs (erase t) (erase_each ts) in
      let g = behind w o t (flow_before w a h xs f) in
      let n = count (behind_each w a h (xs ++ bare t ∷ []) ts g) in
      let q : count g ≤ n = omega (arith, count-behind_each w a h (xs ++ bare t ∷ []) ts g) in
      (below-more (count g) n t q (below-behind w o t (flow_before w a h xs f) k.0), below-behind_each w a h (xs ++ bare t ∷ []) ts g k.1)

pub trees_stay : JudgedTreesStay
trees_stay w a f =
    record {
      settled = λ t i d k l. settled-behind w a t f i d k l;
      coats = λ t u k b. coats-behind w a t f u k b;
      below = λ t k. below-behind w a t f k;
      upper = coat-coat;
    }
