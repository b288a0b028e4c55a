-- What a node's turn settles: its own coercion, and those of its kids.
use Rattle.std.proofs.Common.{◌≡◌, ℕ, zero, suc, ◌<◌, ◌≤◌, List, [], ◌∷◌, ◌++◌, map, length, refl, ap, sym, ◌∙◌, subst, arith, Option, Some, None}
use Rattle.std.specs.Prelude.{slice_index_or, slice_set}
use Rattle.std.proofs.lemmas.List.{length-append, length-set}
use Rattle.hare_tree.specs.Node.{Head}
use Rattle.hare_types.specs.declared.coercion.Coercion.{Coercion}
use Rattle.hare_typed.specs.Typed.{TypedNode, TypedNodes, marked, typed_none, typed_more, typed_nodes, kids_of}
use Rattle.hare_typed.specs.Erased.{erase, erase_each}
use Rattle.hare_typed.specs.Numbers.{number_of}
use Rattle.hare_typed.specs.Coats.{coat, coat_each}
use Rattle.hare_rules.specs.Context.{Setting, Context}
use Rattle.hare_rules.specs.Above.{Above, over_kid}
use Rattle.hare_rules.specs.Settles.{Settled, same, target_of, kid_coercion, settled_where, settles_from, settles_kids, settled_kid, settled_from}
use Rattle.hare_rules.specs.Types.{type_of}
use Rattle.hare_rules.specs.Flow.{Flow, count, write_each, context, flow_before, settled_type}
use Rattle.hare_rules.specs.Finished.{bare, bare_each, behind, behind_each, AllCarry, EachCarries}
use Rattle.hare_inference.specs.Hands.{IsBelow, AreBelow}
use Rattle.hare_inference.specs.Turns.{TurnsSettle}
use Rattle.hare_inference.proofs.Orders.{number_of-root, count-flow_before, count-behind, count-behind_each}
use Rattle.hare_inference.proofs.Hands.{AreNumberedFrom, numbered-more, index-write_each, settled-from, below-behind_each}

-- ---- numbers from a beginning on

abbrev mutual
  IsFrom : ℕ → TypedNode → Type 0
  IsFrom n (marked h m ts) = (n ≤ m.node) × EachFrom n ts

  EachFrom : ℕ → TypedNodes → Type 0
  EachFrom n typed_none = Unit {0}
  EachFrom n (typed_more t ts) = IsFrom n t × EachFrom n ts

mutual
  from-more : (n m : ℕ) (t : TypedNode) → n ≤ m → IsFrom m t → IsFrom n t
  from-more n m (marked h k ts) l b = (let q = b.0 in omega (arith, q, l), each_from-more n m ts l b.1)

  each_from-more : (n m : ℕ) (ts : TypedNodes) → n ≤ m → EachFrom m ts → EachFrom n ts
  each_from-more n m typed_none l b = tt
  each_from-more n m (typed_more t ts) l b = (from-more n m t l b.0, each_from-more n m ts l b.1)

mutual
  from-behind : (w : Setting) (a : Above) (t : TypedNode) (f : Flow) → AllCarry w a t f → IsFrom (count f) (bare t)
  from-behind w a (marked h m ts) f k = (omega (arith, k.1.node, count-behind_each w a h [] ts f), each_from-behind w a h [] ts f k.0)

  each_from-behind : (w : Setting) (a : Above) (h : Head) (xs : List TypedNode) (ts : TypedNodes) (f : Flow) → EachCarries w a h xs ts f →
      EachFrom (count f) (typed_nodes (bare_each ts))
  each_from-behind w a h xs typed_none f k = tt
  each_from-behind w a h xs (typed_more t ts) f k =
      let o = over_kid w a h xs (erase t) (erase_each ts) in
      let g = flow_before w a h xs f in
      let b : count g ≡ count f = count-flow_before w a h xs f in
      let p : IsFrom (count f) (bare t) = subst (λ (n : ℕ). IsFrom n (bare t)) b (from-behind w o t g k.0) in
      let l : count f ≤ count (behind w o t g) = omega (arith, b, count-behind w o t g) in
      let q = each_from-behind w a h (xs ++ bare t ∷ []) ts (behind w o t g) k.1 in
      (p, each_from-more (count f) (count (behind w o t g)) (typed_nodes (bare_each ts)) l q)

mutual
  below-bare : (n : ℕ) (t : TypedNode) → IsBelow n t → IsBelow n (bare t)
  below-bare n (marked h m ts) b = (b.0, below_each-bare n ts b.1)

  below_each-bare : (n : ℕ) (ts : TypedNodes) → AreBelow n ts → AreBelow n (typed_nodes (bare_each ts))
  below_each-bare n typed_none b = tt
  below_each-bare n (typed_more t ts) b = (below-bare n t b.0, below_each-bare n ts b.1)

-- ---- kids one behind another

-- The numbers of each begin where those of the one before end, and its own is the last.
IsRising : ℕ → List TypedNode → Type 0
IsRising n [] = Unit {0}
IsRising n (y ∷ ys) = (n ≤ number_of y) × AreBelow (number_of y) (kids_of y) × EachFrom n (kids_of y) × IsRising (suc (number_of y)) ys

root_last : (w : Setting) (a : Above) (t : TypedNode) (f : Flow) → AllCarry w a t f → AreBelow (number_of (bare t)) (kids_of (bare t))
root_last w a (marked h m ts) f k =
    let b = below_each-bare (count (behind_each w a h [] ts f)) ts (below-behind_each w a h [] ts f k.0) in
    subst (λ (n : ℕ). AreBelow n (typed_nodes (bare_each ts))) (sym k.1.node) b

root_from : (n : ℕ) (t : TypedNode) → IsFrom n (bare t) → (n ≤ number_of (bare t)) × EachFrom n (kids_of (bare t))
root_from n (marked h m ts) b = b

number_of-bare : (t : TypedNode) → number_of (bare t) ≡ number_of t
number_of-bare (marked h m ts) = refl

rising : (w : Setting) (a : Above) (h : Head) (xs : List TypedNode) (ts : TypedNodes) (f : Flow) → EachCarries w a h xs ts f →
    IsRising (count f) (bare_each ts)
unfolding IsRising
rising w a h xs typed_none f k = tt
rising w a h xs (typed_more t ts) f k =
    let o = over_kid w a h xs (erase t) (erase_each ts) in
    let g = flow_before w a h xs f in
    let b : count g ≡ count f = count-flow_before w a h xs f in
    let p = root_from (count f) t (subst (λ (n : ℕ). IsFrom n (bare t)) b (from-behind w o t g k.0)) in
    let e : count (behind w o t g) ≡ suc (number_of (bare t)) =
    omega (arith, number_of-root w o t g k.0, count-behind w o t g, number_of-bare t) in
    let q = rising w a h (xs ++ bare t ∷ []) ts (behind w o t g) k.1 in
    (p.0, root_last w o t g k.0, p.1, subst (λ (n : ℕ). IsRising n (bare_each ts)) e q)

-- ---- coats that agree where a tree has its numbers

AgreeIn : ℕ → ℕ → List Coercion → List Coercion → Type 0
AgreeIn n m cs es = (i : ℕ) (d : Coercion) → n ≤ i → i < m → slice_index_or cs i d ≡ slice_index_or es i d

mutual
  unfolding AgreeIn

  coat-in : (n m : ℕ) (cs es : List Coercion) (t : TypedNode) → AgreeIn n m cs es → IsFrom n t → IsBelow m t → coat cs t ≡ coat es t
  coat-in n m cs es (marked h k ts) a f b =
      let p = a k.node k.coerce f.0 b.0 in
      let q = coat_each-in n m cs es ts a f.1 b.1 in
      rw (p, q) refl

  coat_each-in : (n m : ℕ) (cs es : List Coercion) (ts : TypedNodes) → AgreeIn n m cs es → EachFrom n ts → AreBelow m ts →
      coat_each cs ts ≡ coat_each es ts
  coat_each-in n m cs es typed_none a f b = refl
  coat_each-in n m cs es (typed_more t ts) a f b = rw (coat-in n m cs es t a f.0 b.0, coat_each-in n m cs es ts a f.1 b.1) refl

-- ---- writes

index-set_same : (cs : List Coercion) (i : ℕ) (c d : Coercion) → i < length cs → slice_index_or (slice_set cs i c) i d ≡ c
index-set_same [] i c d h = absurd (omega arith)
index-set_same (x ∷ cs) zero c d h = refl
index-set_same (x ∷ cs) (suc i) c d h = index-set_same cs i c d (omega arith)

index-set_behind : (cs : List Coercion) (i j : ℕ) (c d : Coercion) → j < i → slice_index_or (slice_set cs j c) i d ≡ slice_index_or cs i d
index-set_behind [] i j c d h = refl
index-set_behind (x ∷ cs) zero j c d h = absurd (omega arith)
index-set_behind (x ∷ cs) (suc i) zero c d h = refl
index-set_behind (x ∷ cs) (suc i) (suc j) c d h = index-set_behind cs i j c d (omega arith)

index-set_before : (cs : List Coercion) (i j : ℕ) (c d : Coercion) → i < j → slice_index_or (slice_set cs j c) i d ≡ slice_index_or cs i d
index-set_before [] i j c d h = refl
index-set_before (x ∷ cs) i zero c d h = absurd (omega arith)
index-set_before (x ∷ cs) zero (suc j) c d h = refl
index-set_before (x ∷ cs) (suc i) (suc j) c d h = index-set_before cs i j c d (omega arith)

index-front : (cs ds : List Coercion) (i : ℕ) (d : Coercion) → i < length cs → slice_index_or (cs ++ ds) i d ≡ slice_index_or cs i d
index-front [] ds i d h = absurd (omega arith)
index-front (c ∷ cs) ds zero d h = refl
index-front (c ∷ cs) ds (suc i) d h = index-front cs ds i d (omega arith)

index-past : (bs : List Coercion) (c : Coercion) (cs : List Coercion) (d : Coercion) → slice_index_or (bs ++ c ∷ cs) (length bs) d ≡ c
index-past [] c cs d = refl
index-past (b ∷ bs) c cs d = index-past bs c cs d

rising-numbered : (n : ℕ) (es : List Coercion) (ys : List TypedNode) → IsRising n ys → AreNumberedFrom n (map (coat es) ys)
unfolding IsRising AreNumberedFrom
rising-numbered n es [] k = tt
rising-numbered n es (marked h m ts ∷ ys) k =
    (k.0, numbered-more n (suc m.node) (map (coat es) ys) (let q = k.0 in omega (arith, q)) (rising-numbered (suc m.node) es ys k.3))

-- ---- the kids behind the turn

write_one : (c : Context) (i n : ℕ) (y : TypedNode) (es ds : List Coercion) (o : Option ℕ) → (n ≤ number_of y) →
    AreBelow (number_of y) (kids_of y) →
    EachFrom n (kids_of y) → number_of y < length es → AgreeIn n (length es) ds es → length es ≤ length ds →
    (rest : List Coercion) → AgreeIn 0 (suc (number_of y)) rest (write_each (settled_where c (coat es y) i o) ds) →
    coat rest y ≡ settled_kid c i o (coat es y)
unfolding AgreeIn
write_one c i n (marked h m ts) es ds None l b f k a e rest r =
    let p : slice_index_or rest m.node m.coerce ≡ slice_index_or es m.node m.coerce = r m.node m.coerce (omega arith) (omega arith)
    ∙ a m.node m.coerce l k in
    let q = coat_each-in n m.node rest es ts (λ j d u v. r j d (omega arith) (omega (arith, v)) ∙ a j d u (omega (arith, v, k))) f b in
    rw (p, q) refl
write_one c i n (marked h m ts) es ds (Some t) l b f k a e rest r =
    let z = kid_coercion c i in
    let p : slice_index_or rest m.node m.coerce ≡ z =
    r m.node m.coerce (omega arith) (omega arith) ∙ index-set_same ds m.node z m.coerce (omega (arith, k, e)) in
    let q = coat_each-in n m.node rest es ts
    (λ j d u v. r j d (omega arith) (omega (arith, v)) ∙ index-set_before ds j m.node z d v ∙ a j d u (omega (arith, v, k))) f b in
    rw (p, q) refl

write_each-append : (xs ys : List Settled) (cs : List Coercion) → write_each (xs ++ ys) cs ≡ write_each ys (write_each xs cs)
write_each-append [] ys cs = refl
write_each-append (x ∷ xs) ys cs = write_each-append xs ys (slice_set cs x.node x.coercion)

-- what has been written of one kid leaves those behind it
agree_behind : (c : Context) (i n m : ℕ) (x : TypedNode) (es ds : List Coercion) (o : Option ℕ) → n ≤ number_of x → AgreeIn n m ds es →
    AgreeIn (suc (number_of x)) m (write_each (settled_where c x i o) ds) es
unfolding AgreeIn
agree_behind c i n m x es ds None l a j d u v = a j d (omega (arith, l, u)) v
agree_behind c i n m x es ds (Some t) l a j d u v = index-set_behind ds j (number_of x) (kid_coercion c i) d u
    ∙ a j d (omega (arith, l, u)) v

length-one : (c : Context) (i : ℕ) (x : TypedNode) (ds : List Coercion) (o : Option ℕ) →
    length (write_each (settled_where c x i o) ds) ≡ length ds
length-one c i x ds None = refl
length-one c i x ds (Some t) = length-set ds (number_of x) (kid_coercion c i)

kids_turned : (c : Context) (i n : ℕ) (ys : List TypedNode) (es ds : List Coercion) → IsRising n ys →
    AreBelow (length es) (typed_nodes ys) →
    AgreeIn n (length es) ds es → length es ≤ length ds →
    coat_each (write_each (settles_from c i (map (coat es) ys)) ds) (typed_nodes ys) ≡ typed_nodes (settled_from c i (map (coat es) ys))
unfolding IsRising AgreeIn
kids_turned c i n [] es ds k b a e = refl
kids_turned c i n (marked h m ts ∷ ys) es ds k b a e =
    let o = target_of c c.head.kind i in
    let y = marked h m ts in
    let ss = settles_from c (suc i) (map (coat es) ys) in
    let ds1 = write_each (settled_where c (coat es y) i o) ds in
    let from = settled-from c (suc m.node) (suc i) (map (coat es) ys) (rising-numbered (suc m.node) es ys k.3) in
    let p : write_each (settled_where c (coat es y) i o ++ ss) ds ≡ write_each ss ds1 =
    write_each-append (settled_where c (coat es y) i o) ss ds in
    let first : coat (write_each ss ds1) y ≡ settled_kid c i o (coat es y) =
    write_one c i n y es ds o k.0 k.1 k.2 b.0.0 a e (write_each ss ds1) (λ j d u v. index-write_each ss ds1 (suc m.node) j d from v) in
    let l : length es ≤ length ds1 = omega (arith, e, length-one c i (coat es y) ds o) in
    let q = kids_turned c (suc i) (suc m.node) ys es ds1 k.3 b.1 (agree_behind c i n (length es) (coat es y) es ds o k.0 a) l in
    rw (p, first, q) refl

-- ---- the node itself

-- each is of a node below this one
AreUnder : ℕ → List Settled → Type 0
AreUnder n [] = Unit {0}
AreUnder n (s ∷ ss) = (s.node < n) × AreUnder n ss

index-write_under : (ss : List Settled) (cs : List Coercion) (i : ℕ) (d : Coercion) → AreUnder i ss →
    slice_index_or (write_each ss cs) i d ≡ slice_index_or cs i d
unfolding AreUnder
index-write_under [] cs i d k = refl
index-write_under (s ∷ ss) cs i d k =
    index-write_under ss (slice_set cs s.node s.coercion) i d k.1 ∙ index-set_behind cs i s.node s.coercion d k.0

under-append : (n : ℕ) (ss us : List Settled) → AreUnder n ss → AreUnder n us → AreUnder n (ss ++ us)
unfolding AreUnder
under-append n [] us k l = l
under-append n (s ∷ ss) us k l = (k.0, under-append n ss us k.1 l)

where_under : (c : Context) (i n : ℕ) (x : TypedNode) (o : Option ℕ) → number_of x < n → AreUnder n (settled_where c x i o)
unfolding AreUnder
where_under c i n x None l = tt
where_under c i n x (Some t) l = (l, tt)

settles_under : (c : Context) (i n : ℕ) (ys : List TypedNode) (es : List Coercion) → AreBelow n (typed_nodes ys) →
    AreUnder n (settles_from c i (map (coat es) ys))
unfolding AreUnder
settles_under c i n [] es b = tt
settles_under c i n (marked h m ts ∷ ys) es b =
    under-append n (settled_where c (coat es (marked h m ts)) i (target_of c c.head.kind i)) (settles_from c (suc i) (map (coat es) ys))
    (where_under c i n (coat es (marked h m ts)) (target_of c c.head.kind i) b.0.0)
    (settles_under c (suc i) n ys es b.1)

pub turns_settle : TurnsSettle
unfolding AgreeIn
turns_settle w a h m ts f k =
    let g = behind_each w a h [] ts f in
    let xs = bare_each ts in
    let c = context w a h xs g in
    let es = g.coercions in
    let r = settled_type c (type_of c) in
    let ds = es ++ r ∷ [] in
    let b = below_each-bare (count g) ts (below-behind_each w a h [] ts f k.0) in
    let n : m.node ≡ length es = k.1.node in
    let e : length es ≤ length ds = omega (arith, length-append es (r ∷ [])) in
    let own : slice_index_or (write_each (settles_kids c) ds) m.node (same m.ty) ≡ settled_type c (Some m.ty) =
    ap (λ i. slice_index_or (write_each (settles_kids c) ds) i (same m.ty)) n
    ∙ index-write_under (settles_kids c) ds (length es) (same m.ty) (settles_under c 0 (length es) xs es b)
    ∙ index-past es r [] (same m.ty)
    ∙ ap (settled_type c) k.1.type in
    let kids = kids_turned c 0 (count f) xs es ds (rising w a h [] ts f k.0) b (λ j d u v. index-front es (r ∷ []) j d v) e in
    rw (own, kids) refl
