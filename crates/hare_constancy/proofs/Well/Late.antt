-- What is settled late is settled of values that were yielded, and of nothing else.
use Rattle.std.proofs.Common.{◌≡◌, ◌∙◌, sym, ap, subst, refl, ℕ, zero, suc, Bool, true, false, ◌⊎◌, inl, inr, List, [], ◌∷◌, ◌++◌, map, Option, Some, None}
use Rattle.std.specs.Prelude.{cond, not, filter, slice_index_or, slice_set, length}
use Rattle.hare_tree.specs.declared.place.Place.{Place}
use Rattle.hare_tree.specs.declared.kind.Kind.{Kind}
use Rattle.hare_tree.specs.declared.kind.Kind.TheVariants as kind
use Rattle.hare_tree.specs.Node.{Head}
use Rattle.hare_types.specs.declared.coercion.Ty.{Ty}
use Rattle.hare_types.specs.declared.coercion.Coercion.{Coercion}
use Rattle.hare_types.specs.Store.{Store}
use Rattle.hare_typed.specs.Typed.{TypedNode, TypedNodes, Mark, marked, typed_none, typed_more, listed_nodes, mark_of}
use Rattle.hare_typed.specs.Coats.{coat, coat_each}
use Rattle.hare_typed.specs.Copies.{has_defers as takes_yields}
use Rattle.hare_typed.specs.Erased.{erase, erase_each}
use Rattle.hare_typed.specs.Order.{tree_from_front}
use Rattle.hare_typed.specs.ConstantForms.{own_type}
use Rattle.hare_rules.specs.Above.{Above, over_kid}
use Rattle.hare_rules.specs.Context.{Setting, Context, Open, Given, store_of, is_there}
use Rattle.hare_rules.specs.Control.{yield_level, block_values}
use Rattle.hare_rules.specs.Finished.{bare, bare_each, behind, behind_each}
use Rattle.hare_rules.specs.Flow.{Yielded, Flow, is_at, yields_to, yielded, add_yield, yields_after, flow_before, is_behind_operand, each_entry, context, flow_after, write_each}
use Rattle.hare_rules.specs.Settles.{Settled, joined_target, given_to, each_given_to, settles_late}
use Rattle.hare_constancy.specs.Met.{shown, GoesTo}
use Rattle.hare_constancy.specs.Traced.{IsTracedNode, IsTraced, AreTraced}
use Rattle.hare_constancy.proofs.Well.Numbers.{IsYielded, AreYielded, FirstIs, EachYield, EachYieldOf}

-- ---- what is handed on, and what is settled late of it

-- a value that is handed on, or nothing
abbrev chosen : Bool → (p q : Place) → Ty → ℕ → Given
chosen b p q a n = cond b (record { place = p; ty = Some a; node = Some n }) (record { place = q; ty = None; node = None })

module _ (s : Store) (E : ℕ → Ty → Type 0) where
  -- where a node and a type are given, they are so
  abbrev IsGivenOf : Given → Type 0
  IsGivenOf g = (n : ℕ) (a : Ty) → g.node ≡ Some n → g.ty ≡ Some a → E n a

  abbrev AreGivenOf : List Given → Type 0
  AreGivenOf [] = Unit {0}
  AreGivenOf (g ∷ gs) = IsGivenOf g × AreGivenOf gs

  abbrev pub YieldsAre : List Yielded → Type 0
  YieldsAre [] = Unit {0}
  YieldsAre (y ∷ ys) = IsGivenOf y.given × YieldsAre ys

  -- each goes to a type as a value of a type with which its node is so
  abbrev pub LateIs : List Settled → Type 0
  LateIs [] = Unit {0}
  LateIs (x ∷ xs) = ((a : Ty) × GoesTo s a x.coercion × E x.node a) × LateIs xs

  late-append : (xs ys : List Settled) → LateIs xs → LateIs ys → LateIs (xs ++ ys)
  late-append [] ys p q = q
  late-append (x ∷ xs) ys p q = (p.0, late-append xs ys p.1 q)

  yields-append : (xs ys : List Yielded) → YieldsAre xs → YieldsAre ys → YieldsAre (xs ++ ys)
  yields-append [] ys p q = q
  yields-append (x ∷ xs) ys p q = (p.0, yields-append xs ys p.1 q)

  yields-filter : (p : Yielded → Bool) (ys : List Yielded) → YieldsAre ys → YieldsAre (filter p ys)
  yields-filter p [] q = tt
  yields-filter p (y ∷ ys) q = by (p y) (yields-filter p ys q.1)
    where
      by : (b : Bool) → YieldsAre (filter p ys) → YieldsAre (cond b (y ∷ filter p ys) (filter p ys))
      by true r = (q.0, r)
      by false r = r

  given-map : (ys : List Yielded) → YieldsAre ys → AreGivenOf (map (λ y. y.given) ys)
  given-map [] q = tt
  given-map (y ∷ ys) q = (q.0, given-map ys q.1)

  given-yields_to : (k : Kind) (n : ℕ) (ys : List Yielded) → YieldsAre ys → AreGivenOf (yields_to k n ys)
  given-yields_to k n ys q = by (takes_yields k)
    where
      by : (b : Bool) → AreGivenOf (cond b (map (λ y. y.given) (filter (is_at n) ys)) [])
      by true = given-map (filter (is_at n) ys) (yields-filter (is_at n) ys q)
      by false = tt

  late-given_to : (o n : Option ℕ) (a : Option Ty) → ((m : ℕ) (b : Ty) → n ≡ Some m → a ≡ Some b → E m b) → LateIs (given_to s o n a)
  late-given_to (Some t) (Some n) (Some a) e = ((a, (Some t, refl), e n a refl refl), tt)
  late-given_to None n a e = tt
  late-given_to (Some t) None a e = tt
  late-given_to (Some t) (Some n) None e = tt

  late-each_given_to : (o : Option ℕ) (gs : List Given) → AreGivenOf gs → LateIs (each_given_to s o gs)
  late-each_given_to o [] q = tt
  late-each_given_to o (g ∷ gs) q =
      late-append (given_to s o g.node g.ty) (each_given_to s o gs) (late-given_to o g.node g.ty q.0) (late-each_given_to o gs q.1)

  late-settles_late : (c : Context) (k : Kind) → store_of c ≡ s → AreGivenOf c.yields → LateIs (settles_late c k)
  late-settles_late c k e q = by k
    where
      block : LateIs (each_given_to (store_of c) (joined_target (store_of c) c.hint (block_values c)) c.yields)
      block = subst (λ (v : Store). LateIs (each_given_to v (joined_target (store_of c) c.hint (block_values c)) c.yields)) (sym e)
          (late-each_given_to (joined_target (store_of c) c.hint (block_values c)) c.yields q)

      by : (k : Kind) → LateIs (settles_late c k)
      by kind.Block = block
      by kind.Case = block
      by kind.SwitchCase = block
      by _ = tt

  -- what a `yield` hands on
  given-chosen : (b : Bool) (p q : Place) (a : Ty) (n : ℕ) → E n a → IsGivenOf (chosen b p q a n)
  given-chosen true p q a n e m b f g =
      let i : n ≡ m = cc in
      let j : a ≡ b = cc in
      subst (E m) j (subst (λ (l : ℕ). E l a) i e)
  given-chosen false p q a n e m b f g = absurd cc

  given-yielded : (h : Head) (ts : TypedNodes) → FirstIs E ts → IsGivenOf (yielded h (tree_from_front 0 (bare_each ts)))
  given-yielded h typed_none e = λ n a p q. absurd cc
  given-yielded h (typed_more (marked k m us) ts) e =
      given-chosen (is_there (bare (marked k m us))) k.place h.place m.ty m.node e

  yields-add_yield : (h : Head) (ts : TypedNodes) (o : Option ℕ) (ys : List Yielded) → FirstIs E ts → YieldsAre ys →
      YieldsAre (add_yield h (bare_each ts) o ys)
  yields-add_yield h ts None ys e q = q
  yields-add_yield h ts (Some n) ys e q =
      yields-append ys (record { level = n; given = yielded h (tree_from_front 0 (bare_each ts)) } ∷ []) q (given-yielded h ts e, tt)

  yields-kept : (k : Kind) (n : ℕ) (ys : List Yielded) → YieldsAre ys →
      YieldsAre (cond (takes_yields k) (filter (λ y. not (is_at n y)) ys) ys)
  yields-kept k n ys q = by (takes_yields k)
    where
      by : (b : Bool) → YieldsAre (cond b (filter (λ y. not (is_at n y)) ys) ys)
      by true = yields-filter (λ y. not (is_at n y)) ys q
      by false = q

  yields-yields_after : (k : Kind) (ls : List Open) (h : Head) (ts : TypedNodes) (ys : List Yielded) → (k ≡ kind.Yield → FirstIs E ts) →
      YieldsAre ys → YieldsAre (yields_after k ls h (bare_each ts) ys)
  yields-yields_after kind.Yield ls h ts ys e q = yields-add_yield h ts (yield_level h.text ls) ys (e refl) q
  yields-yields_after k ls h ts ys e q = yields-kept k (length ls) ys q

-- ---- what has been seen behind a tree

-- what is handed on, and what is settled late, is so
pub record FlowIs (s : Store) (E : ℕ → Ty → Type 0) (f : Flow) : Type 0 where
  pub yields : YieldsAre s E f.yields
  pub late : LateIs s E f.late

module _ (w : Setting) (E : ℕ → Ty → Type 0) where
  flow-before : (a : Above) (h : Head) (xs : List TypedNode) (f : Flow) → FlowIs w.store E f → FlowIs w.store E (flow_before w a h xs f)
  flow-before a h xs f q = by (is_behind_operand h.kind (length xs))
    where
      by : (b : Bool) → FlowIs w.store E (cond b (record f { locals = slice_set f.locals a.first (each_entry w h xs) }) f)
      by true = record { yields = q.yields; late = q.late }
      by false = q

  flow-after : (a : Above) (h : Head) (ts : TypedNodes) (f : Flow) → (h.kind ≡ kind.Yield → FirstIs E ts) → FlowIs w.store E f →
      FlowIs w.store E (flow_after w a h (bare_each ts) f)
  flow-after a h ts f e q =
      let c = context w a h (bare_each ts) f in
      let given = given-yields_to w.store E h.kind (length a.inside.labels) f.yields q.yields in
      record {
        yields = yields-yields_after w.store E h.kind a.inside.labels h ts f.yields e q.yields;
        late = late-append w.store E f.late (settles_late c h.kind) q.late (late-settles_late w.store E c h.kind refl given);
      }

  mutual
    pub flow-behind : (a : Above) (t : TypedNode) (f : Flow) → EachYield E t → FlowIs w.store E f → FlowIs w.store E (behind w a t f)
    flow-behind a (marked h m ts) f e q =
        flow-after a h ts (behind_each w a h [] ts f) e.0 (flow-behind_each a h [] ts f e.1 q)

    flow-behind_each : (a : Above) (h : Head) (xs : List TypedNode) (ts : TypedNodes) (f : Flow) → EachYieldOf E ts → FlowIs w.store E f →
        FlowIs w.store E (behind_each w a h xs ts f)
    flow-behind_each a h xs typed_none f e q = q
    flow-behind_each a h xs (typed_more t ts) f e q =
        let o = over_kid w a h xs (erase t) (erase_each ts) in
        let g = flow_before w a h xs f in
        flow-behind_each a h (xs ++ bare t ∷ []) ts (behind w o t g) e.1 (flow-behind o t g e.0 (flow-before a h xs f q))

-- ---- coats that differ where something is yielded

-- of a node with this mark, whose parent is of the kind: both coats give it one coercion, or it is yielded
abbrev IsLeft : Store → (cs ds : List Coercion) → Kind → Mark → Type 0
IsLeft s cs ds k m =
    (slice_index_or cs m.node m.coerce ≡ slice_index_or ds m.node m.coerce)
    ⊎ ((k ≡ kind.Yield) × GoesTo s m.ty (slice_index_or cs m.node m.coerce))

abbrev mutual
  pub IsLeftIn : Store → (cs ds : List Coercion) → TypedNode → Type 0
  IsLeftIn s cs ds (marked h m ts) = AreLeftIn s cs ds h.kind ts

  pub AreLeftIn : Store → (cs ds : List Coercion) → Kind → TypedNodes → Type 0
  AreLeftIn s cs ds k typed_none = Unit {0}
  AreLeftIn s cs ds k (typed_more t ts) = IsLeft s cs ds k (mark_of t) × IsLeftIn s cs ds t × AreLeftIn s cs ds k ts

mutual
  left-same : (s : Store) (ds : List Coercion) (t : TypedNode) → IsLeftIn s ds ds t
  left-same s ds (marked h m ts) = left_each-same s ds h.kind ts

  pub left_each-same : (s : Store) (ds : List Coercion) (k : Kind) (ts : TypedNodes) → AreLeftIn s ds ds k ts
  left_each-same s ds k typed_none = tt
  left_each-same s ds k (typed_more t ts) = (inl refl, left-same s ds t, left_each-same s ds k ts)

-- a write is seen at its own number, or not at all
index-slice_set : (cs : List Coercion) (j : ℕ) (c : Coercion) (i : ℕ) (d : Coercion) →
    (slice_index_or (slice_set cs j c) i d ≡ slice_index_or cs i d) ⊎ ((j ≡ i) × (slice_index_or (slice_set cs j c) i d ≡ c))
index-slice_set [] j c i d = inl refl
index-slice_set (x ∷ cs) zero c zero d = inr (refl, refl)
index-slice_set (x ∷ cs) zero c (suc i) d = inl refl
index-slice_set (x ∷ cs) (suc j) c zero d = inl refl
index-slice_set (x ∷ cs) (suc j) c (suc i) d = by (index-slice_set cs j c i d)
  where
    by : (slice_index_or (slice_set cs j c) i d ≡ slice_index_or cs i d) ⊎ ((j ≡ i) × (slice_index_or (slice_set cs j c) i d ≡ c)) →
        (slice_index_or (slice_set cs j c) i d ≡ slice_index_or cs i d) ⊎ ((suc j ≡ suc i) × (slice_index_or (slice_set cs j c) i d ≡ c))
    by (inl e) = inl e
    by (inr (e, f)) = inr (ap suc e, f)

-- what is written of a node that is yielded leaves all others
module _ (s : Store) (x : Settled) (a : Ty) (g : GoesTo s a x.coercion) (cs ds : List Coercion) where
  -- the coercion of a node behind the write
  abbrev new : Mark → Coercion
  new m = slice_index_or (slice_set cs x.node x.coercion) m.node m.coerce

  written-one : (k : Kind) (m : Mark) → (x.node ≡ m.node → (k ≡ kind.Yield) × (m.ty ≡ a)) → IsLeft s cs ds k m →
      IsLeft s (slice_set cs x.node x.coercion) ds k m
  written-one k m y l = by (index-slice_set cs x.node x.coercion m.node m.coerce) l
    where
      by : (new m ≡ slice_index_or cs m.node m.coerce) ⊎ ((x.node ≡ m.node) × (new m ≡ x.coercion)) → IsLeft s cs ds k m →
          IsLeft s (slice_set cs x.node x.coercion) ds k m
      by (inl e) (inl q) = inl (e ∙ q)
      by (inl e) (inr q) = inr (q.0, subst (GoesTo s m.ty) (sym e) q.1)
      by (inr e) q =
          let z = y e.0 in
          inr (z.0, subst (GoesTo s m.ty) (sym e.1) (subst (λ (b : Ty). GoesTo s b x.coercion) (sym z.1) g))

  mutual
    written : (t : TypedNode) → IsYielded x.node a t → IsLeftIn s cs ds t → IsLeftIn s (slice_set cs x.node x.coercion) ds t
    written (marked h m ts) y l = written_each h.kind ts y l

    written_each : (k : Kind) (ts : TypedNodes) → AreYielded x.node a k ts → AreLeftIn s cs ds k ts →
        AreLeftIn s (slice_set cs x.node x.coercion) ds k ts
    written_each k typed_none y l = tt
    written_each k (typed_more t ts) y l = (written-one k (mark_of t) y.0 l.0, written t y.1 l.1, written_each k ts y.2 l.2)

pub left-write_each : (s : Store) (k : Kind) (ts : TypedNodes) (xs : List Settled) (cs ds : List Coercion) →
    LateIs s (λ n a. AreYielded n a k ts) xs → AreLeftIn s cs ds k ts → AreLeftIn s (write_each xs cs) ds k ts
left-write_each s k ts [] cs ds q l = l
left-write_each s k ts (x ∷ xs) cs ds q l =
    left-write_each s k ts xs (slice_set cs x.node x.coercion) ds q.1
    (written_each s x q.0.0 q.0.1 cs ds k ts q.0.2 l)

-- ---- a tree under the other coat

shown-left : (s : Store) (cs ds : List Coercion) (k : Kind) (ts : TypedNodes) → (k ≡ kind.Yield → ⊥) → AreLeftIn s cs ds k ts →
    map shown (listed_nodes (coat_each cs ts)) ≡ map shown (listed_nodes (coat_each ds ts))
shown-left s cs ds k typed_none n l = refl
shown-left s cs ds k (typed_more (marked h m us) ts) n l =
    let rest = shown-left s cs ds k ts n l.2 in
    ap (λ (r : Coercion). (h, record m { coerce = r }) ∷ map shown (listed_nodes (coat_each cs ts))) (by l.0)
    ∙ ap (λ (qs : List (Head × Mark)). (h, record m { coerce = slice_index_or ds m.node m.coerce }) ∷ qs) rest
  where
    by : IsLeft s cs ds k m → slice_index_or cs m.node m.coerce ≡ slice_index_or ds m.node m.coerce
    by (inl e) = e
    by (inr y) = absurd (n y.0)

recoated-node : (c : Context) (cs ds : List Coercion) (h : Head) (m : Mark) (ts : TypedNodes) →
    IsTracedNode c (coat ds (marked h m ts)) → AreLeftIn (store_of c) cs ds h.kind ts →
    GoesTo (store_of c) m.ty (slice_index_or cs m.node m.coerce) → IsTracedNode c (coat cs (marked h m ts))
recoated-node c cs ds h m ts q l g =
    record {
      judged = record {
        head = q.judged.head;
        role = q.judged.role;
        rows = q.judged.rows;
        type = q.judged.type;
        kids = λ y. shown-left (store_of c) cs ds h.kind ts y l ∙ q.judged.kids y;
        goes = g;
        unasked = q.judged.unasked;
      };
      alone = q.alone;
      named = q.named;
    }

-- the coercion that it has is one to which it goes
goes-left : (w : Setting) (cs ds : List Coercion) (k : Kind) (t : TypedNode) → IsTraced w (coat ds t) → IsLeft w.store cs ds k (mark_of t) →
    GoesTo w.store (own_type t) (slice_index_or cs (mark_of t).node (mark_of t).coerce)
goes-left w cs ds k (marked h m ts) p (inr y) = y.1
goes-left w cs ds k (marked h m ts) p (inl e) =
    let there : store_of p.0.0 ≡ w.store = ap (λ (x : Setting). x.store) p.0.1 in
    subst (GoesTo w.store m.ty) (sym e) (subst (λ (s : Store). GoesTo s m.ty (slice_index_or ds m.node m.coerce)) there p.0.2.judged.goes)

mutual
  recoated : (w : Setting) (cs ds : List Coercion) (t : TypedNode) → IsTraced w (coat ds t) → IsLeftIn w.store cs ds t →
      GoesTo w.store (own_type t) (slice_index_or cs (mark_of t).node (mark_of t).coerce) → IsTraced w (coat cs t)
  recoated w cs ds (marked h m ts) p l g =
      let c = p.0.0 in
      let there : w.store ≡ store_of c = ap (λ (x : Setting). x.store) (sym p.0.1) in
      let left = subst (λ (s : Store). AreLeftIn s cs ds h.kind ts) there l in
      let goes = subst (λ (s : Store). GoesTo s m.ty (slice_index_or cs m.node m.coerce)) there g in
      ((c, p.0.1, recoated-node c cs ds h m ts p.0.2 left goes), recoated_each w cs ds h.kind ts p.1 l)

  pub recoated_each : (w : Setting) (cs ds : List Coercion) (k : Kind) (ts : TypedNodes) → AreTraced w (coat_each ds ts) →
      AreLeftIn w.store cs ds k ts → AreTraced w (coat_each cs ts)
  recoated_each w cs ds k typed_none p l = tt
  recoated_each w cs ds k (typed_more t ts) p l =
      (recoated w cs ds t p.0 l.1 (goes-left w cs ds k t p.0 l.0), recoated_each w cs ds k ts p.1 l.2)
