-- The objects that the kids of a node make, one kid behind another.
use Rattle.std.proofs.Common.{◌≡◌, ◌∙◌, sym, ap, ap₂, refl, ℕ, suc, ◌+◌, ◌≤◌, arith, Bool, true, false, List, [], ◌∷◌, ◌++◌, take, length, append_assoc, append-nil, Some}
use Rattle.std.specs.Prelude.{if◌then◌else◌, slice_get}
use Rattle.std.proofs.lemmas.List.{take_all, take_at}
use Rattle.hare_tree.specs.declared.kind.Kind.{Kind}
use Rattle.hare_tree.specs.declared.kind.Kind.TheVariants as kind
use Rattle.hare_tree.specs.Levels.{is_type}
use Rattle.hare_types.specs.Store.{Store}
use Rattle.hare_typed.specs.declared.constant.ConstObject.{ConstObject}
use Rattle.hare_typed.specs.Typed.{TypedNode, TypedNodes, marked, typed_nodes, kids_of}
use Rattle.hare_typed.specs.Folded.{tagged_by_id}
use Rattle.hare_typed.specs.Constants.{own_kind}
use Rattle.hare_typed.specs.Constancy.{hides_kids}
use Rattle.hare_typed.specs.Evaluated.{is_evaluated}
use Rattle.hare_typed.proofs.KidLemmas.{take-get}
use Rattle.hare_const.specs.declared.operands.Operands.{Operands}
use Rattle.hare_const.specs.declared.operands.Operands.TheVariants.{NoKid}
use Rattle.hare_const.specs.declared.outcome.Outcome.{Outcome}
use Rattle.hare_const.specs.NodeValues.{kid_at, operands_of, own_value, kid_values}
use Rattle.hare_const.specs.Made.{is_taken, taken_from, made_by_kids, made_of_value, made_of_node, made_by, made_by_each}
use Rattle.hare_const.proofs.Shown.Made.{taken_none}
use Rattle.hare_const.proofs.Shown.MadeTrees.{idle_operands}
use Rattle.hare_const.proofs.Shown.Trees.{type-idle}
use Rattle.hare_const.proofs.WalkLemmas.{Valued, hidden-own}

-- ---- nodes that take nothing of their kids

pub type-made : (s : Store) (own : ℕ) (t : TypedNode) (made : List ConstObject) → true ≡ is_type (own_kind t) →
    made ≡ made ++ made_by (tagged_by_id s) own t
type-made s own (marked h m ts) made e =
    let idle = type-idle h.kind (sym e) in
    sym (ap₂ (λ x o. made ++ (made_by_kids (marked h m ts) o (kid_values (tagged_by_id s) own ts) (made_by_each (tagged_by_id s) own ts)
    ++ (if x then made_of_value (tagged_by_id s) own (marked h m ts)
    (own_value (tagged_by_id s) own (marked h m ts) (kid_values (tagged_by_id s) own ts)) else []))) idle (idle_operands h.kind idle)
    ∙ ap (λ l. made ++ (l ++ [])) (taken_none (marked h m ts) (kid_at 0 (kid_values (tagged_by_id s) own ts))
    (made_by_each (tagged_by_id s) own ts))
    ∙ append-nil made)

hidden-operands : (k : Kind) (ts : TypedNodes) → hides_kids k ts ≡ true → operands_of k ≡ NoKid
hidden-operands kind.Offset ts e = refl
hidden-operands kind.Addr ts e = refl
hidden-operands _ ts e = absurd cc

pub hidden-made : (s : Store) (own : ℕ) (t : TypedNode) → true ≡ hides_kids (own_kind t) (kids_of t) →
    made_of_node (tagged_by_id s) own t (own_kind t) [] ≡ made_by (tagged_by_id s) own t
hidden-made s own (marked h m ts) e =
    sym (ap (λ o. made_by_kids (marked h m ts) o (kid_values (tagged_by_id s) own ts) (made_by_each (tagged_by_id s) own ts)
    ++ made_of_node (tagged_by_id s) own (marked h m ts) h.kind (kid_values (tagged_by_id s) own ts)) (hidden-operands h.kind ts (sym e))
    ∙ ap (λ l. l ++ made_of_node (tagged_by_id s) own (marked h m ts) h.kind (kid_values (tagged_by_id s) own ts))
    (taken_none (marked h m ts) (kid_at 0 (kid_values (tagged_by_id s) own ts)) (made_by_each (tagged_by_id s) own ts))
    ∙ ap (λ o. if is_evaluated h.kind then made_of_value (tagged_by_id s) own (marked h m ts) o else [])
    (sym (hidden-own s own (marked h m ts) h.kind ts (kid_values (tagged_by_id s) own ts) (sym e))))

pub seen-made : (s : Store) (own : ℕ) (t : TypedNode) (os : List Outcome) (first made new : List ConstObject) →
    os ≡ kid_values (tagged_by_id s) own (kids_of t) →
    made ≡ first ++ made_by_kids t (operands_of (own_kind t)) os (made_by_each (tagged_by_id s) own (kids_of t)) →
    new ≡ made ++ made_of_node (tagged_by_id s) own t (own_kind t) os → new ≡ first ++ made_by (tagged_by_id s) own t
seen-made s own (marked h m ts) os first made new e f g =
    let t = marked h m ts in
    g ∙ ap (λ l. l ++ made_of_node (tagged_by_id s) own t h.kind os) f
    ∙ append_assoc first (made_by_kids t (operands_of h.kind) os (made_by_each (tagged_by_id s) own ts))
    (made_of_node (tagged_by_id s) own t h.kind os)
    ∙ ap (λ xs. first ++ (made_by_kids t (operands_of h.kind) xs (made_by_each (tagged_by_id s) own ts) ++ made_of_node (tagged_by_id s) own
    t h.kind xs)) e

-- ---- kids one behind another

taken_push : (i : ℕ) (takes : ℕ → Bool) (ms : List (List ConstObject)) (m : List ConstObject) →
    taken_from i takes (ms ++ m ∷ []) ≡ taken_from i takes ms ++ (if takes (i + length ms) then m else [])
taken_push i takes [] m =
    let here : i ≡ i + 0 = omega arith in
    append-nil (if takes i then m else []) ∙ ap (λ k. if takes k then m else []) here
taken_push i takes (n ∷ ms) m =
    let next : suc i + length ms ≡ i + suc (length ms) = omega arith in
    ap (λ l. (if takes i then n else []) ++ l)
    (taken_push (suc i) takes ms m ∙ ap (λ k. taken_from (suc i) takes ms ++ (if takes k then m else [])) next)
    ∙ sym (append_assoc (if takes i then n else []) (taken_from (suc i) takes ms) (if takes (i + suc (length ms)) then m else []))

each-push : (s : Store) (own : ℕ) (us : List TypedNode) (x : TypedNode) →
    made_by_each (tagged_by_id s) own (typed_nodes (us ++ x ∷ [])) ≡
    made_by_each (tagged_by_id s) own (typed_nodes us) ++ made_by (tagged_by_id s) own x ∷ []
each-push s own [] x = refl
each-push s own (u ∷ us) x = ap (λ l. made_by (tagged_by_id s) own u ∷ l) (each-push s own us x)

length-each : (s : Store) (own : ℕ) (us : List TypedNode) → length (made_by_each (tagged_by_id s) own (typed_nodes us)) ≡ length us
length-each s own [] = refl
length-each s own (u ∷ us) = ap suc (length-each s own us)

length-values : (s : Store) (own : ℕ) (us : List TypedNode) → length (kid_values (tagged_by_id s) own (typed_nodes us)) ≡ length us
length-values s own [] = refl
length-values s own (u ∷ us) = ap suc (length-values s own us)

-- the value of the first kid stays that as others come
first_stays : (t : TypedNode) (x : Operands) (os : List Outcome) (o : Outcome) (ms : List (List ConstObject)) → length os ≡ length ms →
    taken_from 0 (is_taken t x (kid_at 0 os)) ms ≡ taken_from 0 (is_taken t x (kid_at 0 (os ++ o ∷ []))) ms
first_stays t x [] o [] e = refl
first_stays t x [] o (m ∷ ms) e = absurd (omega arith)
first_stays t x (p ∷ os) o ms e = refl

kept_if : (b : Bool) (made m : List ConstObject) → (if b then made ++ m else take (length made) (made ++ m)) ≡ made ++ (if b then m else [])
kept_if true made m = refl
kept_if false made m = take_at made m (length made) refl ∙ sym (append-nil made)

-- as many values as kids were looked at
pub length-valued : (s : Store) (own : ℕ) (ts : List TypedNode) (i : ℕ) (os : List Outcome) → Valued s own ts i os →
    length os ≡ length (take i ts)
length-valued s own ts i os v = ap length v.values ∙ length-values s own (take i ts)

module _ (s : Store) (own : ℕ) (node : TypedNode) (ts : List TypedNode) (i : ℕ) (x : TypedNode) (first made behind new : List ConstObject)
    (os more : List Outcome) (o : Outcome) (taken : Bool) where
  pub made_more : Valued s own ts i os → slice_get ts i ≡ Some x → length (take i ts) ≡ i → more ≡ os ++ o ∷ [] →
      made ≡ first ++ made_by_kids node (operands_of (own_kind node)) os (made_by_each (tagged_by_id s) own (typed_nodes (take i ts))) →
      behind ≡ made ++ made_by (tagged_by_id s) own x → taken ≡ is_taken node (operands_of (own_kind node)) (kid_at 0 more) i →
      new ≡ (if taken then behind else take (length made) behind) →
      new ≡ first ++ made_by_kids node (operands_of (own_kind node)) more
      (made_by_each (tagged_by_id s) own (typed_nodes (take (i + 1) ts)))
  made_more v e n f g h b q =
      let k = operands_of (own_kind node) in
      let ms = made_by_each (tagged_by_id s) own (typed_nodes (take i ts)) in
      let m = made_by (tagged_by_id s) own x in
      let count : i ≡ 0 + length ms = omega (arith, length-each s own (take i ts)) in
      let same : length os ≡ length ms = omega (arith, length-each s own (take i ts), length-valued s own ts i os v) in
      q ∙ ap (λ l. if taken then l else take (length made) l) h ∙ kept_if taken made m
      ∙ ap₂ (λ l c. l ++ (if c then m else [])) g (b ∙ ap (is_taken node k (kid_at 0 more)) count)
      ∙ append_assoc first (made_by_kids node k os ms) (if is_taken node k (kid_at 0 more) (0 + length ms) then m else [])
      ∙ ap (λ l. first ++ (l ++ (if is_taken node k (kid_at 0 more) (0 + length ms) then m else [])))
      (first_stays node k os o ms same ∙ ap (λ l. taken_from 0 (is_taken node k (kid_at 0 l)) ms) (sym f))
      ∙ ap (λ l. first ++ l) (sym (taken_push 0 (is_taken node k (kid_at 0 more)) ms m)
      ∙ ap (taken_from 0 (is_taken node k (kid_at 0 more)))
      (sym (ap (λ l. made_by_each (tagged_by_id s) own (typed_nodes l)) (take-get ts i x e) ∙ each-push s own (take i ts) x)))

pub made_all : (s : Store) (own : ℕ) (node : TypedNode) (ts : List TypedNode) (i : ℕ) (first all : List ConstObject) (os : List Outcome) →
    length ts ≤ i →
    all ≡ first ++ made_by_kids node (operands_of (own_kind node)) os (made_by_each (tagged_by_id s) own (typed_nodes (take i ts))) →
    all ≡ first ++ made_by_kids node (operands_of (own_kind node)) os (made_by_each (tagged_by_id s) own (typed_nodes ts))
made_all s own node ts i first all os h e =
    e ∙ ap (λ l. first ++ made_by_kids node (operands_of (own_kind node)) os (made_by_each (tagged_by_id s) own (typed_nodes l)))
    (take_all i ts h)
