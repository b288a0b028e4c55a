-- The first node of a tree that is refused, from what is known of its kids and of its root.
use Rattle.std.proofs.Common.{◌≡◌, ◌∙◌, sym, ap, subst, refl, ℕ, zero, suc, ◌+◌, ◌≤◌, Bool, true, false, List, [], ◌∷◌, ◌++◌, take, length}
use Rattle.std.specs.Prelude.{if◌then◌else◌, not, ◌&&◌, ◌||◌, Option, Some, None, slice_get}
use Rattle.std.proofs.Common.{Result, Ok, Err, IfErr}
use Rattle.std.specs.Prelude.{IsErrAnd}
use Rattle.std.proofs.lemmas.List.{take_all}
use Rattle.hare_tree.specs.declared.kind.Kind.{Kind}
use Rattle.hare_tree.specs.declared.kind.Kind.TheVariants as kind
use Rattle.hare_tree.specs.declared.place.Fault.{Fault}
use Rattle.hare_tree.specs.declared.stop.Stop.{Stop}
use Rattle.hare_tree.specs.declared.stop.Stop.TheVariants as stop
use Rattle.hare_tree.specs.Levels.{is_type}
use Rattle.hare_tree.specs.Node.{Head}
use Rattle.hare_types.specs.Store.{Store}
use Rattle.hare_typed.specs.Typed.{TypedNode, TypedNodes, Mark, marked, typed_none, typed_more, typed_nodes, kids_of}
use Rattle.hare_typed.specs.Folded.{tagged_by_id}
use Rattle.hare_typed.specs.Constants.{own_kind}
use Rattle.hare_typed.specs.Constancy.{is_constant, hides_kids, or_else}
use Rattle.hare_typed.specs.Evaluated.{is_evaluated}
use Rattle.hare_typed.proofs.KidLemmas.{take-get}
use Rattle.hare_const.specs.declared.outcome.Outcome.{Outcome}
use Rattle.hare_const.specs.declared.outcome.Outcome.TheVariants.{Known}
use Rattle.hare_typed.specs.Settled.{AskedKind, IsSimple, AreSimple}
use Rattle.hare_const.specs.NodeValues.{on_cells, kind_value, own_value, coerced_value, node_value, tree_value, kid_values, is_aborted, first_refused, first_refused_of, Refuses, is_constant_node, RefusesNode}
use Rattle.hare_typed.specs.Settled.{HaveBases, IsSettled, AreSettled}
use Rattle.hare_const.proofs.Shown.Trees.{type-idle, first-none, both-none}

-- ---- a node

-- what is asked of a node that is no type
abbrev Asked : Store → ℕ → Head → Mark → TypedNodes → Option TypedNode
Asked s own h m ts =
    or_else (if hides_kids h.kind ts then None else first_refused_of s own ts)
    (if not (is_constant s h.kind m ts) || is_aborted (tree_value (tagged_by_id s) own (marked h m ts)) then Some (marked h m ts) else None)

unless_type : (x : Bool) (o p : Option TypedNode) → x ≡ false → o ≡ p → (if x then None else o) ≡ p
unless_type true o p e f = absurd cc
unless_type false o p e f = f

passed-if : (x : Bool) (o : Option TypedNode) → x ≡ true → (if x then None else o) ≡ None
passed-if true o e = refl
passed-if false o e = absurd cc

pub type-passed : (s : Store) (own : ℕ) (t : TypedNode) → true ≡ is_type (own_kind t) → first_refused s own t ≡ None
type-passed s own (marked h m ts) e = passed-if (is_type h.kind) (Asked s own h m ts) (sym e)

unless_evaluated : (x : Bool) (o : Outcome) → x ≡ false → Known [] ≡ (if x then o else Known [])
unless_evaluated true o e = absurd cc
unless_evaluated false o e = refl

pub type-empty : (s : Store) (own : ℕ) (t : TypedNode) → true ≡ is_type (own_kind t) → Known [] ≡ tree_value (tagged_by_id s) own t
type-empty s own (marked h m ts) e =
    unless_evaluated (is_evaluated h.kind) (on_cells (own_value (tagged_by_id s) own (marked h m ts) (kid_values (tagged_by_id s) own ts))
    (coerced_value (tagged_by_id s) own (marked h m ts)))
    (type-idle h.kind (sym e))

-- the root is asked last
ask-last : (c a : Bool) (t : TypedNode) → c ≡ true → a ≡ false → (if not c || a then Some t else None) ≡ None
ask-last true true t e f = absurd cc
ask-last true false t e f = refl
ask-last false a t e f = absurd cc

ask-refuses : (k : Option TypedNode) (c a : Bool) (t : TypedNode) → k ≡ None → (c && not a) ≡ false →
    or_else k (if not c || a then Some t else None) ≡ Some t
ask-refuses None true true t e f = refl
ask-refuses None true false t e f = absurd cc
ask-refuses None false a t e f = refl
ask-refuses (Some u) c a t e f = absurd cc

kids-refuse : (k : Option TypedNode) (o : Option TypedNode) (u : TypedNode) → k ≡ Some u → or_else k o ≡ Some u
kids-refuse None o u e = absurd cc
kids-refuse (Some v) o u e = e

-- what is asked of the kids
abbrev pub kids_asked : Store → ℕ → TypedNode → Option TypedNode
kids_asked s own t = if hides_kids (own_kind t) (kids_of t) then None else first_refused_of s own (kids_of t)

pub node-passed : (s : Store) (own : ℕ) (t : TypedNode) → false ≡ is_type (own_kind t) → kids_asked s own t ≡ None →
    is_constant_node s t ≡ true → is_aborted (tree_value (tagged_by_id s) own t) ≡ false → first_refused s own t ≡ None
node-passed s own (marked h m ts) e k c a =
    unless_type (is_type h.kind) (Asked s own h m ts) None (sym e)
    (both-none _ _ k (ask-last (is_constant s h.kind m ts) (is_aborted (tree_value (tagged_by_id s) own (marked h m ts))) (marked h m ts) c
    a))

pub node-refused : (s : Store) (own : ℕ) (t : TypedNode) → false ≡ is_type (own_kind t) → kids_asked s own t ≡ None →
    (is_constant_node s t && not (is_aborted (tree_value (tagged_by_id s) own t))) ≡ false → first_refused s own t ≡ Some t
node-refused s own (marked h m ts) e k f =
    unless_type (is_type h.kind) (Asked s own h m ts) (Some (marked h m ts)) (sym e)
    (ask-refuses _ (is_constant s h.kind m ts) (is_aborted (tree_value (tagged_by_id s) own (marked h m ts))) (marked h m ts) k f)

pub kid-refused : (s : Store) (own : ℕ) (t u : TypedNode) → false ≡ is_type (own_kind t) → kids_asked s own t ≡ Some u →
    first_refused s own t ≡ Some u
kid-refused s own (marked h m ts) u e k =
    unless_type (is_type h.kind) (Asked s own h m ts) (Some u) (sym e) (kids-refuse _ _ u k)

-- ---- what is asked of kids

pub hidden-asked : (s : Store) (own : ℕ) (t : TypedNode) → true ≡ hides_kids (own_kind t) (kids_of t) → kids_asked s own t ≡ None
hidden-asked s own t e = passed-if (hides_kids (own_kind t) (kids_of t)) (first_refused_of s own (kids_of t)) (sym e)

pub seen-asked : (s : Store) (own : ℕ) (t : TypedNode) → false ≡ hides_kids (own_kind t) (kids_of t) →
    kids_asked s own t ≡ first_refused_of s own (kids_of t)
seen-asked s own t e =
    unless_type (hides_kids (own_kind t) (kids_of t)) (first_refused_of s own (kids_of t)) _ (sym e) refl

-- the value of a node whose kids are passed over rests on none of theirs
pub hidden-own : (s : Store) (own : ℕ) (t : TypedNode) (k : Kind) (ts : TypedNodes) (os : List Outcome) → hides_kids k ts ≡ true →
    kind_value (tagged_by_id s) own t k [] ≡ kind_value (tagged_by_id s) own t k os
hidden-own s own t kind.Offset ts os e = refl
hidden-own s own t kind.Addr ts os e = refl
hidden-own s own t _ ts os e = absurd cc

pub hidden-value : (s : Store) (own : ℕ) (t : TypedNode) → true ≡ hides_kids (own_kind t) (kids_of t) →
    node_value (tagged_by_id s) own t [] ≡ tree_value (tagged_by_id s) own t
hidden-value s own (marked h m ts) e =
    ap (λ o. if is_evaluated h.kind then on_cells o (coerced_value (tagged_by_id s) own (marked h m ts)) else Known [])
    (hidden-own s own (marked h m ts) h.kind ts (kid_values (tagged_by_id s) own ts) (sym e))

pub seen-value : (s : Store) (own : ℕ) (t : TypedNode) (os : List Outcome) → os ≡ kid_values (tagged_by_id s) own (kids_of t) →
    node_value (tagged_by_id s) own t os ≡ tree_value (tagged_by_id s) own t
seen-value s own (marked h m ts) os e = ap (node_value (tagged_by_id s) own (marked h m ts)) e

-- ---- refusals

pub refuse-node : (s : Store) (own : ℕ) (t : TypedNode) (os : List Outcome) (e : Stop Fault) → false ≡ is_type (own_kind t) →
    kids_asked s own t ≡ None → node_value (tagged_by_id s) own t os ≡ tree_value (tagged_by_id s) own t → RefusesNode s own t os e →
    Refuses (first_refused s own t) e
refuse-node s own t os (stop.Fault f) g k v r = (
  t,
  node-refused s own t g k (subst (λ o. (is_constant_node s t && not (is_aborted o)) ≡ false) v r.1),
  r.0,
)
refuse-node s own t os stop.Memory g k v r = tt

pub refuse-kids : (s : Store) (own : ℕ) (t : TypedNode) (e : Stop Fault) → false ≡ is_type (own_kind t) →
    false ≡ hides_kids (own_kind t) (kids_of t) → Refuses (first_refused_of s own (kids_of t)) e → Refuses (first_refused s own t) e
refuse-kids s own t (stop.Fault f) g h r = (r.0, kid-refused s own t r.0 g (seen-asked s own t h ∙ r.1), r.2)
refuse-kids s own t stop.Memory g h r = tt

-- ---- kids one behind another

-- those up to one that is refused
kid-first : (s : Store) (own : ℕ) (ts : List TypedNode) (i : ℕ) (x u : TypedNode) → slice_get ts i ≡ Some x →
    first_refused_of s own (typed_nodes (take i ts)) ≡ None → first_refused s own x ≡ Some u →
    first_refused_of s own (typed_nodes ts) ≡ Some u
kid-first s own [] i x u e p r = absurd cc
kid-first s own (t ∷ ts) zero x u e p r =
    let f : t ≡ x = cc in
    kids-refuse (first_refused s own t) _ u (ap (first_refused s own) f ∙ r)
kid-first s own (t ∷ ts) (suc i) x u e p r =
    let q = first-none (first_refused s own t) (first_refused_of s own (typed_nodes (take i ts))) p in
    subst (λ o. or_else o (first_refused_of s own (typed_nodes ts)) ≡ Some u) (sym q.0) (kid-first s own ts i x u e q.1 r)

pub refuse-kid : (s : Store) (own : ℕ) (ts : List TypedNode) (i : ℕ) (x : TypedNode) (e : Stop Fault) → slice_get ts i ≡ Some x →
    first_refused_of s own (typed_nodes (take i ts)) ≡ None → Refuses (first_refused s own x) e →
    Refuses (first_refused_of s own (typed_nodes ts)) e
refuse-kid s own ts i x (stop.Fault f) g p r = (r.0, kid-first s own ts i x r.0 g p r.1, r.2)
refuse-kid s own ts i x stop.Memory g p r = tt

none-push : (s : Store) (own : ℕ) (us : List TypedNode) (x : TypedNode) → first_refused_of s own (typed_nodes us) ≡ None →
    first_refused s own x ≡ None → first_refused_of s own (typed_nodes (us ++ x ∷ [])) ≡ None
none-push s own [] x p r = both-none _ None r refl
none-push s own (u ∷ us) x p r =
    let q = first-none (first_refused s own u) (first_refused_of s own (typed_nodes us)) p in
    both-none _ _ q.0 (none-push s own us x q.1 r)

values-push : (s : Store) (own : ℕ) (us : List TypedNode) (x : TypedNode) →
    kid_values (tagged_by_id s) own (typed_nodes (us ++ x ∷ [])) ≡
    kid_values (tagged_by_id s) own (typed_nodes us) ++ tree_value (tagged_by_id s) own x ∷ []
values-push s own [] x = refl
values-push s own (u ∷ us) x = ap (λ os. tree_value (tagged_by_id s) own u ∷ os) (values-push s own us x)

-- the values of the kids so far, none of which is refused
pub record Valued (s : Store) (own : ℕ) (ts : List TypedNode) (i : ℕ) (os : List Outcome) : Type 0 where
  pub values : os ≡ kid_values (tagged_by_id s) own (typed_nodes (take i ts))
  pub passed : first_refused_of s own (typed_nodes (take i ts)) ≡ None

pub valued-more : (s : Store) (own : ℕ) (ts : List TypedNode) (i : ℕ) (x : TypedNode) (os new : List Outcome) (o : Outcome) →
    Valued s own ts i os → slice_get ts i ≡ Some x → o ≡ tree_value (tagged_by_id s) own x → first_refused s own x ≡ None →
    new ≡ os ++ o ∷ [] →
    Valued s own ts (i + 1) new
valued-more s own ts i x os new o v e f p w =
    let g = take-get ts i x e in
    record {
      values =
          w ∙ ap (λ l. l ++ o ∷ []) v.values ∙ ap (λ y. kid_values (tagged_by_id s) own (typed_nodes (take i ts)) ++ y ∷ []) f
          ∙ sym (values-push s own (take i ts) x) ∙ ap (λ l. kid_values (tagged_by_id s) own (typed_nodes l)) (sym g);
      passed = ap (λ l. first_refused_of s own (typed_nodes l)) g ∙ none-push s own (take i ts) x v.passed p;
    }

pub valued-all : (s : Store) (own : ℕ) (ts : List TypedNode) (i : ℕ) (os : List Outcome) → Valued s own ts i os → length ts ≤ i →
    (os ≡ kid_values (tagged_by_id s) own (typed_nodes ts)) × (first_refused_of s own (typed_nodes ts) ≡ None)
valued-all s own ts i os v l =
    let g = take_all i ts l in (
      v.values ∙ ap (λ x. kid_values (tagged_by_id s) own (typed_nodes x)) g,
      sym (ap (λ x. first_refused_of s own (typed_nodes x)) g) ∙
          v.passed,
    )

-- ---- conditions

-- what is asked of a node
pub asked-node : (s : Store) (t : TypedNode) → IsSimple s t → AskedKind s t (own_kind t)
asked-node s (marked h m ts) p = p.0

pub settled-kid : (s : Store) (ts : List TypedNode) (i : ℕ) (x : TypedNode) → slice_get ts i ≡ Some x → AreSettled s (typed_nodes ts) →
    IsSettled s x
settled-kid s [] i x e h = absurd cc
settled-kid s (t ∷ ts) zero x e h = let f : t ≡ x = cc in subst (IsSettled s) f h.0
settled-kid s (t ∷ ts) (suc i) x e h = settled-kid s ts i x e h.1

settled-each : (s : Store) (ts : TypedNodes) → AreSimple s ts → HaveBases s ts → AreSettled s ts
settled-each s typed_none p b = tt
settled-each s (typed_more t ts) p b = (record { simple = p.0; bases = b.0 }, settled-each s ts p.1 b.1)

pub settled-kids : (s : Store) (t : TypedNode) (h : Head) (m : Mark) (ts : List TypedNode) → marked h m (typed_nodes ts) ≡ t →
    IsSettled s t →
    AreSettled s (typed_nodes ts)
settled-kids s t h m ts e p =
    let q = subst (IsSettled s) (sym e) p in
    settled-each s (typed_nodes ts) q.simple.4 q.bases.2

-- an error that is handed on
pub err-same : {A : Type 0} (result : Result A (Stop Fault)) (e : Stop Fault) (P : Stop Fault → Type 0) →
    IsErrAnd result (λ y. y ≡ e) → P e →
    IfErr result P
err-same (Ok a) e P h k = tt
err-same (Err y) e P h k = subst P (sym h) k
