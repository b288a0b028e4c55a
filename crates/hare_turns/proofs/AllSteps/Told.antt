-- What is known of each declaration that has been judged.
use Rattle.std.proofs.Common.{◌≡◌, ℕ, Bool, true, false, cond, List, [], ◌∷◌, ◌++◌, Some, None, ◌⊎◌, inl, inr, refl, ap, sym, ◌∙◌, subst, nat_eq}
use Rattle.std.specs.Prelude.{Contains, is_some}
use Rattle.std.specs.Map.{lookup}
use Rattle.std.specs.Option.{unwrap_or, option_or}
use Rattle.std.proofs.lemmas.Bool.{eqb-false, eq-eqb, eqb-true}
use Rattle.std.proofs.lemmas.List.Folds.{find-append}
use Rattle.hare_tree.specs.declared.kind.Kind.{Kind}
use Rattle.hare_tree.specs.declared.kind.Kind.TheVariants as ki
use Rattle.hare_tree.specs.Node.{Node, head}
use Rattle.hare_types.specs.Store.{Store}
use Rattle.hare_types.specs.Later.{IsLater}
use Rattle.hare_typed.specs.declared.constant.Const.TheVariants as constant
use Rattle.hare_typed.specs.Typed.{TypedNode, mark_of}
use Rattle.hare_rules.specs.declared.declared.DeclType.{DeclType}
use Rattle.hare_rules.specs.Context.{Setting, BindingType, own_type}
use Rattle.hare_rules.specs.Words.{default_in}
use Rattle.hare_modules.specs.Uses.{kid}
use Rattle.hare_depends.specs.declared.said.Sort.{Sort}
use Rattle.hare_depends.specs.declared.said.Sort.TheVariants as so
use Rattle.hare_depends.specs.Sorts.{sort_of, has_type}
use Rattle.hare_whole.specs.Listing.{Listing, IsDecl, written_by}
use Rattle.hare_whole.specs.Parts.{id_or_zero, written_id, declared_id, known_as, is_mutable}
use Rattle.hare_whole.specs.Turns.{Stage, setting_at, typed_at, AreTyped, plain_of, type_or_plain, is_def, known_by_types, known_by_value, with_types, with_value}
use Rattle.hare_turns.specs.Stages.{IsEnd, IsStage, over, known_of}
use Rattle.hare_turns.specs.Laws.{IsNewIn, IsUnknownConstant}
use Rattle.hare_turns.specs.Known.{IsSaidByTypes, IsSaidByValue, IsKnownAs, KnownBegins, StagesAreKnown}
use Rattle.hare_turns.proofs.LaterStores.Lists.{Contains-nil, Contains-head, Contains-tail, Contains-cons_cases, slice_get-same}
use Rattle.hare_turns.proofs.LaterStores.Stores.{IsLater-refl, IsLater-trans}
use Rattle.hare_turns.proofs.MoreKnown.Declarations.{known_of-more}
use Rattle.hare_turns.proofs.OneStep.Passed.{typed_at-other}

-- ---- what is found

-- what is put at the end, of a declaration of which nothing is known yet
known_of-last : (ds : List DeclType) (x d : DeclType) (n : ℕ) → known_of ds n ≡ None → x.decl ≡ n → Contains (x ∷ []) d →
    known_of (ds ++ x ∷ []) n ≡ Some d
known_of-last ds x d n unknown own c =
    find-append (λ y. nat_eq y.decl n) ds (x ∷ [])
    ∙ ap (λ o. option_or o (known_of (x ∷ []) n)) unknown
    ∙ ap (λ b. cond b (Some x) None) (eq-eqb x.decl n own)
    ∙ by (Contains-cons_cases x [] d c)
  where
    by : (x ≡ d) ⊎ Contains [] d → Some x ≡ Some d
    by (inl e) = ap Some e
    by (inr i) = absurd (Contains-nil d i)

-- what is known stays
known_of-stays : (p : Listing) (ds ks : List DeclType) (n : ℕ) (d : DeclType) → known_of ds n ≡ Some d → known_of (ds ++ ks) n ≡ Some d
known_of-stays p ds ks n d e = sym (known_of-more p ds ks n (ap is_some e)) ∙ e

-- of a declaration that has types, those that are looked up are some of them
pub typed_at-among : (es : List (ℕ × List TypedNode)) (n : ℕ) (ts : List TypedNode) → Contains es (n, ts) →
    Contains es (n, unwrap_or (lookup (nat_eq n) es) [])
typed_at-among [] n ts c = absurd (Contains-nil (n, ts) c)
typed_at-among (e ∷ es) n ts c = by (nat_eq n e.0) refl (typed_at-among es n ts) (Contains-cons_cases e es (n, ts) c)
  where
    by : (b : Bool) → nat_eq n e.0 ≡ b → (Contains es (n, ts) → Contains es (n, unwrap_or (lookup (nat_eq n) es) [])) →
        (e ≡ (n, ts)) ⊎ Contains es (n, ts) → Contains (e ∷ es) (n, unwrap_or (cond (nat_eq n e.0) (Some e.1) (lookup (nat_eq n) es)) [])
    by true i rest k =
        subst (λ (b : Bool). Contains (e ∷ es) (n, unwrap_or (cond b (Some e.1) (lookup (nat_eq n) es)) [])) (sym i)
        (subst (λ (m : ℕ). Contains (e ∷ es) (m, e.1)) (sym (eqb-true n e.0 i)) (Contains-head e es))
    by false i rest (inl k) = absurd (eqb-false n e.0 i (sym (ap (λ (z : ℕ × List TypedNode). z.0) k)))
    by false i rest (inr k) =
        subst (λ (b : Bool). Contains (e ∷ es) (n, unwrap_or (cond b (Some e.1) (lookup (nat_eq n) es)) [])) (sym i)
        (Contains-tail e es (n, unwrap_or (lookup (nat_eq n) es) []) (rest k))

-- ---- what is known by types

-- of each sort at most one is known, of the declaration itself
known_by_types-own : (ds : List DeclType) (l : Store) (n : ℕ) (k : Kind) (x : Sort) (ts : List TypedNode) (d : DeclType) →
    known_of ds n ≡ None → Contains (known_by_types l n k x ts) d → known_of (ds ++ known_by_types l n k x ts) n ≡ Some d
known_by_types-own ds l n k so.Type ts d unknown c = known_of-last ds _ d n unknown refl c
known_by_types-own ds l n k so.Function ts d unknown c = known_of-last ds _ d n unknown refl c
known_by_types-own ds l n k so.Constant ts d unknown c = absurd (Contains-nil d c)
known_by_types-own ds l n k so.Global ts d unknown c = known_of-last ds _ d n unknown refl c

-- ---- what is known by a value

-- the type of a def or a global where none is written is that of its value, whatever stands in the place of the written one
declared_id-plain : (l : Store) (w : Setting) (t : Node) (v : TypedNode) → has_type t ≡ false →
    declared_id l (plain_of w (kid t 2)) v ≡ id_or_zero (default_in l (own_type v))
declared_id-plain l w t v e = ap (λ b. cond b (written_id (plain_of w (kid t 2))) (id_or_zero (default_in l (own_type v)))) e

declared_id-same : (l : Store) (w z : Setting) (t : Node) (ts : List TypedNode) (v : TypedNode) → (ts ≡ [] → has_type t ≡ false) →
    declared_id l (type_or_plain w (kid t 2) ts) v ≡ declared_id l (type_or_plain z (kid t 2) ts) v
declared_id-same l w z t [] v h = declared_id-plain l w t v (h refl) ∙ sym (declared_id-plain l z t v (h refl))
declared_id-same l w z t (x ∷ xs) v h = refl

-- what is known of a constant of this type
abbrev constant_as : ℕ → Kind → TypedNode → ℕ → DeclType
constant_as n k v i = cond (is_def k) (known_as n ki.Def i [] false (mark_of v).value) (known_as n k i [] (is_mutable k) constant.Absent)

constant_as-own : (n : ℕ) (k : Kind) (v : TypedNode) (i : ℕ) → (constant_as n k v i).decl ≡ n
constant_as-own n k v i = by (is_def k)
  where
    by : (b : Bool) → (cond b (known_as n ki.Def i [] false (mark_of v).value) (known_as n k i [] (is_mutable k) constant.Absent)).decl ≡ n
    by true = refl
    by false = refl

known_by_value-own : (ds : List DeclType) (l : Store) (w z : Setting) (n : ℕ) (t : Node) (k : Kind) (x : Sort) (ts : List TypedNode)
    (v : TypedNode) (d : DeclType) → (x ≡ so.Constant → known_of ds n ≡ None) → (x ≡ so.Constant → ts ≡ [] → has_type t ≡ false) →
    Contains (known_by_value l n k x (type_or_plain w (kid t 2) ts) v) d →
    known_of (ds ++ known_by_value l n k x (type_or_plain z (kid t 2) ts) v) n ≡ Some d
known_by_value-own ds l w z n t k so.Type ts v d unknown none c = absurd (Contains-nil d c)
known_by_value-own ds l w z n t k so.Function ts v d unknown none c = absurd (Contains-nil d c)
known_by_value-own ds l w z n t k so.Global ts v d unknown none c = absurd (Contains-nil d c)
known_by_value-own ds l w z n t k so.Constant ts v d unknown none c =
    let i = declared_id l (type_or_plain z (kid t 2) ts) v in
    known_of-last ds (constant_as n k v i) d n (unknown refl) (constant_as-own n k v i)
    (subst (λ (j : ℕ). Contains (constant_as n k v j ∷ []) d) (declared_id-same l w z t ts v (none refl)) c)

-- a constant whose types have been judged, and has none, has no written type
untyped : (w : Setting) (n : ℕ) (t : Node) (ts : List TypedNode) → AreTyped w n (written_by so.Constant t) ts → ts ≡ [] → has_type t ≡ false
untyped w n t ts h e = by (has_type t) refl (subst (λ (xs : List TypedNode). AreTyped w n (written_by so.Constant t) xs) e h)
  where
    by : (b : Bool) → has_type t ≡ b → AreTyped w n (cond (has_type t) ((BindingType, kid t 2) ∷ []) []) [] → has_type t ≡ false
    by true i k = absurd (subst (λ (b : Bool). AreTyped w n (cond b ((BindingType, kid t 2) ∷ []) []) []) i k)
    by false i k = i

-- ---- from one stage to the next

pub known_begins : KnownBegins
known_begins p s = record {
  types = λ l n t ts d e c. absurd (Contains-nil (n, ts) c);
  values = λ l w n t v d e c. absurd (Contains-nil (n, v) c);
}

module _ (p : Listing) (s : Store) (g : Stage) (vs : List (ℕ × TypedNode)) (h : IsStage p s g vs) (k : IsKnownAs p s g vs) (n : ℕ)
    (t : Node) (i : IsDecl p n t) where
  -- behind the types of a declaration
  module _ (ts : List TypedNode) (new : IsNewIn g vs n) (l : Store) (e : IsEnd p s l) where
    known_types : (m : ℕ) (u : Node) (us : List TypedNode) (d : DeclType) → Contains ((n, ts) ∷ g.typed) (m, us) → IsDecl p m u →
        IsSaidByTypes l m u us d → known_of (with_types l g n t ts).known m ≡ Some d
    known_types m u us d c j o = elim (Contains-cons_cases (n, ts) g.typed (m, us) c) [
      | inl q ↦
          let own : n ≡ m = ap (λ (z : ℕ × List TypedNode). z.0) q in
          let tree : t ≡ u = slice_get-same p.decls n m t u own i j in
          let at = subst (λ (x : Node). IsSaidByTypes l m x us d) (sym tree) o in
          let there = subst (λ (z : ℕ × List TypedNode). IsSaidByTypes l z.0 t z.1 d) (sym q) at in
          subst (λ (x : ℕ). known_of (with_types l g n t ts).known x ≡ Some d) own
          (known_by_types-own g.known l n (head t).kind (sort_of t) ts d new.unknown there)
      | inr q ↦ known_of-stays p g.known (known_by_types l n (head t).kind (sort_of t) ts) m d (k.types l m u us d e q j o)
    ]

    known_values : (w : Setting) (m : ℕ) (u : Node) (v : TypedNode) (d : DeclType) → Contains vs (m, v) → IsDecl p m u →
        IsSaidByValue l w m u (typed_at (with_types l g n t ts) m) v d → known_of (with_types l g n t ts).known m ≡ Some d
    known_values w m u v d c j o =
        let other : m ≡ n → ⊥ = λ q. new.unvalued v (subst (λ (x : ℕ). Contains vs (x, v)) q c) in
        let at = subst (λ (xs : List TypedNode). IsSaidByValue l w m u xs v d) (typed_at-other l g n t ts m other) o in
        known_of-stays p g.known (known_by_types l n (head t).kind (sort_of t) ts) m d (k.values l w m u v d e c j at)

  -- behind its value
  module _ (ts : List TypedNode) (v : TypedNode) (there : Contains g.typed (n, ts)) (new : IsUnknownConstant g n (sort_of t)) (l : Store)
      (e : IsEnd p s l) where
    abbrev behind : Stage
    behind = with_value (setting_at p l g) l g n t v

    unknown_constant : (x : Sort) → IsUnknownConstant g n x → x ≡ so.Constant → known_of g.known n ≡ None
    unknown_constant so.Type a q = absurd cc
    unknown_constant so.Function a q = absurd cc
    unknown_constant so.Constant a q = a
    unknown_constant so.Global a q = absurd cc

    no_type : sort_of t ≡ so.Constant → typed_at g n ≡ [] → has_type t ≡ false
    no_type q =
        let w = over p g.known s in
        let among = typed_at-among g.typed n ts there in
        let typed = (h.types n t (typed_at g n) among i).typed s (IsLater-refl s h.sound) (h.fit n (typed_at g n) among) in
        untyped w n t (typed_at g n) (subst (λ (x : Sort). AreTyped w n (written_by x t) (typed_at g n)) q typed)

    value_types : (m : ℕ) (u : Node) (us : List TypedNode) (d : DeclType) → Contains g.typed (m, us) → IsDecl p m u →
        IsSaidByTypes l m u us d → known_of behind.known m ≡ Some d
    value_types m u us d c j o = known_of-stays p g.known _ m d (k.types l m u us d e c j o)

    value_values : (w : Setting) (m : ℕ) (u : Node) (x : TypedNode) (d : DeclType) → Contains ((n, v) ∷ vs) (m, x) → IsDecl p m u →
        IsSaidByValue l w m u (typed_at g m) x d → known_of behind.known m ≡ Some d
    value_values w m u x d c j o = elim (Contains-cons_cases (n, v) vs (m, x) c) [
      | inl q ↦
          let own : n ≡ m = ap (λ (z : ℕ × TypedNode). z.0) q in
          let tree : t ≡ u = slice_get-same p.decls n m t u own i j in
          let at = subst (λ (y : Node). IsSaidByValue l w m y (typed_at g m) x d) (sym tree) o in
          let here = subst (λ (z : ℕ × TypedNode). IsSaidByValue l w z.0 t (typed_at g z.0) z.1 d) (sym q) at in
          subst (λ (y : ℕ). known_of behind.known y ≡ Some d) own
          (known_by_value-own g.known l w (setting_at p l g) n t (head t).kind (sort_of t) (typed_at g n) v d
          (unknown_constant (sort_of t) new) no_type here)
      | inr q ↦ known_of-stays p g.known _ m d (k.values l w m u x d e q j o)
    ]

pub stages_are_known : StagesAreKnown
stages_are_known p s g vs h k = record {
  stay = λ r l. record {
    types = λ f n t ts d e c i o. k.types f n t ts d (back r l f e) c i o;
    values = λ f w n t v d e c i o. k.values f w n t v d (back r l f e) c i o;
  };
  types = λ n t ts x i new is. record {
    types = λ l m u us d e c j o.
        subst (λ (z : Stage). known_of z.known m ≡ Some d) (sym (is l e))
        (known_types p s g vs h k n t i ts new l e m u us d (subst (λ (z : Stage). Contains z.typed (m, us)) (is l e) c) j o);
    values = λ l w m u v d e c j o.
        subst (λ (z : Stage). known_of z.known m ≡ Some d) (sym (is l e))
        (known_values p s g vs h k n t i ts new l e w m u v d c j
        (subst (λ (z : Stage). IsSaidByValue l w m u (typed_at z m) v d) (is l e) o));
  };
  value = λ n t ts v x i there new is. record {
    types = λ l m u us d e c j o.
        subst (λ (z : Stage). known_of z.known m ≡ Some d) (sym (is l e))
        (value_types p s g vs h k n t i ts v there new l e m u us d (subst (λ (z : Stage). Contains z.typed (m, us)) (is l e) c) j o);
    values = λ l w m u y d e c j o.
        subst (λ (z : Stage). known_of z.known m ≡ Some d) (sym (is l e))
        (value_values p s g vs h k n t i ts v there new l e w m u y d c j
        (subst (λ (z : Stage). IsSaidByValue l w m u (typed_at z m) y d) (is l e) o));
  };
  done = λ n. record { types = k.types; values = k.values };
}
  where
    back : (r : Store) → IsLater s r → (f : Store) → IsEnd p r f → IsEnd p s f
    back r l f e = record { later = IsLater-trans s r f l e.later; final = e.final }
