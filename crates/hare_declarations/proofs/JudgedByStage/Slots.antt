-- What has been judged of each declaration, from one stage to the next.
use Rattle.std.proofs.Common.{◌≡◌, ◌≢◌, ℕ, ◌<◌, List, [], ◌∷◌, Bool, true, false, cond, length, Option, Some, None, ◌⊎◌, inl, inr, refl, ap, sym, ◌∙◌, subst, nat_eq, arith}
use Rattle.std.specs.Prelude.{slice_get, slice_set, replicate, Contains}
use Rattle.std.specs.Map.{lookup}
use Rattle.std.specs.Option.{unwrap_or}
use Rattle.std.proofs.lemmas.Bool.{eqb-true, eqb-false, eq-eqb, ne_eqb}
use Rattle.std.proofs.lemmas.List.Elements.{Contains-append_right, Contains-append_cases, Contains-push_cases}
use Rattle.hare_typed.specs.Typed.{TypedNode}
use Rattle.hare_rules.specs.declared.declared.DeclType.{DeclType}
use Rattle.hare_whole.specs.Listing.{Listing}
use Rattle.hare_whole.specs.Turns.{Stage, start, typed_at, with_done}
use Rattle.hare_declarations.specs.declared.parts.Parts.{Parts}
use Rattle.hare_declarations.specs.Standing.{IsSlot, AreSlots}
use Rattle.hare_declarations.proofs.JudgedByStage.Lists.{Contains-nil, length-set, slice_get-set_same, slice_get-set_other, length-replicate, slice_get-replicate}

-- ---- lists of what has been judged

pub Contains-head : {X : Type 0} (x : X) (xs : List X) → Contains (x ∷ xs) x
Contains-head x xs = (0, omega arith, refl)

-- it is the first, or stands behind it
cons-cases : {X : Type 0} (x : X) (xs : List X) (y : X) → Contains (x ∷ xs) y → (x ≡ y) ⊎ Contains xs y
cons-cases x xs y c = elim (Contains-append_cases (x ∷ []) xs y c) [
  | inl a ↦ elim (Contains-push_cases [] x y a) [ inl b ↦ absurd (Contains-nil y b) | inr e ↦ inl e ]
  | inr a ↦ inr a
]

-- what stands there of another declaration stood there before
other-before : {X : Type 0} (n m : ℕ) (x y : X) (xs : List (ℕ × X)) → m ≢ n → Contains ((n, x) ∷ xs) (m, y) → Contains xs (m, y)
other-before {X} n m x y xs o c = elim (cons-cases (n, x) xs (m, y) c) [
  | inl e ↦ absurd (o (sym (ap (λ (z : ℕ × X). z.0) e)))
  | inr k ↦ k
]

pub behind-first : {X : Type 0} (x : X) (xs : List X) (y : X) → Contains xs y → Contains (x ∷ xs) y
behind-first x xs y c = Contains-append_right (x ∷ []) xs y c

-- ---- two stages that say the same of a declaration

pub record SaysTheSame (g h : Stage) (vs ws : List (ℕ × TypedNode)) (n : ℕ) : Type 0 where
  pub done : Contains h.done n → Contains g.done n
  pub typed : (ts : List TypedNode) → Contains h.typed (n, ts) → Contains g.typed (n, ts)
  pub types : (ts : List TypedNode) → Contains g.typed (n, ts) → Contains h.typed (n, ts)
  pub at : typed_at h n ≡ typed_at g n
  pub valued : (v : TypedNode) → Contains ws (n, v) → Contains vs (n, v)
  pub values : (v : TypedNode) → Contains vs (n, v) → Contains ws (n, v)

slot-same : (g h : Stage) (vs ws : List (ℕ × TypedNode)) (n : ℕ) → SaysTheSame g h vs ws n → (o : Option Parts) → IsSlot g vs n o →
    IsSlot h ws n o
slot-same g h vs ws n k None q = record {
  undone = λ c. q.undone (k.done c);
  untyped = λ ts c. q.untyped ts (k.typed ts c);
  unvalued = λ v c. q.unvalued v (k.valued v c);
}
slot-same g h vs ws n k (Some x) q = record {
  types = k.types x.types q.types;
  at = k.at ∙ q.at;
  value = λ v e. k.values v (q.value v e);
  valued = λ v c. q.valued v (k.valued v c);
}

-- behind the types of one declaration the others stay
pub same-types : (g : Stage) (ks : List DeclType) (vs : List (ℕ × TypedNode)) (n : ℕ) (ts : List TypedNode) (m : ℕ) → m ≢ n →
    SaysTheSame g (record { done = g.done; known = ks; typed = (n, ts) ∷ g.typed }) vs vs m
same-types g ks vs n ts m o = record {
  done = λ c. c;
  typed = λ us c. other-before n m ts us g.typed o c;
  types = λ us c. behind-first (n, ts) g.typed (m, us) c;
  at = ap (λ b. unwrap_or (cond b (Some ts) (lookup (nat_eq m) g.typed)) []) (ne_eqb m n o);
  valued = λ v c. c;
  values = λ v c. c;
}

-- and behind its value
pub same-value : (g : Stage) (ks : List DeclType) (vs : List (ℕ × TypedNode)) (n : ℕ) (v : TypedNode) (m : ℕ) → m ≢ n →
    SaysTheSame g (record { done = g.done; known = ks; typed = g.typed }) vs ((n, v) ∷ vs) m
same-value g ks vs n v m o = record {
  done = λ c. c;
  typed = λ us c. c;
  types = λ us c. c;
  at = refl;
  valued = λ x c. other-before n m v x vs o c;
  values = λ x c. behind-first (n, v) vs (m, x) c;
}

-- and where it is done
same-done : (g : Stage) (vs : List (ℕ × TypedNode)) (n m : ℕ) → m ≢ n → SaysTheSame g (with_done g n) vs vs m
same-done g vs n m o = record {
  done = λ c. elim (cons-cases n g.done m c) [ inl e ↦ absurd (o (sym e)) | inr k ↦ k ];
  typed = λ us c. c;
  types = λ us c. c;
  at = refl;
  valued = λ x c. c;
  values = λ x c. c;
}

-- ---- what is kept of a declaration

-- behind its types
pub slot-types : (g : Stage) (ks : List DeclType) (vs : List (ℕ × TypedNode)) (n : ℕ) (ts : List TypedNode) →
    ((v : TypedNode) → ¬ Contains vs (n, v)) →
    IsSlot (record { done = g.done; known = ks; typed = (n, ts) ∷ g.typed }) vs n (Some (record { types = ts; value = None }))
slot-types g ks vs n ts new = record {
  types = Contains-head (n, ts) g.typed;
  at = ap (λ b. unwrap_or (cond b (Some ts) (lookup (nat_eq n) g.typed)) []) (eq-eqb n n refl);
  value = λ v e. absurd cc;
  valued = λ v c. absurd (new v c);
}

-- and behind its value
pub slot-value : (g : Stage) (ks : List DeclType) (vs : List (ℕ × TypedNode)) (n : ℕ) (q : Parts) (v : TypedNode) → IsSlot g vs n (Some q) →
    IsSlot (record { done = g.done; known = ks; typed = g.typed }) ((n, v) ∷ vs) n (Some (record { types = q.types; value = Some v }))
slot-value g ks vs n q v h = record {
  types = h.types;
  at = h.at;
  value = λ x e. let i : v ≡ x = cc in subst (λ z. Contains ((n, v) ∷ vs) (n, z)) i (Contains-head (n, v) vs);
  valued = λ x c. refl;
}

-- ---- all slots

-- where one slot is written, and the others stay
pub slots-write : (p : Listing) (g h : Stage) (vs ws : List (ℕ × TypedNode)) (qs rs : List (Option Parts)) (n : ℕ) (o : Option Parts) →
    AreSlots p g vs qs → rs ≡ slice_set qs n o → n < length qs → ((m : ℕ) → m ≢ n → SaysTheSame g h vs ws m) → IsSlot h ws n o →
    AreSlots p h ws rs
slots-write p g h vs ws qs rs n o a e below others own =
    subst (λ xs. AreSlots p h ws xs) (sym e) (record { count = length-set qs n o ∙ a.count; each = λ m x i. by m x i (nat_eq m n) refl })
  where
    by : (m : ℕ) (x : Option Parts) → slice_get (slice_set qs n o) m ≡ Some x → (b : Bool) → nat_eq m n ≡ b → IsSlot h ws m x
    by m x i true d =
        let same : m ≡ n = eqb-true m n d in
        let there : slice_get (slice_set qs n o) n ≡ Some x = subst (λ k. slice_get (slice_set qs n o) k ≡ Some x) same i in
        let here : slice_get (slice_set qs n o) n ≡ Some o = slice_get-set_same qs n o below in
        let is : o ≡ x = cc in
        subst (λ k. IsSlot h ws k x) (sym same) (subst (λ y. IsSlot h ws n y) is own)
    by m x i false d =
        let other : m ≢ n = λ f. eqb-false m n d f in
        let back : n ≢ m = λ f. other (sym f) in
        slot-same g h vs ws m (others m other) x (a.each m x (sym (slice_get-set_other qs n m o back) ∙ i))

-- where a declaration is done whose types have been judged
pub slots-done : (p : Listing) (g : Stage) (vs : List (ℕ × TypedNode)) (qs : List (Option Parts)) (n : ℕ) (q : Parts) → AreSlots p g vs qs →
    slice_get qs n ≡ Some (Some q) → AreSlots p (with_done g n) vs qs
slots-done p g vs qs n q a e = record { count = a.count; each = λ m x i. by m x i (nat_eq m n) refl }
  where
    by : (m : ℕ) (x : Option Parts) → slice_get qs m ≡ Some x → (b : Bool) → nat_eq m n ≡ b → IsSlot (with_done g n) vs m x
    by m x i true d =
        let same : m ≡ n = eqb-true m n d in
        let there : slice_get qs n ≡ Some x = subst (λ k. slice_get qs k ≡ Some x) same i in
        let is : Some q ≡ x = cc in
        let own = a.each n (Some q) e in
        subst (λ k. IsSlot (with_done g n) vs k x) (sym same)
        (subst (λ y. IsSlot (with_done g n) vs n y) is (record { types = own.types; at = own.at; value = own.value; valued = own.valued }))
    by m x i false d = slot-same g (with_done g n) vs vs m (same-done g vs n m (λ f. eqb-false m n d f)) x (a.each m x i)

-- before anything has been judged, all are empty
pub slots-empty : (p : Listing) (count : ℕ) → count ≡ length p.decls → AreSlots p start [] (replicate count None)
slots-empty p count e = record {
  count = length-replicate count None ∙ e;
  each = λ n o i.
      subst (λ x. IsSlot start [] n x) (slice_get-replicate count n None o i)
      (record { undone = λ c. Contains-nil n c; untyped = λ ts c. Contains-nil (n, ts) c; unvalued = λ v c. Contains-nil (n, v) c });
}
