-- Steps, one behind another, and what has been judged by them.
use Rattle.std.proofs.Common.{◌≡◌, ℕ, Bool, true, false, cond, List, [], ◌∷◌, ◌++◌, length, map, ◌⊎◌, inl, inr, refl, ap, sym, ◌∙◌, subst, arith}
use Rattle.std.specs.Prelude.{Contains}
use Rattle.std.proofs.lemmas.Bool.{eq-eqb}
use Rattle.std.proofs.lemmas.List.{length-map}
use Rattle.std.proofs.lemmas.List.Elements.{Contains-append_left, Contains-append_right, Contains-append_cases}
use Rattle.std.proofs.lemmas.Option.{slice_get_within}
use Rattle.hare_tree.specs.Node.{Node}
use Rattle.hare_types.specs.Store.{Store}
use Rattle.hare_typed.specs.Typed.{TypedNode}
use Rattle.hare_rules.specs.Words.{is_among, nomem}
use Rattle.hare_depends.specs.declared.said.Sort.{Sort}
use Rattle.hare_depends.specs.declared.said.Sort.TheVariants as so
use Rattle.hare_depends.specs.Said.{said_of}
use Rattle.hare_depends.specs.Sorts.{sort_of, has_value}
use Rattle.hare_whole.specs.Listing.{Listing, IsDecl}
use Rattle.hare_whole.specs.Turns.{Stage, Step, Types, Value, Done, early, value_steps, turn, AreSteps, AreAllSteps, Passes, Goes}
use Rattle.hare_turns.specs.Course.{StagesBegin, StepsGoTogether, StepsStop, StagesEnd}
use Rattle.hare_turns.proofs.LaterStores.Lists.{Contains-nil, Contains-head, Contains-tail, Contains-cons_cases, Contains-map, Contains-from_among, among_from_Contains, slice_get-same}
use Rattle.hare_turns.proofs.LaterStores.Stores.{IsLater-trans}
use Rattle.hare_turns.proofs.OneStep.Passed.{itself_ends}

-- ---- the first stage

pub stages_begin : StagesBegin
stages_begin p s declared defines only = record {
  sound = declared.sound;
  declared = declared;
  nomem = defines;
  only = λ d t e. eq-eqb d nomem (only d t e);
  done = λ n t c d e. absurd (Contains-nil n c);
  there = λ m ts c. absurd (Contains-nil (m, ts) c);
  types = λ m t ts c d. absurd (Contains-nil (m, ts) c);
  fit = λ m ts c. absurd (Contains-nil (m, ts) c);
  values = λ m t v c d. absurd (Contains-nil (m, v) c);
}

-- ---- steps that have been passed

Goes-push : (p : Listing) (l : Store) {g h : Stage} {xs : List Step} → Goes p l g xs h → (x : Step) (k : Stage) → Passes p l h x k →
    Goes p l g (xs ++ x ∷ []) k
Goes-push p l (Goes.nowhere g) x k a = Goes.on g k k x [] a (Goes.nowhere k)
Goes-push p l (Goes.on g h i y ys b rest) x k a = Goes.on g h k y (ys ++ x ∷ []) b (Goes-push p l rest x k a)

pub steps_go_together : StepsGoTogether
steps_go_together p s xs g a = record {
  stay = λ r k l e. a l (record { later = IsLater-trans s r l k e.later; final = e.final });
  more = λ x h vs b l e. Goes-push p l (a l e) x h (b.passes l e);
}

pub steps_stop : StepsStop
steps_stop p s xs ys x g f all a fails l e =
    record { before = xs; step = x; behind = ys; all = all; stage = g; goes = a l e; fails = fails l e }

-- ---- what has been judged by them

-- types that have been judged stay so
typed-pass : (p : Listing) (l : Store) {g h : Stage} {x : Step} → Passes p l g x h → (z : ℕ × List TypedNode) → Contains g.typed z →
    Contains h.typed z
typed-pass p l {g} (Passes.types n t ts d a) z c = Contains-tail (n, ts) g.typed z c
typed-pass p l (Passes.value n t v d a b) z c = c
typed-pass p l (Passes.done n t d a b) z c = c

typed-goes : (p : Listing) (l : Store) {g h : Stage} {xs : List Step} → Goes p l g xs h → (z : ℕ × List TypedNode) → Contains g.typed z →
    Contains h.typed z
typed-goes p l (Goes.nowhere g) z c = c
typed-goes p l (Goes.on g h k x xs a rest) z c = typed-goes p l rest z (typed-pass p l a z c)

typed_by_pass : (p : Listing) (l : Store) {g h : Stage} {x : Step} (n : ℕ) → x ≡ Types n → Passes p l g x h →
    (ts : List TypedNode) × Contains h.typed (n, ts)
typed_by_pass p l {g} n e (Passes.types m t ts d a) =
    let same : m ≡ n = cc in
    (ts, subst (λ (k : ℕ). Contains ((m, ts) ∷ g.typed) (k, ts)) same (Contains-head (m, ts) g.typed))
typed_by_pass p l n e (Passes.value m t v d a b) = absurd cc
typed_by_pass p l n e (Passes.done m t d a b) = absurd cc

typed_by_steps : (p : Listing) (l : Store) {g h : Stage} {xs : List Step} (n : ℕ) → Goes p l g xs h → Contains xs (Types n) →
    (ts : List TypedNode) × Contains h.typed (n, ts)
typed_by_steps p l n (Goes.nowhere g) c = absurd (Contains-nil (Types n) c)
typed_by_steps p l n (Goes.on g h k x xs a rest) c = elim (Contains-cons_cases x xs (Types n) c) [
  | inl e ↦ let own = typed_by_pass p l n e a in (own.0, typed-goes p l rest (n, own.0) own.1)
  | inr i ↦ typed_by_steps p l n rest i
]

-- ---- which steps there are

module _ (p : Listing) (js : List ℕ) (n : ℕ) (t : Node) where
  -- the steps of a turn: its own types, those of early globals, and its value
  abbrev own_types : List Step
  own_types = cond (is_among n js) [] (Types n ∷ [])

  abbrev early_types : List Step
  early_types = map Types (early p (n ∷ js) t)

  abbrev value_of_turn : List Step
  value_of_turn = value_steps (sort_of t) n

  turn-own : is_among n js ≡ false → Contains (turn p js n t) (Types n)
  turn-own e =
      Contains-append_left (own_types ++ early_types ++ value_of_turn) (Done n ∷ []) (Types n)
      (Contains-append_left (own_types ++ early_types) value_of_turn (Types n)
      (Contains-append_left own_types early_types (Types n)
      (subst (λ (b : Bool). Contains (cond b [] (Types n ∷ [])) (Types n)) (sym e) (Contains-head (Types n) []))))

  turn-early : (m : ℕ) → Contains (early p (n ∷ js) t) m → Contains (turn p js n t) (Types m)
  turn-early m c =
      Contains-append_left (own_types ++ early_types ++ value_of_turn) (Done n ∷ []) (Types m)
      (Contains-append_left (own_types ++ early_types) value_of_turn (Types m)
      (Contains-append_right own_types early_types (Types m)
      (Contains-map Types (early p (n ∷ js) t) m c)))

  turn-value : has_value (sort_of t) ≡ true → Contains (turn p js n t) (Value n)
  turn-value e =
      Contains-append_left (own_types ++ early_types ++ value_of_turn) (Done n ∷ []) (Value n)
      (Contains-append_right (own_types ++ early_types) value_of_turn (Value n)
      (by (sort_of t) e))
    where
      by : (x : Sort) → has_value x ≡ true → Contains (value_steps x n) (Value n)
      by so.Type h = absurd cc
      by so.Function h = absurd cc
      by so.Constant h = Contains-head (Value n) []
      by so.Global h = Contains-head (Value n) []

-- the types of each declaration are judged, or have been judged before
types_among : (p : Listing) {js ns : List ℕ} {xs : List Step} → AreSteps p js ns xs → (m : ℕ) → Contains ns m →
    (is_among m js ≡ true) ⊎ Contains xs (Types m)
types_among p (AreSteps.no_more js) m c = absurd (Contains-nil m c)
types_among p (AreSteps.next js n t ns xs d rest) m c = by (types_among p rest m) (Contains-cons_cases n ns m c)
  where
    own : n ≡ m → (is_among m js ≡ true) ⊎ Contains (turn p js n t ++ xs) (Types m)
    own e = subst (λ (k : ℕ). (is_among k js ≡ true) ⊎ Contains (turn p js n t ++ xs) (Types k)) e (at (is_among n js) refl)
      where
        at : (b : Bool) → is_among n js ≡ b → (is_among n js ≡ true) ⊎ Contains (turn p js n t ++ xs) (Types n)
        at true i = inl i
        at false i = inr (Contains-append_left (turn p js n t) xs (Types n) (turn-own p js n t i))

    judged : Contains (n ∷ (early p (n ∷ js) t ++ js)) m → (is_among m js ≡ true) ⊎ Contains (turn p js n t ++ xs) (Types m)
    judged k = elim (Contains-cons_cases n (early p (n ∷ js) t ++ js) m k) [
      | inl e ↦ own e
      | inr i ↦ elim (Contains-append_cases (early p (n ∷ js) t) js m i) [
        | inl j ↦ inr (Contains-append_left (turn p js n t) xs (Types m) (turn-early p js n t m j))
        | inr j ↦ inl (among_from_Contains m js j)
      ]
    ]

    by : (Contains ns m → (is_among m (n ∷ (early p (n ∷ js) t ++ js)) ≡ true) ⊎ Contains xs (Types m)) → (n ≡ m) ⊎ Contains ns m →
        (is_among m js ≡ true) ⊎ Contains (turn p js n t ++ xs) (Types m)
    by later (inl e) = own e
    by later (inr i) = elim (later i) [
      | inl a ↦ judged (Contains-from_among m (n ∷ (early p (n ∷ js) t ++ js)) a)
      | inr a ↦ inr (Contains-append_right (turn p js n t) xs (Types m) a)
    ]

-- the value of each declaration is judged
value_among : (p : Listing) {js ns : List ℕ} {xs : List Step} → AreSteps p js ns xs → (m : ℕ) (u : Node) → Contains ns m → IsDecl p m u →
    has_value (sort_of u) ≡ true → Contains xs (Value m)
value_among p (AreSteps.no_more js) m u c i e = absurd (Contains-nil m c)
value_among p (AreSteps.next js n t ns xs d rest) m u c i e = by (λ k. value_among p rest m u k i e) (Contains-cons_cases n ns m c)
  where
    by : (Contains ns m → Contains xs (Value m)) → (n ≡ m) ⊎ Contains ns m → Contains (turn p js n t ++ xs) (Value m)
    by later (inl k) =
        let same : t ≡ u = slice_get-same p.decls n m t u k d i in
        Contains-append_left (turn p js n t) xs (Value m)
        (subst (λ (x : ℕ). Contains (turn p js n t) (Value x)) k
        (turn-value p js n t (ap (λ (x : Node). has_value (sort_of x)) same ∙ e)))
    by later (inr k) = Contains-append_right (turn p js n t) xs (Value m) (later k)

-- each declaration stands in the order
pub in_order : (p : Listing) (xs : List Step) (all : AreAllSteps p xs) (n : ℕ) (t : Node) → IsDecl p n t → Contains all.order n
in_order p xs all n t d =
    all.is_order.all n (omega (arith, slice_get_within p.decls n t d, length-map p.decls (said_of (length p.decls) p.means)))

-- ---- the last stage

pub stages_end : StagesEnd
stages_end p s xs g vs all passed valued h = record {
  stage = h;
  judged = λ l e. record { steps = xs; all = all; goes = passed l e };
  types = λ n t d. elim (types_among p all.steps n (in_order p xs all n t d)) [
    | inl e ↦ absurd cc
    | inr c ↦ typed_by_steps p s n (passed s (itself_ends p s g vs h)) c
  ];
  values = λ n t d e. valued n (value_among p all.steps n t (in_order p xs all n t d) d e);
}
