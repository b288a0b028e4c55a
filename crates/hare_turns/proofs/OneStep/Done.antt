-- Declarations that are done, and types that turn out to be too large with them.
use Rattle.std.proofs.Common.{◌≡◌, ℕ, ◌<◌, Bool, true, false, cond, List, [], ◌∷◌, Some, inl, inr, refl, ap, sym, ◌∙◌, subst, nat_eq}
use Rattle.std.specs.Prelude.{◌||◌, find, is_some, Contains}
use Rattle.std.proofs.lemmas.Bool.{or_left, eqb-false}
use Rattle.hare_tree.specs.declared.place.Fault.{Fault}
use Rattle.hare_tree.specs.declared.place.Place.{Place}
use Rattle.hare_tree.specs.Node.{Node}
use Rattle.hare_types.specs.Store.{Store, definition_of}
use Rattle.hare_types.specs.Later.{IsLater, TypesStay}
use Rattle.hare_types.specs.Meanings.{IdsMeanTrees}
use Rattle.hare_typed.specs.Typed.{TypedNode}
use Rattle.hare_typed.specs.Erased.{erase}
use Rattle.hare_typed.specs.Order.{tree_from_front}
use Rattle.hare_seen.specs.Sizes.{AllFit, too_large}
use Rattle.hare_seen.specs.Laws.{BytesFollowDefinitions, SeenStoresAreStores}
use Rattle.hare_rules.specs.Context.{Setting}
use Rattle.hare_rules.specs.Words.{nomem}
use Rattle.hare_rules.specs.Finished.{FailsIn}
use Rattle.hare_inference.specs.Laws.{InferenceIsExact}
use Rattle.hare_depends.specs.declared.said.Sort.{Sort}
use Rattle.hare_depends.specs.declared.said.Sort.TheVariants as so
use Rattle.hare_depends.specs.Sorts.{sort_of}
use Rattle.hare_whole.specs.Listing.{Listing, IsDecl, Written, written_types}
use Rattle.hare_whole.specs.Declared.{over_type, before_type}
use Rattle.hare_whole.specs.Parts.{written_id}
use Rattle.hare_whole.specs.Turns.{Stage, Done, is_seen, seen, setting_at, typed_at, IsTyped, AreTyped, IsTypeFault, IsTypesFault, IsDefinedAs, with_done, IsLateFault, Passes, Fails}
use Rattle.hare_turns.specs.Stages.{IsEnd, IsStage, AreTypesOf}
use Rattle.hare_turns.specs.Laws.{IsSeenAt, DeclaresTheSame, IsGrownTo, DefinesOneMore, EndsAreSeen, GoesOn, IsDoneBy, DoneGoesOn, DoneStops}
use Rattle.hare_turns.proofs.LaterStores.Lists.{Contains-cons_cases, slice_get-same}
use Rattle.hare_turns.proofs.LaterStores.Sizes.{AllFit-later, IsFirstLarge-later}
use Rattle.hare_turns.proofs.LaterStores.Ends.{DefinesDone, seen_at}
use Rattle.hare_turns.proofs.LaterStores.Judged.{AreTypesOf-later, IsValueOf-later, IsDeclared-later, DefinesNomem-later}

-- ---- what is seen once one more is done

is_seen-own : (n : ℕ) (done : List ℕ) (d : ℕ) → nat_eq d n ≡ true → is_seen (n ∷ done) d ≡ true
is_seen-own n done d e =
    or_left (is_some (find (nat_eq d) (n ∷ done))) (nat_eq d nomem) (ap (λ b. is_some (cond b (Some n) (find (nat_eq d) done))) e)

is_seen-more : (n : ℕ) (done : List ℕ) (d : ℕ) → is_seen done d ≡ true → is_seen (n ∷ done) d ≡ true
is_seen-more n done d h = by (nat_eq d n) refl
  where
    by : (b : Bool) → nat_eq d n ≡ b → is_seen (n ∷ done) d ≡ true
    by true e = is_seen-own n done d e
    by false e = ap (λ b. is_some (cond b (Some n) (find (nat_eq d) done)) || nat_eq d nomem) e ∙ h

module _ (stay : TypesStay) (p : Listing) (s r : Store) (g : Stage) (vs : List (ℕ × TypedNode)) (n : ℕ) (t : Node) (h : IsStage p s g vs)
    (d : IsDecl p n t) where
  -- a type is done once it is defined
  DefinesDone-type : DefinesOneMore s r n (written_id (tree_from_front 0 (typed_at g n))) → DefinesDone p r (with_done g n)
  DefinesDone-type k = record {
    sound = k.sound;
    nomem = DefinesNomem-later stay s r h.sound k.later h.nomem;
    only = λ m u e. only m u e (nat_eq m n) refl;
    done = λ m u c i j. elim (Contains-cons_cases n g.done m c) [
      | inl e ↦ subst (λ (x : ℕ). definition_of r x ≡ Some (written_id (tree_from_front 0 (typed_at g x)))) e k.defined
      | inr c ↦ k.later.grows.defined m _ (h.done m u c i j)
    ];
  }
    where
      only : (m u : ℕ) → definition_of r m ≡ Some u → (b : Bool) → nat_eq m n ≡ b → is_seen (n ∷ g.done) m ≡ true
      only m u e true i = is_seen-own n g.done m i
      only m u e false i = is_seen-more n g.done m (h.only m u (sym (k.others m (eqb-false m n i)) ∙ e))

  -- any other declaration is done as it is
  DefinesDone-other : (sort_of t ≡ so.Type → ⊥) → IsGrownTo s r → DefinesDone p r (with_done g n)
  DefinesDone-other no_type k = record {
    sound = k.sound;
    nomem = DefinesNomem-later stay s r h.sound k.later h.nomem;
    only = λ m u e. is_seen-more n g.done m (h.only m u (sym (k.same m) ∙ e));
    done = λ m u c i j. elim (Contains-cons_cases n g.done m c) [
      | inl e ↦ absurd (no_type (ap sort_of (slice_get-same p.decls n m t u e d i) ∙ j))
      | inr c ↦ k.same m ∙ h.done m u c i j
    ];
  }

  stage_done : IsLater s r → DeclaresTheSame s r → DefinesDone p r (with_done g n) →
      ((m : ℕ) (ts : List TypedNode) → Contains g.typed (m, ts) → AllFit r ts) → IsStage p r (with_done g n) vs
  stage_done l e k fit = record {
    sound = k.sound;
    declared = IsDeclared-later p s r k.sound e h.declared;
    nomem = k.nomem;
    only = k.only;
    done = k.done;
    there = h.there;
    types = λ m u us c i. AreTypesOf-later p g.known s r l m u us (h.types m u us c i);
    fit = fit;
    values = λ m u v c i. IsValueOf-later p g.known s r l m u (typed_at g m) v (h.values m u v c i);
  }

  -- ---- the step is passed

  goes_on : EndsAreSeen → IsStage p r (with_done g n) vs → ((l : Store) → IsEnd p r l → IsDefinedAs l n (sort_of t) (typed_at g n)) →
      GoesOn p r g (Done n) (with_done g n) vs
  goes_on ends k defined = record { passes = λ l e. Passes.done n t d (defined l e) (stays l e); stage = k }
    where
      stays : (l : Store) → IsEnd p r l → (m : ℕ) (u : Node) (us : List TypedNode) → Contains g.typed (m, us) → IsDecl p m u →
          AreTyped (setting_at p l (with_done g n)) m (written_types u) us
      stays l e m u us c i =
          let at = ends p r l (with_done g n) vs k e in
          let own = k.types m u us c i in
          own.typed (seen l (n ∷ g.done)) at.later
          (AllFit-later stay r (seen l (n ∷ g.done)) k.sound at.later at.same us own.stand (k.fit m us c))

  goes_on_other : BytesFollowDefinitions → EndsAreSeen → (sort_of t ≡ so.Type → ⊥) → IsGrownTo s r →
      ((l : Store) → IsDefinedAs l n (sort_of t) (typed_at g n)) → GoesOn p r g (Done n) (with_done g n) vs
  goes_on_other bytes ends no_type k defined =
      let fit = λ (m : ℕ) (us : List TypedNode) (c : Contains g.typed (m, us)).
      let own = h.there m us c in
      AllFit-later stay s r h.sound k.later (bytes s r h.sound k.later k.same) us (h.types m own.0 us c own.1).stand (h.fit m us c) in
      goes_on ends (stage_done k.later k.declared (DefinesDone-other no_type k) fit) (λ l e. defined l)

pub done_goes_on : TypesStay → BytesFollowDefinitions → EndsAreSeen → DoneGoesOn
done_goes_on stay bytes ends p s r g vs n t h d k = by (sort_of t) refl k
  where
    as_other : (x : Sort) → sort_of t ≡ x → ((l : Store) → IsDefinedAs l n x (typed_at g n)) → (l : Store) →
        IsDefinedAs l n (sort_of t) (typed_at g n)
    as_other x j all l = subst (λ (y : Sort). IsDefinedAs l n y (typed_at g n)) (sym j) (all l)

    by : (x : Sort) → sort_of t ≡ x → IsDoneBy s r g n x → GoesOn p r g (Done n) (with_done g n) vs
    by so.Type j k =
        let more = k.more in
        goes_on stay p s r g vs n t h d ends
        (stage_done stay p s r g vs n t h d more.later more.declared (DefinesDone-type stay p s r g vs n t h d more) k.fit)
        (λ l e. subst (λ (y : Sort). IsDefinedAs l n y (typed_at g n)) (sym j) (e.later.grows.defined n _ more.defined))
    by so.Function j k = goes_on_other stay p s r g vs n t h d bytes ends (λ e. cc) k (as_other so.Function j (λ l. tt))
    by so.Constant j k = goes_on_other stay p s r g vs n t h d bytes ends (λ e. cc) k (as_other so.Constant j (λ l. tt))
    by so.Global j k = goes_on_other stay p s r g vs n t h d bytes ends (λ e. cc) k (as_other so.Global j (λ l. tt))

-- ---- the step has a fault

-- a type that is well typed has no fault
typed_has_no_fault : InferenceIsExact → (w : Setting) (n : ℕ) (r : Written) (x : TypedNode) (e : Fault) → IsTyped w n r x →
    IsTypeFault w n r e → ⊥
typed_has_no_fault exact w n r x e h (q, c, fails, is) =
    let k = exact w (over_type w n r.0) before_type in
    let a = subst (λ (u : Node). FailsIn w (over_type w n r.0) u before_type q c) (sym h.erases) fails in
    let good = k.found_by x h.carries in
    let bad = (k.fails (erase x) q c).0 a in
    cc

types_have_no_fault : InferenceIsExact → (w : Setting) (n : ℕ) (rs : List Written) (xs : List TypedNode) (e : Fault) →
    AreTyped w n rs xs → IsTypesFault w n rs e → ⊥
types_have_no_fault exact w n [] xs e h k = k
types_have_no_fault exact w n (r ∷ rs) [] e h k = h
types_have_no_fault exact w n (r ∷ rs) (x ∷ xs) e h (inl k) = typed_has_no_fault exact w n r x e h.0 k
types_have_no_fault exact w n (r ∷ rs) (x ∷ xs) e h (inr (y, typed, rest)) = types_have_no_fault exact w n rs xs e h.1 rest

pub done_stops : IdsMeanTrees → TypesStay → InferenceIsExact → BytesFollowDefinitions → SeenStoresAreStores → DoneStops
done_stops mean stay exact bytes stores p s r l g vs n m t at h d j more late e =
    Fails.done n m t d (subst (λ (y : Sort). IsDefinedAs l n y (typed_at g n)) (sym j) (e.later.grows.defined n _ more.defined))
    (record { tree = own.0; types = late.types; is_there = own.1; judged = late.judged; fails = fails })
    first
  where
    f : Store
    f = seen l (n ∷ g.done)

    k : IsSeenAt r f
    k = seen_at mean p r l (with_done g n) (DefinesDone-type stay p s r g vs n t h d more) e bytes stores

    own : (u : Node) × IsDecl p m u
    own = h.there m late.types late.judged

    types : (i : ℕ) (u : Node) (us : List TypedNode) → Contains g.typed (i, us) → IsDecl p i u → AreTypesOf p g.known r i u us
    types i u us c x = AreTypesOf-later p g.known s r more.later i u us (h.types i u us c x)

    fails : IsTypesFault (setting_at p l (with_done g n)) m (written_types own.0) (too_large at)
    fails =
        let x = types m own.0 late.types late.judged own.1 in
        subst (λ (y : Place). IsTypesFault (setting_at p l (with_done g n)) m (written_types own.0) (too_large y)) late.place
        (x.large f late.order late.node k.later
        (IsFirstLarge-later stay r f more.sound k.later k.same late.types late.order late.node x.stand late.first))

    first : (i : ℕ) (y : Fault) → i < m → IsLateFault p l (with_done g n) i y → ⊥
    first i y lt z =
        let x = types i z.tree z.types z.judged z.is_there in
        let fit = AllFit-later stay r f more.sound k.later k.same z.types x.stand (late.before i z.types lt z.judged) in
        types_have_no_fault exact (setting_at p l (with_done g n)) i (written_types z.tree) z.types y (x.typed f k.later fit) z.fails
