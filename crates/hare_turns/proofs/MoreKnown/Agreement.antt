-- What has been judged stays so once more is known of declarations.
use Rattle.std.proofs.Common.{ℕ, List, [], ◌∷◌, ◌++◌, inl, inr, refl, sym, ◌∙◌, subst}
use Rattle.std.specs.Prelude.{Contains}
use Rattle.hare_tree.specs.declared.place.Fault.{Fault}
use Rattle.hare_tree.specs.Node.{Node}
use Rattle.hare_types.specs.Store.{Store}
use Rattle.hare_types.specs.Sound.{IsStore}
use Rattle.hare_typed.specs.Typed.{TypedNode}
use Rattle.hare_typed.specs.Erased.{erase}
use Rattle.hare_seen.specs.Sizes.{AllFit}
use Rattle.hare_rules.specs.declared.declared.DeclType.{DeclType}
use Rattle.hare_rules.specs.Above.{Above}
use Rattle.hare_rules.specs.Flow.{Flow}
use Rattle.hare_agree.specs.Laws.{IsAgreed, ValuesAreEnough}
use Rattle.hare_modules.specs.Uses.{kid}
use Rattle.hare_whole.specs.Listing.{Listing, Written, written_types}
use Rattle.hare_whole.specs.Declared.{over_type, over_value, before_type, before_value}
use Rattle.hare_whole.specs.Turns.{IsTyped, AreTyped, IsTypeFault, IsTypesFault, hint_by, IsTypedValue}
use Rattle.hare_turns.specs.Stages.{over, AreReadable, AreTypesOf, IsValueOf}
use Rattle.hare_turns.proofs.LaterStores.Lists.{Contains-head, Contains-tail}
use Rattle.hare_turns.proofs.LaterStores.Stores.{IsLater-refl}
use Rattle.hare_turns.proofs.MoreKnown.Declarations.{AreOfProgram, AreReadable-more, says_the_same}
use Rattle.hare_turns.proofs.MoreKnown.Rows.{first_failing-told}

-- what paths of written types say stays as it is
abbrev AreAllReadable : Listing → List DeclType → List Written → Type 0
AreAllReadable p ds [] = Unit {0}
AreAllReadable p ds (r ∷ rs) = AreReadable p ds r.1 × AreAllReadable p ds rs

module _ (enough : ValuesAreEnough) (p : Listing) (ds ks : List DeclType) (own : AreOfProgram p ks) where
  agreed : (f : Store) (a : Above) (x : Flow) (t : Node) → AreReadable p ds t → IsAgreed (over p ds f) (over p (ds ++ ks) f) a x t
  agreed f a x t h =
      enough (over p ds f) (over p (ds ++ ks) f) a x t (record { store = refl; means = refl })
      (λ k n c e i. says_the_same p ds ks own k.kind n e (h k n c i))

  -- ---- written types

  -- the types are those that the trees erase to
  AreAllReadable-typed : (f : Store) (n : ℕ) (rs : List Written) (xs : List TypedNode) → AreTyped (over p ds f) n rs xs →
      ((x : TypedNode) → Contains xs x → AreReadable p ds (erase x)) → AreAllReadable p ds rs
  AreAllReadable-typed f n [] xs h says = tt
  AreAllReadable-typed f n (r ∷ rs) [] h says = absurd h
  AreAllReadable-typed f n (r ∷ rs) (x ∷ xs) h says = (
    subst (AreReadable p ds) h.0.erases (says x (Contains-head x xs)),
    AreAllReadable-typed f n rs xs h.1 (λ y c. says y (Contains-tail x xs y c)),
  )

  IsTyped-more : (f : Store) (n : ℕ) (r : Written) (x : TypedNode) → AreReadable p ds r.1 → IsTyped (over p ds f) n r x →
      IsTyped (over p (ds ++ ks) f) n r x
  IsTyped-more f n r x says h = record {
    erases = h.erases;
    plain = h.plain;
    carries = (agreed f (over_type (over p ds f) n r.0) before_type r.1 says).there.carries x h.erases h.carries;
  }

  AreTyped-more : (f : Store) (n : ℕ) (rs : List Written) (xs : List TypedNode) → AreAllReadable p ds rs → AreTyped (over p ds f) n rs xs →
      AreTyped (over p (ds ++ ks) f) n rs xs
  AreTyped-more f n [] [] says h = tt
  AreTyped-more f n [] (x ∷ xs) says h = h
  AreTyped-more f n (r ∷ rs) [] says h = h
  AreTyped-more f n (r ∷ rs) (x ∷ xs) says h = (IsTyped-more f n r x says.0 h.0, AreTyped-more f n rs xs says.1 h.1)

  IsTypeFault-more : (f : Store) (n : ℕ) (r : Written) (e : Fault) → AreReadable p ds r.1 → IsTypeFault (over p ds f) n r e →
      IsTypeFault (over p (ds ++ ks) f) n r e
  IsTypeFault-more f n r e says (q, c, fails, is) =
      let there = (agreed f (over_type (over p ds f) n r.0) before_type r.1 says).there in
      (q, record c { setting = over p (ds ++ ks) f }, there.fails q c fails, is ∙ sym (there.fault q c fails))

  IsTypesFault-more : (f : Store) (n : ℕ) (rs : List Written) (e : Fault) → AreAllReadable p ds rs → IsTypesFault (over p ds f) n rs e →
      IsTypesFault (over p (ds ++ ks) f) n rs e
  IsTypesFault-more f n [] e says h = h
  IsTypesFault-more f n (r ∷ rs) e says (inl h) = inl (IsTypeFault-more f n r e says.0 h)
  IsTypesFault-more f n (r ∷ rs) e says (inr (x, h, rest)) =
      inr (x, IsTyped-more f n r x says.0 h, IsTypesFault-more f n rs e says.1 rest)

  pub AreTypesOf-more : (s : Store) (m : ℕ) (t : Node) (ts : List TypedNode) → IsStore s → AllFit s ts → AreTypesOf p ds s m t ts →
      AreTypesOf p (ds ++ ks) s m t ts
  AreTypesOf-more s m t ts v fit h =
      let says = AreAllReadable-typed s m (written_types t) ts (h.typed s (IsLater-refl s v) fit) h.readable in
      record {
        stand = h.stand;
        typed = λ f l k. AreTyped-more f m (written_types t) ts says (h.typed f l k);
        large = λ f i y l first. IsTypesFault-more f m (written_types t) _ says (h.large f i y l first);
        readable = λ x c. AreReadable-more p ds ks (erase x) (h.readable x c);
      }

  -- ---- values

  IsTypedValue-more : (f : Store) (m : ℕ) (t : Node) (ts : List TypedNode) (v : TypedNode) → AreReadable p ds (erase v) →
      IsTypedValue (over p ds f) m t ts v → IsTypedValue (over p (ds ++ ks) f) m t ts v
  IsTypedValue-more f m t ts v says h =
      let a = over_value (over p ds f) m (hint_by ts) in
      let there = (agreed f a (before_value (kid t 3)) (kid t 3) (subst (AreReadable p ds) h.erases says)).there in
      record { erases = h.erases; well = there.well v h.erases h.well }

  pub IsValueOf-more : (s : Store) (m : ℕ) (t : Node) (ts : List TypedNode) (v : TypedNode) → IsValueOf p ds s m t ts v →
      IsValueOf p (ds ++ ks) s m t ts v
  IsValueOf-more s m t ts v h = record {
    typed = λ f l. IsTypedValue-more f m t ts v h.readable (h.typed f l);
    rows = λ f l. sym (first_failing-told p ds (ds ++ ks) f m t ts v) ∙ h.rows f l;
    readable = AreReadable-more p ds ks (erase v) h.readable;
  }
