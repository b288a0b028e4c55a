-- Over one store a step is passed in one way or has one fault, and not both.
use Rattle.std.proofs.Common.{◌≡◌, ◌⊎◌, inl, inr, ℕ, ◌<◌, ◌≤◌, List, [], ◌∷◌, Some, None, Ok, Err, refl, ap, sym, ◌∙◌, subst, arith}
use Rattle.std.proofs.lemmas.Bool.{cases_lt}
use Rattle.hare_tree.specs.declared.place.Fault.{Fault}
use Rattle.hare_tree.specs.Node.{Node}
use Rattle.hare_types.specs.Store.{Store}
use Rattle.hare_typed.specs.Typed.{TypedNode}
use Rattle.hare_typed.specs.Erased.{erase}
use Rattle.hare_rules.specs.declared.row_id.RowId.{RowId}
use Rattle.hare_rules.specs.Context.{Setting, Context}
use Rattle.hare_rules.specs.Rows.{first_failing, fault_of}
use Rattle.hare_rules.specs.Finished.{bare, behind, FailsIn}
use Rattle.hare_inference.specs.Inferred.{Fails as FailsAt, found, infer}
use Rattle.hare_inference.specs.Laws.{OneTree, OneFault, TreeOrFault, InferenceIsExact}
use Rattle.hare_modules.specs.Uses.{kid}
use Rattle.hare_whole.specs.Listing.{Listing, Written, IsDecl, written_types}
use Rattle.hare_whole.specs.Declared.{over_type, over_value, before_type, before_value}
use Rattle.hare_whole.specs.Turns.{Stage, Step, setting_at, typed_at, hint_by, IsTyped, AreTyped, IsTypeFault, IsTypesFault, IsTypedValue, context_of, IsValueFault, with_types, with_value, with_done, IsLateFault, Passes, Fails}
use Rattle.hare_sole.proofs.OneTree.Borrowed.{one_bare}

-- what inference says
pub record Inference : Type 0 where
  pub exact : InferenceIsExact
  pub tree : OneTree
  pub fault : OneFault
  pub decided : TreeOrFault

-- the declaration with a number is one
pub decl-once : (p : Listing) (n : ℕ) (t u : Node) → IsDecl p n t → IsDecl p n u → t ≡ u
decl-once p n t u h k = cc

module _ (k : Inference) (w : Setting) where
  -- ---- written types

  type-once : (n : ℕ) (r : Written) (x y : TypedNode) → IsTyped w n r x → IsTyped w n r y → x ≡ y
  type-once n r x y h j =
      one_bare k.exact w (over_type w n r.0) before_type x y (h.erases ∙ sym j.erases) h.plain j.plain h.carries j.carries

  type-or-fault : (n : ℕ) (r : Written) (x : TypedNode) (f : Fault) → IsTyped w n r x → IsTypeFault w n r f → ⊥
  type-or-fault n r x f h j =
      let a = over_type w n r.0 in
      let there : infer w a (erase x) before_type ≡ Ok (found (bare x) (behind w a x before_type)) =
      (k.exact w a before_type).found_by x h.carries in
      let fails : FailsIn w a (erase x) before_type j.0 j.1 =
      subst (λ (t : Node). FailsIn w a t before_type j.0 j.1) (sym h.erases) j.2 in
      let other : infer w a (erase x) before_type ≡ Err (FailsAt j.0 j.1) = ((k.exact w a before_type).fails (erase x) j.0 j.1).0 fails in
      cc

  type-fault-once : (n : ℕ) (r : Written) (f g : Fault) → IsTypeFault w n r f → IsTypeFault w n r g → f ≡ g
  type-fault-once n r f g h j =
      h.3 ∙ (k.fault w (over_type w n r.0) before_type r.1 h.0 j.0 h.1 j.1 h.2 j.2).fault ∙ sym j.3

  pub types-once : (n : ℕ) (rs : List Written) (xs ys : List TypedNode) → AreTyped w n rs xs → AreTyped w n rs ys → xs ≡ ys
  types-once n [] [] [] h j = refl
  types-once n [] [] (y ∷ ys) h j = absurd j
  types-once n [] (x ∷ xs) ys h j = absurd h
  types-once n (r ∷ rs) [] ys h j = absurd h
  types-once n (r ∷ rs) (x ∷ xs) [] h j = absurd j
  types-once n (r ∷ rs) (x ∷ xs) (y ∷ ys) h j =
      let a : x ≡ y = type-once n r x y h.0 j.0 in
      let b : xs ≡ ys = types-once n rs xs ys h.1 j.1 in
      cc

  pub types-or-fault : (n : ℕ) (rs : List Written) (xs : List TypedNode) (f : Fault) → AreTyped w n rs xs → IsTypesFault w n rs f → ⊥
  types-or-fault n [] xs f h j = j
  types-or-fault n (r ∷ rs) [] f h j = h
  types-or-fault n (r ∷ rs) (x ∷ xs) f h (inl j) = type-or-fault n r x f h.0 j
  types-or-fault n (r ∷ rs) (x ∷ xs) f h (inr j) = types-or-fault n rs xs f h.1 j.2

  pub types-fault-once : (n : ℕ) (rs : List Written) (f g : Fault) → IsTypesFault w n rs f → IsTypesFault w n rs g → f ≡ g
  types-fault-once n [] f g h j = absurd h
  types-fault-once n (r ∷ rs) f g (inl h) (inl j) = type-fault-once n r f g h j
  types-fault-once n (r ∷ rs) f g (inl h) (inr j) = absurd (type-or-fault n r j.0 f j.1 h)
  types-fault-once n (r ∷ rs) f g (inr h) (inl j) = absurd (type-or-fault n r h.0 g h.1 j)
  types-fault-once n (r ∷ rs) f g (inr h) (inr j) = types-fault-once n rs f g h.2 j.2

  -- ---- values

  pub value-once : (n : ℕ) (t : Node) (ts : List TypedNode) (v u : TypedNode) → IsTypedValue w n t ts v → IsTypedValue w n t ts u → v ≡ u
  value-once n t ts v u h j =
      k.tree w (over_value w n (hint_by ts)) (before_value (kid t 3)) v u (h.erases ∙ sym j.erases) h.well j.well

  value-or-inside : (n : ℕ) (t : Node) (ts : List TypedNode) (v : TypedNode) (q : RowId) (c : Context) → IsTypedValue w n t ts v →
      FailsIn w (over_value w n (hint_by ts)) (kid t 3) (before_value (kid t 3)) q c → ⊥
  value-or-inside n t ts v q c h j =
      let a = over_value w n (hint_by ts) in
      let f = before_value (kid t 3) in
      (k.decided w a f).tree_or_fault v q c h.well (subst (λ (x : Node). FailsIn w a x f q c) (sym h.erases) j)

  value-or-itself : (n : ℕ) (t : Node) (ts : List TypedNode) (v u : TypedNode) (q : RowId) → IsTypedValue w n t ts v →
      first_failing (context_of w n t ts v) ≡ None → IsTypedValue w n t ts u → first_failing (context_of w n t ts u) ≡ Some q → ⊥
  value-or-itself n t ts v u q h e j i =
      let same = ap (λ (z : TypedNode). first_failing (context_of w n t ts z)) (value-once n t ts v u h j) in
      cc

  pub value-or-fault : (n : ℕ) (t : Node) (ts : List TypedNode) (v : TypedNode) (f : Fault) → IsTypedValue w n t ts v →
      first_failing (context_of w n t ts v) ≡ None → IsValueFault w n t ts f → ⊥
  value-or-fault n t ts v f h e (IsValueFault.inside q c j i) = value-or-inside n t ts v q c h j
  value-or-fault n t ts v f h e (IsValueFault.itself u q j i l) = value-or-itself n t ts v u q h e j i

  itself-once : (n : ℕ) (t : Node) (ts : List TypedNode) (v u : TypedNode) (q r : RowId) → v ≡ u →
      first_failing (context_of w n t ts v) ≡ Some q → first_failing (context_of w n t ts u) ≡ Some r →
      fault_of q (context_of w n t ts v) ≡ fault_of r (context_of w n t ts u)
  itself-once n t ts v u q r e i j =
      let same = ap (λ (z : TypedNode). first_failing (context_of w n t ts z)) e in
      let row : q ≡ r = cc in
      ap (λ (z : RowId). fault_of z (context_of w n t ts v)) row ∙ ap (λ (z : TypedNode). fault_of r (context_of w n t ts z)) e

  pub value-fault-once : (n : ℕ) (t : Node) (ts : List TypedNode) (f g : Fault) → IsValueFault w n t ts f → IsValueFault w n t ts g → f ≡ g
  value-fault-once n t ts f g (IsValueFault.inside q c h e) (IsValueFault.inside r d j i) =
      e ∙ (k.fault w (over_value w n (hint_by ts)) (before_value (kid t 3)) (kid t 3) q r c d h j).fault ∙ sym i
  value-fault-once n t ts f g (IsValueFault.inside q c h e) (IsValueFault.itself u r j i l) = absurd (value-or-inside n t ts u q c j h)
  value-fault-once n t ts f g (IsValueFault.itself u r j i l) (IsValueFault.inside q c h e) = absurd (value-or-inside n t ts u q c j h)
  value-fault-once n t ts f g (IsValueFault.itself v q h e m) (IsValueFault.itself u r j i l) =
      m ∙ itself-once n t ts v u q r (value-once n t ts v u h j) e i ∙ sym l

-- ---- steps

module _ (k : Inference) (p : Listing) (s : Store) where
  types-there : (g : Stage) (n : ℕ) (t u : Node) (ts us : List TypedNode) → t ≡ u →
      AreTyped (setting_at p s g) n (written_types t) ts → AreTyped (setting_at p s g) n (written_types u) us → ts ≡ us
  types-there g n t u ts us e h j =
      types-once k (setting_at p s g) n (written_types u) ts us
      (subst (λ (z : Node). AreTyped (setting_at p s g) n (written_types z) ts) e h) j

  value-there : (g : Stage) (n : ℕ) (t u : Node) (v x : TypedNode) → t ≡ u → IsTypedValue (setting_at p s g) n t (typed_at g n) v →
      IsTypedValue (setting_at p s g) n u (typed_at g n) x → v ≡ x
  value-there g n t u v x e h j =
      value-once k (setting_at p s g) n u (typed_at g n) v x
      (subst (λ (z : Node). IsTypedValue (setting_at p s g) n z (typed_at g n) v) e h) j

  -- behind a step that is passed there is one stage
  pub passes-once : (g : Stage) (x : Step) (h m : Stage) → Passes p s g x h → Passes p s g x m → h ≡ m
  passes-once g x h m (Passes.types n t ts i a) (Passes.types l u us j b) =
      let e : t ≡ u = decl-once p n t u i j in
      let o : ts ≡ us = types-there g n t u ts us e a b in
      ap (λ (z : Node). with_types s g n z ts) e ∙ ap (λ (zs : List TypedNode). with_types s g n u zs) o
  passes-once g x h m (Passes.value n t v i a b) (Passes.value l u y j c d) =
      let w = setting_at p s g in
      let e : t ≡ u = decl-once p n t u i j in
      let o : v ≡ y = value-there g n t u v y e a c in
      ap (λ (z : Node). with_value w s g n z v) e ∙ ap (λ (z : TypedNode). with_value w s g n u z) o
  passes-once g x h m (Passes.done n t i a b) (Passes.done l u j c d) = refl

  late-once : (g : Stage) (n m : ℕ) (f e : Fault) → n ≡ m → IsLateFault p s g n f → IsLateFault p s g m e → f ≡ e
  late-once g n m f e q h j =
      let here = subst (λ (z : ℕ). IsLateFault p s g z f) q h in
      let same : here.tree ≡ j.tree = decl-once p m here.tree j.tree here.is_there j.is_there in
      types-fault-once k (setting_at p s g) m (written_types j.tree) f e
      (subst (λ (z : Node). IsTypesFault (setting_at p s g) m (written_types z) f) same here.fails) j.fails

  -- a step that is passed has no fault
  pub passes-or-fails : (g : Stage) (x : Step) (h : Stage) (f : Fault) → Passes p s g x h → Fails p s g f x → ⊥
  passes-or-fails g x h f (Passes.types n t ts i a) (Fails.types l u j b) =
      let e : u ≡ t = decl-once p n u t j i in
      types-or-fault k (setting_at p s g) n (written_types t) ts f a
      (subst (λ (z : Node). IsTypesFault (setting_at p s g) n (written_types z) f) e b)
  passes-or-fails g x h f (Passes.value n t v i a b) (Fails.value l u j c) =
      let e : u ≡ t = decl-once p n u t j i in
      value-or-fault k (setting_at p s g) n t (typed_at g n) v f a b
      (subst (λ (z : Node). IsValueFault (setting_at p s g) n z (typed_at g n) f) e c)
  passes-or-fails g x h f (Passes.done n t i a b) (Fails.done l m u j c d first) =
      types-or-fault k (setting_at p s (with_done g n)) m (written_types d.tree) d.types f (b m d.tree d.types d.judged d.is_there) d.fails

  -- and one that has a fault has one
  pub fails-once : (g : Stage) (x : Step) (f e : Fault) → Fails p s g f x → Fails p s g e x → f ≡ e
  fails-once g x f e (Fails.types n t i a) (Fails.types l u j b) =
      let o : t ≡ u = decl-once p n t u i j in
      types-fault-once k (setting_at p s g) n (written_types u) f e
      (subst (λ (z : Node). IsTypesFault (setting_at p s g) n (written_types z) f) o a) b
  fails-once g x f e (Fails.value n t i a) (Fails.value l u j b) =
      let o : t ≡ u = decl-once p n t u i j in
      value-fault-once k (setting_at p s g) n u (typed_at g n) f e
      (subst (λ (z : Node). IsValueFault (setting_at p s g) n z (typed_at g n) f) o a) b
  fails-once g x f e (Fails.done n m t i a b first) (Fails.done l o u j c d other) = by (cases_lt m o) (cases_lt o m)
    where
      by : (m < o) ⊎ (o ≤ m) → (o < m) ⊎ (m ≤ o) → f ≡ e
      by (inl q) r = absurd (other m f q b)
      by (inr q) (inl r) = absurd (first o e r d)
      by (inr q) (inr r) = late-once (with_done g n) m o f e (omega arith) b d
