-- What is kept of the nodes of some trees.
use Rattle.std.proofs.Common.{◌≡◌, ℕ, zero, suc, ◌+◌, true, cond, List, [], ◌∷◌, ◌++◌, length, Option, Some, None, refl, ap, sym, ◌∙◌, subst, arith}
use Rattle.std.specs.Prelude.{◌&&◌, is_some, is_none, option_map, slice_get, Contains, ◌⊎◌}
use Rattle.std.proofs.Common.{inl, inr}
use Rattle.std.specs.List.{cons_option}
use Rattle.hare_tree.specs.declared.kind.Kind.{Kind}
use Rattle.hare_types.specs.declared.coercion.Ty.{Ty}
use Rattle.hare_types.specs.declared.coercion.Ty.TheVariants as ty
use Rattle.hare_types.specs.declared.extent.Extent.{Extent}
use Rattle.hare_types.specs.Store.{Store}
use Rattle.hare_types.specs.ByIds.{extent_at}
use Rattle.hare_typed.specs.Typed.{TypedNode}
use Rattle.hare_typed.specs.Numbers.{kind_of}
use Rattle.hare_rules.specs.declared.row_id.RowId.{RowId}
use Rattle.hare_rules.specs.Context.{own_type}
use Rattle.hare_seen.specs.Sizes.{size_row}
use Rattle.hare_waits.specs.declared.waiting.Waiting.{Waiting}
use Rattle.hare_waits.specs.Nodes.{IsUnmeasured, kept_of, unmeasured_as, unmeasured_type, unmeasured}
use Rattle.hare_waits.proofs.ElementLemmas.{Contains-head, Contains-rest, Contains-none, Contains-cons}

-- ---- one node

-- the test finds just the nodes that are not measured
unmeasured_as-sound : (s : Store) (k : Kind) (a : Ty) (u : ℕ) → unmeasured_as s k a ≡ Some u
    → (a ≡ ty.Of u) × (is_some (size_row s k u) ≡ true) × (extent_at s u ≡ None)
unmeasured_as-sound s k (ty.Of v) u e = by (size_row s k v) refl (extent_at s v) refl e
  where
    by : (o : Option RowId) → size_row s k v ≡ o → (x : Option Extent) → extent_at s v ≡ x →
        cond (is_some o && is_none x) (Some v) None ≡ Some u
        → (ty.Of v ≡ ty.Of u) × (is_some (size_row s k u) ≡ true) × (extent_at s u ≡ None)
    by None g x h e = absurd cc
    by (Some r) g (Some x) h e = absurd cc
    by (Some r) g None h e =
        let same : v ≡ u = cc in
        (ap ty.Of same, ap (λ t. is_some (size_row s k t)) (sym same) ∙ ap is_some g, ap (extent_at s) (sym same) ∙ h)
unmeasured_as-sound s k (ty.Iconst n) u e = absurd cc
unmeasured_as-sound s k ty.Null u e = absurd cc
unmeasured_as-sound s k ty.Empty u e = absurd cc

pub unmeasured_type-sound : (s : Store) (y : TypedNode) (u : ℕ) → unmeasured_type s y ≡ Some u → IsUnmeasured s y u
unmeasured_type-sound s y u e = by (size_row s (kind_of y) u) refl h.1
  where
    h : (own_type y ≡ ty.Of u) × (is_some (size_row s (kind_of y) u) ≡ true) × (extent_at s u ≡ None)
    h = unmeasured_as-sound s (kind_of y) (own_type y) u e

    by : (o : Option RowId) → size_row s (kind_of y) u ≡ o → is_some o ≡ true → IsUnmeasured s y u
    by None g t = absurd cc
    by (Some r) g t = record { row = r; type = h.0; asks = g; unknown = h.2 }

pub unmeasured_type-whole : (s : Store) (y : TypedNode) (u : ℕ) → IsUnmeasured s y u → unmeasured_type s y ≡ Some u
unmeasured_type-whole s y u h =
    ap (unmeasured_as s (kind_of y)) h.type ∙ ap (λ o. cond (is_some o && is_none (extent_at s u)) (Some u) None) h.asks ∙ ap
    (λ x. cond (is_none x) (Some u) None) h.unknown

-- ---- some nodes

cons_option-append : {X : Type 0} (o : Option X) (xs ys : List X) → cons_option o (xs ++ ys) ≡ cons_option o xs ++ ys
cons_option-append None xs ys = refl
cons_option-append (Some x) xs ys = refl

module _ (s : Store) (m : ℕ) where
  pub unmeasured-append : (o p : ℕ) (xs ys : List TypedNode) → o + length xs ≡ p →
      unmeasured s m o (xs ++ ys) ≡ unmeasured s m o xs ++ unmeasured s m p ys
  unmeasured-append o p [] ys e = let same : o ≡ p = omega arith in ap (λ k. unmeasured s m k ys) same
  unmeasured-append o p (x ∷ xs) ys e =
      ap (cons_option (option_map (kept_of m o x) (unmeasured_type s x))) (unmeasured-append (o + 1) p xs ys (omega arith))
      ∙ cons_option-append (option_map (kept_of m o x) (unmeasured_type s x)) (unmeasured s m (o + 1) xs) (unmeasured s m p ys)

  -- w is what is kept of one of these nodes
  abbrev pub KeptAmong : (o : ℕ) → List TypedNode → Waiting → Type 0
  KeptAmong o ys w = (i : ℕ) × (y : TypedNode) × (u : ℕ) × (slice_get ys i ≡ Some y) × IsUnmeasured s y u × (w ≡ kept_of m (o + i) y u)

  KeptAmong-behind : (o : ℕ) (y : TypedNode) (ys : List TypedNode) (w : Waiting) → KeptAmong (o + 1) ys w → KeptAmong o (y ∷ ys) w
  KeptAmong-behind o y ys w f =
      let same : (o + 1) + f.0 ≡ o + suc f.0 = omega arith in
      (suc f.0, f.1, f.2, f.3, f.4, f.5 ∙ ap (λ k. kept_of m k f.1 f.2) same)

  KeptAmong-here : (o u : ℕ) (y : TypedNode) (ys : List TypedNode) → unmeasured_type s y ≡ Some u → KeptAmong o (y ∷ ys) (kept_of m o y u)
  KeptAmong-here o u y ys e =
      let same : o ≡ o + 0 = omega arith in (0, y, u, refl, unmeasured_type-sound s y u e, ap (λ k. kept_of m k y u) same)

  -- each that is kept is a node that is not measured
  pub unmeasured-sound : (o : ℕ) (ys : List TypedNode) (w : Waiting) → Contains (unmeasured s m o ys) w → KeptAmong o ys w
  unmeasured-sound o [] w c = absurd (Contains-none w c)
  unmeasured-sound o (y ∷ ys) w c = by (unmeasured-sound (o + 1) ys w) (unmeasured_type s y) refl c
    where
      on : (u : ℕ) → unmeasured_type s y ≡ Some u → (Contains (unmeasured s m (o + 1) ys) w → KeptAmong (o + 1) ys w)
          → (kept_of m o y u ≡ w) ⊎ Contains (unmeasured s m (o + 1) ys) w → KeptAmong o (y ∷ ys) w
      on u e ih (inl p) = subst (KeptAmong o (y ∷ ys)) p (KeptAmong-here o u y ys e)
      on u e ih (inr r) = KeptAmong-behind o y ys w (ih r)

      by : (Contains (unmeasured s m (o + 1) ys) w → KeptAmong (o + 1) ys w) → (a : Option ℕ) → unmeasured_type s y ≡ a
          → Contains (cons_option (option_map (kept_of m o y) a) (unmeasured s m (o + 1) ys)) w → KeptAmong o (y ∷ ys) w
      by ih None e d = KeptAmong-behind o y ys w (ih d)
      by ih (Some u) e d = on u e ih (Contains-cons (kept_of m o y u) w (unmeasured s m (o + 1) ys) d)

  -- each node that is not measured is kept
  pub unmeasured-whole : (o p : ℕ) (ys : List TypedNode) (i : ℕ) (y : TypedNode) (u : ℕ) → o + i ≡ p → slice_get ys i ≡ Some y →
      IsUnmeasured s y u
      → Contains (unmeasured s m o ys) (kept_of m p y u)
  unmeasured-whole o p [] i y u l e h = absurd cc
  unmeasured-whole o p (x ∷ ys) zero y u l e h =
      let same : x ≡ y = cc in
      let here : o ≡ p = omega arith in
      subst (λ z. Contains (cons_option (option_map (kept_of m o z) (unmeasured_type s z)) (unmeasured s m (o + 1) ys)) (kept_of m p y u))
      (sym same)
      (subst (λ a. Contains (cons_option (option_map (kept_of m o y) a) (unmeasured s m (o + 1) ys)) (kept_of m p y u))
      (sym (unmeasured_type-whole s y u h))
      (subst (λ k. Contains (kept_of m o y u ∷ unmeasured s m (o + 1) ys) (kept_of m k y u)) here
      (Contains-head (kept_of m o y u) (unmeasured s m (o + 1) ys))))
  unmeasured-whole o p (x ∷ ys) (suc i) y u l e h =
      by (option_map (kept_of m o x) (unmeasured_type s x)) (unmeasured-whole (o + 1) p ys i y u (omega arith) e h)
    where
      by : (a : Option Waiting) → Contains (unmeasured s m (o + 1) ys) (kept_of m p y u) →
          Contains (cons_option a (unmeasured s m (o + 1) ys)) (kept_of m p y u)
      by None c = c
      by (Some w) c = Contains-rest w (kept_of m p y u) (unmeasured s m (o + 1) ys) c
