-- The first of some nodes that is too large, as one more is looked at.
use Rattle.std.proofs.Common.{◌≡◌, ◌⊎◌, inl, inr, Bool, true, false, not, List, [], ◌∷◌, ◌++◌, Option, Some, None, refl, ◌∙◌, subst, arith}
use Rattle.std.specs.Prelude.{Contains, IfSome, IsSomeAnd}
use Rattle.std.proofs.lemmas.List.Elements.{Contains-append_left, Contains-push}
use Rattle.hare_types.specs.Store.{Store}
use Rattle.hare_seen.specs.Sizes.{is_small_at}
use Rattle.hare_waits.specs.declared.waiting.Waiting.{Waiting}
use Rattle.hare_waits.specs.Nodes.{ComesBefore, IsFirstOf}
use Rattle.hare_waits.proofs.ElementLemmas.{Contains-none, Contains-last}

-- ---- the order of nodes

ComesBefore-trans : (u v w : Waiting) → ComesBefore u v → ComesBefore v w → ComesBefore u w
ComesBefore-trans u v w (inl a) (inl b) = inl (omega arith)
ComesBefore-trans u v w (inl a) (inr b) = inl (omega (arith, a, b.0))
ComesBefore-trans u v w (inr a) (inl b) = inl (omega (arith, a.0, b))
ComesBefore-trans u v w (inr a) (inr b) = inr (a.0 ∙ b.0, omega (arith, a.1, b.1))

ComesBefore-not_itself : (w : Waiting) → ComesBefore w w → ⊥
ComesBefore-not_itself w (inl a) = omega arith
ComesBefore-not_itself w (inr a) = omega (arith, a.1)

-- ---- tests

pub not_true : (b : Bool) → not b ≡ true → b ≡ false
not_true true e = absurd cc
not_true false e = refl

pub not_false : (b : Bool) → not b ≡ false → b ≡ true
not_false true e = refl
not_false false e = absurd cc

-- ---- one node more

pub first-none : (s : Store) → IsFirstOf s [] None
first-none s w c = absurd (Contains-none w c)

module _ (s : Store) (ws : List Waiting) (w : Waiting) where
  pub first-small : (o : Option Waiting) → IsFirstOf s ws o → is_small_at s w.ty ≡ true → IsFirstOf s (ws ++ w ∷ []) o
  first-small None h e = λ v c. by v (Contains-last ws w v c)
    where
      by : (v : Waiting) → Contains ws v ⊎ (w ≡ v) → is_small_at s v.ty ≡ true
      by v (inl a) = h v a
      by v (inr p) = subst (λ x. is_small_at s x.ty ≡ true) p e
  first-small (Some f) h e = (Contains-append_left ws (w ∷ []) f h.0, h.1, λ v c g. by v (Contains-last ws w v c) g)
    where
      by : (v : Waiting) → Contains ws v ⊎ (w ≡ v) → is_small_at s v.ty ≡ false → ¬ ComesBefore v f
      by v (inl a) g = h.2 v a g
      by v (inr p) g = let both = subst (λ x. is_small_at s x.ty ≡ true) p e in absurd cc

  pub first-behind : (o : Option Waiting) → IsFirstOf s ws o → IsSomeAnd o (λ f. ¬ ComesBefore w f) → IsFirstOf s (ws ++ w ∷ []) o
  first-behind None h b = absurd b
  first-behind (Some f) h b = (Contains-append_left ws (w ∷ []) f h.0, h.1, λ v c g. by v (Contains-last ws w v c) g)
    where
      by : (v : Waiting) → Contains ws v ⊎ (w ≡ v) → is_small_at s v.ty ≡ false → ¬ ComesBefore v f
      by v (inl a) g = h.2 v a g
      by v (inr p) g = subst (λ x. ¬ ComesBefore x f) p b

  pub first-before : (o : Option Waiting) → IsFirstOf s ws o → is_small_at s w.ty ≡ false → IfSome o (ComesBefore w) →
      IsFirstOf s (ws ++ w ∷ []) (Some w)
  first-before o h e b = (Contains-push ws w, e, λ v c g. by v (Contains-last ws w v c) g)
    where
      earlier : (v : Waiting) → (p : Option Waiting) → IsFirstOf s ws p → IfSome p (ComesBefore w) → Contains ws v →
          is_small_at s v.ty ≡ false → ¬ ComesBefore v w
      earlier v None k j a g z = let small = k v a in absurd cc
      earlier v (Some f) k j a g z = k.2 v a g (ComesBefore-trans v w f z j)

      by : (v : Waiting) → Contains ws v ⊎ (w ≡ v) → is_small_at s v.ty ≡ false → ¬ ComesBefore v w
      by v (inl a) g = earlier v o h b a g
      by v (inr p) g = subst (λ x. ¬ ComesBefore x w) p (ComesBefore-not_itself w)
