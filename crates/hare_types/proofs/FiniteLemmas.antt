-- No type comes to hold itself by value, where a name is defined to be a type that does not hold that name.
use Rattle.std.proofs.Common.{◌≡◌, ℕ, List, [], ◌∷◌, ◌++◌, Option, Some, None, ap, sym, ◌∙◌, subst, ◌⊎◌, inl, inr}
use Rattle.std.specs.Prelude.{Contains}
use Rattle.hare_types.specs.Trees.{Tree}
use Rattle.hare_types.specs.ByValue.{held, Leads}
use Rattle.hare_types.proofs.DefinitionLemmas.{Leads-more}

-- a way to a name, and a way on from what it is defined to be
Leads-join : (m : ℕ → Option Tree) (t : Tree) (way : List ℕ) (q : ℕ) (v : Tree) (on : List ℕ) (d : ℕ) → Leads m t way q → m q ≡ Some v →
    Leads m v on d → Leads m t (way ++ q ∷ on) d
Leads-join m t [] q v on d h e k = (h, (v, e, k))
Leads-join m t (p ∷ way) q v on d h e k = (h.0, (h.1.0, h.1.1, Leads-join m h.1.0 way q v on d h.1.2 e k))

-- Under `new` the name d is defined to be u, and all else as under `old`.
module _ (old new : ℕ → Option Tree) (d : ℕ) (u : Tree) (fresh : old d ≡ None) (here : new d ≡ Some u)
    (there : (q : ℕ) → (d ≡ q) ⊎ (new q ≡ old q))
    (finite : ¬ ((way : List ℕ) × Leads old u way d)) where
  grows : (q : ℕ) (v : Tree) → old q ≡ Some v → new q ≡ Some v
  grows q v e = by (there q)
    where
      by : (d ≡ q) ⊎ (new q ≡ old q) → new q ≡ Some v
      by (inl h) = let gone : old q ≡ None = subst (λ n. old n ≡ None) h fresh in absurd cc
      by (inr h) = h ∙ e

  -- a way is an old one, or one that was an old way to d first
  first_part : (v : Tree) (way : List ℕ) (q : ℕ) → Leads new v way q →
      Leads old v way q ⊎ (((way : List ℕ) × Leads old v way d) × ((way : List ℕ) × Leads new u way q))
  first_part v [] q h = inl h
  first_part v (e ∷ way) q h = by (there e) (first_part h.1.0 way q h.1.2)
    where
      next : new e ≡ old e → Leads old h.1.0 way q ⊎ (((way : List ℕ) × Leads old h.1.0 way d) × ((way : List ℕ) × Leads new u way q))
          → Leads old v (e ∷ way) q ⊎ (((way : List ℕ) × Leads old v way d) × ((way : List ℕ) × Leads new u way q))
      next k (inl l) = inl (h.0, (h.1.0, sym k ∙ h.1.1, l))
      next k (inr l) = inr ((e ∷ l.0.0, (h.0, (h.1.0, sym k ∙ h.1.1, l.0.1))), l.1)

      by : (d ≡ e) ⊎ (new e ≡ old e) →
          Leads old h.1.0 way q ⊎ (((way : List ℕ) × Leads old h.1.0 way d) × ((way : List ℕ) × Leads new u way q))
          → Leads old v (e ∷ way) q ⊎ (((way : List ℕ) × Leads old v way d) × ((way : List ℕ) × Leads new u way q))
      by (inl k) part =
          let same : Some u ≡ Some h.1.0 = sym here ∙ ap new k ∙ h.1.1 in
          let tree : h.1.0 ≡ u = cc in
          inr (([], subst (λ n. Contains (held v) n) (sym k) h.0), (way, subst (λ t. Leads new t way q) tree h.1.2))
      by (inr k) part = next k part

  -- the new definition does not hold its name
  new_finite : (way : List ℕ) → Leads new u way d → ⊥
  new_finite way h = by (first_part u way d h)
    where
      by : Leads old u way d ⊎ (((way : List ℕ) × Leads old u way d) × ((way : List ℕ) × Leads new u way d)) → ⊥
      by (inl k) = finite (way, k)
      by (inr k) = finite k.0

  -- and no other does
  pub all_finite : ((q : ℕ) (v : Tree) → old q ≡ Some v → ¬ ((way : List ℕ) × Leads old v way q)) → (q : ℕ) (v : Tree) → new q ≡ Some v →
      ¬ ((way : List ℕ) × Leads new v way q)
  all_finite before q v e h = by (there q)
    where
      through : old q ≡ Some v → Leads old v h.0 q ⊎ (((way : List ℕ) × Leads old v way d) × ((way : List ℕ) × Leads new u way q)) → ⊥
      through k (inl l) = before q v k (h.0, l)
      through k (inr l) =
          new_finite (l.1.0 ++ q ∷ l.0.0) (Leads-join new u l.1.0 q v l.0.0 d l.1.1 e (Leads-more old new grows v l.0.0 d l.0.1))

      by : (d ≡ q) ⊎ (new q ≡ old q) → ⊥
      by (inl k) =
          let same : Some u ≡ Some v = sym here ∙ ap new k ∙ e in
          let tree : v ≡ u = cc in
          new_finite h.0 (subst (λ n. Leads new u h.0 n) (sym k) (subst (λ t. Leads new t h.0 q) tree h.1))
      by (inr k) = through (sym k ∙ e) (first_part v h.0 q h.1)
