-- Of objects that each are so, where those with one number have the same cells, the first that is found has the cells of all.
use Rattle.std.proofs.Common.{◌≡◌, ◌∙◌, sym, ap, subst, refl, zero, suc, arith, Bool, true, false, ◌⊎◌, inl, inr, List, [], ◌∷◌, ◌++◌, Some, cond}
use Rattle.std.specs.Prelude.{nat_eq, option_map, Contains}
use Rattle.std.specs.Map.{lookup}
use Rattle.std.proofs.lemmas.Bool.{eqb-true, eq-eqb}
use Rattle.hare_typed.specs.declared.constant.ConstObject.{ConstObject}
use Rattle.hare_typed.specs.ConstantValues.{constant_object, listed_objects}
use Rattle.hare_typed.specs.Texts.{cells_found, AreCoherent}

cons-cases : {A : Type 0} (x : A) (xs : List A) (y : A) → Contains (x ∷ xs) y → (x ≡ y) ⊎ Contains xs y
cons-cases x xs y (zero, l, e) = inl e
cons-cases x xs y (suc k, l, e) = inr (k, omega (arith, l), e)

module _ (P : ConstObject → Type 0) where
  abbrev pub AllAre : List ConstObject → Type 0
  AllAre [] = Unit {0}
  AllAre (o ∷ os) = P o × AllAre os

  pub all-append : (xs ys : List ConstObject) → AllAre xs → AllAre ys → AllAre (xs ++ ys)
  all-append [] ys p q = q
  all-append (x ∷ xs) ys p q = (p.0, all-append xs ys p.1 q)

  pub all-contained : (os : List ConstObject) → ((o : ConstObject) → Contains os o → P o) → AllAre os
  all-contained [] h = tt
  all-contained (o ∷ os) h =
      (h o (0, omega arith, refl), all-contained os (λ p c. h p (suc c.0, (let l = c.1 in omega (arith, l)), c.2)))

  contained-all : (os : List ConstObject) → AllAre os → (o : ConstObject) → Contains os o → P o
  contained-all [] h o c = (let l = c.1 in absurd (omega (arith, l)))
  contained-all (x ∷ os) h o c = by (contained-all os h.1 o) (cons-cases x os o c)
    where
      by : (Contains os o → P o) → (x ≡ o) ⊎ Contains os o → P o
      by ih (inl e) = subst P e h.0
      by ih (inr d) = ih d

  module _ (one : (o p : ConstObject) → P o → P p → o.object ≡ p.object → o.cells ≡ p.cells) where
    first-found : (os : List ConstObject) → AllAre os → (o : ConstObject) → P o → Contains os o → cells_found os o.object ≡ Some o.cells
    first-found [] h o q c = (let l = c.1 in absurd (omega (arith, l)))
    first-found (x ∷ os) h o q c = by (first-found os h.1 o q) (nat_eq o.object x.object) refl (cons-cases x os o c)
      where
        by : (Contains os o → cells_found os o.object ≡ Some o.cells) → (b : Bool) → nat_eq o.object x.object ≡ b → (x ≡ o) ⊎ Contains os o →
            option_map (λ p. p.cells) (cond b (Some (constant_object x.cells)) (lookup (nat_eq o.object) (listed_objects os))) ≡ Some o.cells
        by ih true e d = ap Some (one x o h.0 q (sym (eqb-true o.object x.object e)))
        by ih false e (inl f) =
            let same : o.object ≡ x.object = ap (λ (p : ConstObject). p.object) (sym f) in
            let both : true ≡ false = sym (eq-eqb o.object x.object same) ∙ e in
            absurd cc
        by ih false e (inr d) = ih d

    pub coherent : (os : List ConstObject) → AllAre os → AreCoherent os
    coherent os h o c = first-found os h o (contained-all os h o c) c
