-- What is found of a type by following names: where it is found, each name that the type holds by value is defined, and it is known whether
-- the type has a size.
use Rattle.std.proofs.Common.{◌≡◌, ℕ, zero, suc, Bool, List, [], ◌∷◌, Option, Some, None, refl, sym, ◌∙◌, subst, arith}
use Rattle.std.specs.Prelude.{Contains, option_map, option_and_then, IfSome}
use Rattle.hare_types.specs.Trees.{Tree}
use Rattle.hare_types.specs.ByValue.{held, Leads, has_size}
use Rattle.hare_types.specs.Store.{Store, tree_at, sized_of, meaning_of}
use Rattle.hare_types.specs.Sound.{IsStore}
use Rattle.hare_types.specs.Layout.{following}

pub mapped : {A B : Type 0} (f : A → B) (o : Option A) (b : B) → option_map f o ≡ Some b → (a : A) × (o ≡ Some a)
mapped f None b e = absurd cc
mapped f (Some a) b e = (a, refl)

pub chained : {A B : Type 0} (f : A → Option B) (o : Option A) (b : B) → option_and_then f o ≡ Some b →
    (a : A) × (o ≡ Some a) × (f a ≡ Some b)
chained f None b e = absurd cc
chained f (Some a) b e = (a, refl, e)

pub one_held : (o d : ℕ) → Contains (o ∷ []) d → o ≡ d
one_held o d (zero, l, e) = e
one_held o d (suc k, l, e) = absurd (omega (arith, l))

pub none_held : (d : ℕ) → Contains [] d → ⊥
none_held d (k, l, e) = omega (arith, l)

-- ---- what is found of a type by following names

module _ {A : Type 0} (f : (ℕ → Option A) → Tree → Option A) (P : A → Type 0) where
  -- where it is found of a type, it is found of each name that the type holds
  abbrev pub Spreads : Type 0
  Spreads =
      (named : ℕ → Option A) (t : Tree) (x : A)
      → f named t ≡ Some x
      → P x
      → (d : ℕ)
      → Contains (held t) d
      → (y : A) × (named d ≡ Some y) × P y

  -- then no way leads to a name that is not defined
  pub no_way : Spreads → (m : ℕ → Option Tree) (d : ℕ) → m d ≡ None → (way : List ℕ) (n : ℕ) (u : Tree) (x : A) →
      following f m n u ≡ Some x → P x → Leads m u way d → ⊥
  no_way spreads m d unknown [] zero u x e p h = let k = spreads (λ d. None) u x e p d h in absurd cc
  no_way spreads m d unknown [] (suc n) u x e p h =
      let k = spreads (λ d. option_and_then (following f m n) (m d)) u x e p d h in
      let l = chained (following f m n) (m d) k.0 k.1 in
      let both = sym unknown ∙ l.1 in
      absurd cc
  no_way spreads m d unknown (q ∷ way) zero u x e p h = let k = spreads (λ d. None) u x e p q h.0 in absurd cc
  no_way spreads m d unknown (q ∷ way) (suc n) u x e p h =
      let k = spreads (λ d. option_and_then (following f m n) (m d)) u x e p q h.0 in
      let l = chained (following f m n) (m q) k.0 k.1 in
      let both = sym l.1 ∙ h.1.1 in
      let same : l.0 ≡ h.1.0 = cc in
      no_way spreads m d unknown way n h.1.0 k.0 (subst (λ v. following f m n v ≡ Some k.0) same l.2) k.2 h.1.2

  module _ (s : Store) (b : Bool) where
    -- where it is found of a type whose names are so, the type has a size, or none
    abbrev pub Sizes : Type 0
    Sizes =
        (named : ℕ → Option A)
        → ((d : ℕ) (y : A) → named d ≡ Some y → P y → sized_of s d ≡ Some b)
        → (t : Tree) (x : A)
        → f named t ≡ Some x
        → P x
        → has_size s t ≡ Some b

    pub sized_names : Sizes → IsStore s → (n : ℕ) (u : Tree) (x : A) → following f (meaning_of s) n u ≡ Some x → P x → has_size s u ≡ Some b
    sized_names sizes v zero u x e p = sizes (λ d. None) (λ d y g q. absurd cc) u x e p
    sized_names sizes v (suc n) u x e p =
        sizes (λ d. option_and_then (following f (meaning_of s) n) (meaning_of s d))
        (λ d y g q. name d y g q (sized_names sizes v n)) u x e p
      where
        name : (d : ℕ) (y : A) → option_and_then (following f (meaning_of s) n) (meaning_of s d) ≡ Some y → P y
            → ((u : Tree) (x : A) → following f (meaning_of s) n u ≡ Some x → P x → has_size s u ≡ Some b) → sized_of s d ≡ Some b
        name d y g q ih =
            let k = chained (following f (meaning_of s) n) (meaning_of s d) y g in
            let size = v.defined_sized d k.0 k.1 in
            size.1 ∙ sym size.2 ∙ ih k.0 y k.2 q

-- ---- by ids

pub here : (s : Store) (t : ℕ) (u : Tree) (P : Tree → Type 0) → tree_at s t ≡ Some u → P u → IfSome (tree_at s t) P
here s t u P e p = subst (λ o. IfSome o P) (sym e) p
