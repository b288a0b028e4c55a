-- Types that are entered, one by one.
use Rattle.std.proofs.Common.{◌≡◌, ◌⊎◌, inl, inr, ℕ, ◌+◌, ◌<◌, Bool, true, false, cond, nat_eq, List, [], ◌∷◌, ◌++◌, Option, Some, None, refl, sym, ap, ◌∙◌, subst, arith}
use Rattle.std.specs.Prelude.{slice_get, option_map, option_and_then, is_none, is_some, not}
use Rattle.std.specs.Map.{lookup}
use Rattle.std.specs.Cmp.{unsigned_Decides}
use Rattle.hare_graph.specs.Graphs.{label_of}
use Rattle.hare_graph.proofs.Elements.{Other, other}
use Rattle.hare_types.specs.declared.declared.Declared.{Declared}
use Rattle.hare_types.specs.Store.{Store, sized_of, definition_of, with_declared}
use Rattle.hare_declare.specs.declared.outline.Outline.{Outline}
use Rattle.hare_declare.specs.Entered.{IsTypeAt, AreEntered, Enters}

-- ---- one more of the declared types

lookup-pushed : (q d : ℕ) (x y : Declared) (es : List (ℕ × Declared)) → lookup (nat_eq q) (es ++ (d, x) ∷ []) ≡ Some y
    → (lookup (nat_eq q) es ≡ Some y) ⊎ ((q ≡ d) × (x ≡ y))
lookup-pushed q d x y [] = by (nat_eq q d) refl
  where
    by : (b : Bool) → nat_eq q d ≡ b → cond b (Some x) None ≡ Some y → (None ≡ Some y) ⊎ ((q ≡ d) × (x ≡ y))
    by true e f = inr ((unsigned_Decides q d).0 e, cc)
    by false e f = absurd cc
lookup-pushed q d x y (e ∷ es) = by (lookup-pushed q d x y es) (nat_eq q e.0)
  where
    by : (lookup (nat_eq q) (es ++ (d, x) ∷ []) ≡ Some y → (lookup (nat_eq q) es ≡ Some y) ⊎ ((q ≡ d) × (x ≡ y)))
        → (b : Bool) → cond b (Some e.1) (lookup (nat_eq q) (es ++ (d, x) ∷ [])) ≡ Some y
        → (cond b (Some e.1) (lookup (nat_eq q) es) ≡ Some y) ⊎ ((q ≡ d) × (x ≡ y))
    by r true f = inl f
    by r false f = r f

lookup-kept : (q d : ℕ) (x y : Declared) (es : List (ℕ × Declared)) → lookup (nat_eq q) es ≡ Some y
    → lookup (nat_eq q) (es ++ (d, x) ∷ []) ≡ Some y
lookup-kept q d x y [] = λ e. absurd cc
lookup-kept q d x y (e ∷ es) = by (lookup-kept q d x y es) (nat_eq q e.0)
  where
    by : (lookup (nat_eq q) es ≡ Some y → lookup (nat_eq q) (es ++ (d, x) ∷ []) ≡ Some y) → (b : Bool)
        → cond b (Some e.1) (lookup (nat_eq q) es) ≡ Some y → cond b (Some e.1) (lookup (nat_eq q) (es ++ (d, x) ∷ [])) ≡ Some y
    by r true f = f
    by r false f = r f

lookup-new : (q : ℕ) (x : Declared) (es : List (ℕ × Declared)) → lookup (nat_eq q) es ≡ None
    → lookup (nat_eq q) (es ++ (q, x) ∷ []) ≡ Some x
lookup-new q x [] = λ e. ap (λ b. cond b (Some x) None) ((unsigned_Decides q q).1 refl)
lookup-new q x (e ∷ es) = by (lookup-new q x es) (nat_eq q e.0)
  where
    by : (lookup (nat_eq q) es ≡ None → lookup (nat_eq q) (es ++ (q, x) ∷ []) ≡ Some x) → (b : Bool)
        → cond b (Some e.1) (lookup (nat_eq q) es) ≡ None → cond b (Some e.1) (lookup (nat_eq q) (es ++ (q, x) ∷ [])) ≡ Some x
    by r true f = absurd cc
    by r false f = r f

-- the size of the new type
sized-new : (s : Store) (d : ℕ) (b : Bool) → sized_of s d ≡ None → sized_of (with_declared s d b) d ≡ Some b
sized-new s d b = by (lookup (nat_eq d) s.declared) refl
  where
    by : (o : Option Declared) → lookup (nat_eq d) s.declared ≡ o → option_map (λ z. z.sized) o ≡ None
        → sized_of (with_declared s d b) d ≡ Some b
    by None e f = ap (option_map (λ z. z.sized)) (lookup-new d _ s.declared e)
    by (Some y) e f = absurd cc

-- a size that was known is known now
pub sized-kept : (s : Store) (d n : ℕ) (b c : Bool) → sized_of s n ≡ Some c → sized_of (with_declared s d b) n ≡ Some c
sized-kept s d n b c = by (lookup (nat_eq n) s.declared) refl
  where
    by : (o : Option Declared) → lookup (nat_eq n) s.declared ≡ o → option_map (λ z. z.sized) o ≡ Some c
        → sized_of (with_declared s d b) n ≡ Some c
    by None e f = absurd cc
    by (Some y) e f = ap (option_map (λ z. z.sized)) (lookup-kept n d _ y s.declared e) ∙ f

-- a size that is known now was known before, or is that of the new type
pub sized-pushed : (s : Store) (d n : ℕ) (b c : Bool) → sized_of (with_declared s d b) n ≡ Some c → (n ≡ d) ⊎ (sized_of s n ≡ Some c)
sized-pushed s d n b c = of (lookup (nat_eq n) (with_declared s d b).declared) refl
  where
    by : (y : Declared) → y.sized ≡ c → (lookup (nat_eq n) s.declared ≡ Some y) ⊎ ((n ≡ d) × (record { sized = b; definition = None } ≡ y))
        → (n ≡ d) ⊎ (sized_of s n ≡ Some c)
    by y e (inl h) = inr (ap (option_map (λ z. z.sized)) h ∙ ap Some e)
    by y e (inr h) = inl h.0

    same-size : (y : Declared) → option_map (λ z. z.sized) (Some y) ≡ Some c → y.sized ≡ c
    same-size y f = cc

    of : (o : Option Declared) → lookup (nat_eq n) (with_declared s d b).declared ≡ o → option_map (λ z. z.sized) o ≡ Some c
        → (n ≡ d) ⊎ (sized_of s n ≡ Some c)
    of None e f = absurd cc
    of (Some y) e f = by y (same-size y f) (lookup-pushed n d _ y s.declared e)

-- no definition has come
pub definition-pushed : (s : Store) (d n t : ℕ) (b : Bool) → definition_of (with_declared s d b) n ≡ Some t → definition_of s n ≡ Some t
definition-pushed s d n t b = of (lookup (nat_eq n) (with_declared s d b).declared) refl
  where
    by : (y : Declared) → y.definition ≡ Some t → (lookup (nat_eq n) s.declared ≡ Some y)
        ⊎ ((n ≡ d) × (record { sized = b; definition = None } ≡ y))
        → definition_of s n ≡ Some t
    by y e (inl h) = ap (option_and_then (λ z. z.definition)) h ∙ e
    by y e (inr h) = let gone : y.definition ≡ None = ap (λ (z : Declared). z.definition) (sym h.1) in absurd cc

    of : (o : Option Declared) → lookup (nat_eq n) (with_declared s d b).declared ≡ o → option_and_then (λ z. z.definition) o ≡ Some t
        → definition_of s n ≡ Some t
    of None e f = absurd cc
    of (Some y) e f = by y f (lookup-pushed n d _ y s.declared e)

-- ---- declaration by declaration

pub none-entered : (s : Store) (os : List Outline) (ls : List (Option ℕ)) → s.declared ≡ [] → AreEntered s os ls 0
none-entered s os ls e = record {
  sized = λ n l z. absurd (omega arith);
  only = λ n b z. let none : sized_of s n ≡ None = ap (λ es. option_map (λ y. y.sized) (lookup (nat_eq n) es)) e in absurd cc;
  undefined = λ n t d.
      let none : definition_of s n ≡ None = ap (λ es. option_and_then (λ y. y.definition) (lookup (nat_eq n) es)) e in absurd cc;
}

-- the declaration at hand is not entered yet
pub not-entered : (s : Store) (os : List Outline) (ls : List (Option ℕ)) (n : ℕ) → AreEntered s os ls n → sized_of s n ≡ None
not-entered s os ls n h = by (sized_of s n) refl
  where
    by : (o : Option Bool) → sized_of s n ≡ o → sized_of s n ≡ None
    by None e = e
    by (Some b) e = let l = (h.only n b e).0 in absurd (omega (arith, l))

module _ (s : Store) (os : List Outline) (ls : List (Option ℕ)) (n : ℕ) (o : Outline) (there : slice_get os n ≡ Some o)
    (h : AreEntered s os ls n) where
  before-or-here : (k : ℕ) → k < n + 1 → (k < n) ⊎ (k ≡ n)
  before-or-here k l = by (other k n)
    where
      by : Other k n → (k < n) ⊎ (k ≡ n)
      by (inl e) = inr e
      by (inr e) = inl (omega (arith, e))

  -- it is no type
  passed : o.is_type ≡ false → AreEntered s os ls (n + 1)
  passed other_sort = record {
    sized = λ k l z. by k z (before-or-here k l);
    only = λ k b e. let f = h.only k b e in (omega (arith, f.0), f.1);
    undefined = h.undefined;
  }
    where
      by : (k : ℕ) → IsTypeAt os k → (k < n) ⊎ (k ≡ n) → sized_of s k ≡ Some (is_none (label_of ls k))
      by k z (inl l) = h.sized k l z
      by k z (inr e) =
          let same : slice_get os k ≡ slice_get os n = ap (slice_get os) e in
          let at : z.0 ≡ o = cc in
          let is : o.is_type ≡ true = ap (λ (x : Outline). x.is_type) (sym at) ∙ z.2 in
          absurd cc

  -- it is entered
  entered : (new : Store) (b : Bool) → o.is_type ≡ true → b ≡ is_none (label_of ls n) → new ≡ with_declared s n b
      → AreEntered new os ls (n + 1)
  entered new b is_type size is = record {
    sized = λ k l z. before k z (before-or-here k l);
    only = λ k c e. after k c (sized-pushed s n k b c (ap (λ t. sized_of t k) (sym is) ∙ e));
    undefined = λ k t e. h.undefined k t (definition-pushed s n k t b (ap (λ x. definition_of x k) (sym is) ∙ e));
  }
    where
      before : (k : ℕ) → IsTypeAt os k → (k < n) ⊎ (k ≡ n) → sized_of new k ≡ Some (is_none (label_of ls k))
      before k z (inl l) = ap (λ x. sized_of x k) is ∙ sized-kept s n k b _ (h.sized k l z)
      before k z (inr e) =
          ap (λ x. sized_of x k) is ∙ ap (sized_of (with_declared s n b)) e ∙ sized-new s n b (not-entered s os ls n h)
          ∙ ap Some (size ∙ ap (λ x. is_none (label_of ls x)) (sym e))

      after : (k : ℕ) (c : Bool) → (k ≡ n) ⊎ (sized_of s k ≡ Some c) → (k < n + 1) × IsTypeAt os k
      after k c (inl e) = (omega arith, (o, ap (slice_get os) e ∙ there, is_type))
      after k c (inr e) = let f = h.only k c e in (omega (arith, f.0), f.1)

  pub one-more : (new : Store) (t b : Bool) → t ≡ o.is_type → b ≡ is_none (label_of ls n) → Enters n t b s new
      → AreEntered new os ls (n + 1)
  one-more new true b e size is = entered new b (sym e) size is
  one-more new false b e size is = subst (λ x. AreEntered x os ls (n + 1)) (sym is) (passed (sym e))

pub same-listed : (d : ℕ) (t b : Bool) (s new : Store) → Enters d t b s new → new.listed ≡ s.listed
same-listed d true b s new e = ap (λ x. x.listed) e
same-listed d false b s new e = ap (λ x. x.listed) e

-- whether a label is there
pub none-told : (b : Bool) (o label : Option ℕ) → is_some o ≡ not b → o ≡ label → b ≡ is_none label
none-told true None label e f = ap is_none f
none-told false (Some n) label e f = ap is_none f
none-told true (Some n) label e f = absurd cc
none-told false None label e f = absurd cc
