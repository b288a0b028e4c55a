-- Types that a name may be defined to be while the names in them are not defined.
use Rattle.std.proofs.Common.{◌≡◌, ◌≢◌, ℕ, zero, suc, Bool, true, false, cond, List, [], ◌∷◌, ◌++◌, Option, Some, None, refl, ap}
use Rattle.std.proofs.Common.{sym, ◌∙◌, subst, arith, nat_eq, ◌⊎◌, inl, inr}
use Rattle.std.specs.Prelude.{Contains, IfSome, option_map, option_and_then}
use Rattle.std.specs.Map.{lookup}
use Rattle.std.specs.Cmp.{unsigned_Decides}
use Rattle.hare_types.specs.declared.declared.Declared.{Declared}
use Rattle.hare_types.specs.declared.row.Scalar.TheVariants as keyword
use Rattle.hare_types.specs.Trees.{Tree, Scalar, Array, Named}
use Rattle.hare_types.specs.ByValue.{Leads, HoldsByValue, held}
use Rattle.hare_types.specs.Store.{Store, tree_at, sized_of, definition_of, meaning_of, with_declared}

-- a name that is not declared is not defined
pub undefined : (s : Store) (d : ℕ) → sized_of s d ≡ None → definition_of s d ≡ None
undefined s d = by (lookup (nat_eq d) s.declared)
  where
    by : (o : Option Declared) → option_map (λ e. e.sized) o ≡ None → option_and_then (λ e. e.definition) o ≡ None
    by None e = refl
    by (Some x) e = absurd cc

-- what is put last is found where nothing before it is
lookup-push : (es : List (ℕ × Declared)) (d : ℕ) (x : Declared) (q : ℕ) →
    (lookup (nat_eq q) (es ++ (d, x) ∷ []) ≡ lookup (nat_eq q) es) ⊎ ((q ≡ d) × (lookup (nat_eq q) (es ++ (d, x) ∷ []) ≡ Some x))
lookup-push [] d x q = by (nat_eq q d) refl
  where
    by : (b : Bool) → nat_eq q d ≡ b → (cond b (Some x) None ≡ None) ⊎ ((q ≡ d) × (cond b (Some x) None ≡ Some x))
    by true e = inr ((unsigned_Decides q d).0 e, refl)
    by false e = inl refl
lookup-push (y ∷ es) d x q = by (nat_eq q y.0) (lookup-push es d x q)
  where
    by : (b : Bool) → (lookup (nat_eq q) (es ++ (d, x) ∷ []) ≡ lookup (nat_eq q) es) ⊎
        ((q ≡ d) × (lookup (nat_eq q) (es ++ (d, x) ∷ []) ≡ Some x))
        → (cond b (Some y.1) (lookup (nat_eq q) (es ++ (d, x) ∷ [])) ≡ cond b (Some y.1) (lookup (nat_eq q) es))
        ⊎ ((q ≡ d) × (cond b (Some y.1) (lookup (nat_eq q) (es ++ (d, x) ∷ [])) ≡ Some x))
    by true h = inl refl
    by false h = h

-- a declaration defines nothing
pub undefined-declared : (s : Store) (d : ℕ) (b : Bool) (q : ℕ) → definition_of s q ≡ None → definition_of (with_declared s d b) q ≡ None
undefined-declared s d b q e = by (lookup-push s.declared d (record { sized = b; definition = None }) q)
  where
    by : (lookup (nat_eq q) (with_declared s d b).declared ≡ lookup (nat_eq q) s.declared)
        ⊎ ((q ≡ d) × (lookup (nat_eq q) (with_declared s d b).declared ≡ Some (record { sized = b; definition = None })))
        → definition_of (with_declared s d b) q ≡ None
    by (inl h) = ap (option_and_then (λ x. x.definition)) h ∙ e
    by (inr h) = ap (option_and_then (λ x. x.definition)) h.1

-- a declaration declares no other name
pub sized-declared : (s : Store) (d : ℕ) (b : Bool) (q : ℕ) → q ≢ d → sized_of (with_declared s d b) q ≡ sized_of s q
sized-declared s d b q apart = by (lookup-push s.declared d (record { sized = b; definition = None }) q)
  where
    by : (lookup (nat_eq q) (with_declared s d b).declared ≡ lookup (nat_eq q) s.declared)
        ⊎ ((q ≡ d) × (lookup (nat_eq q) (with_declared s d b).declared ≡ Some (record { sized = b; definition = None })))
        → sized_of (with_declared s d b) q ≡ sized_of s q
    by (inl h) = ap (option_map (λ x. x.sized)) h
    by (inr h) = absurd (apart h.0)

-- what is known of names rests on what was entered of them alone
pub definition-same : (s u : Store) → s.declared ≡ u.declared → (d : ℕ) → definition_of s d ≡ definition_of u d
definition-same s u e d = ap (λ es. option_and_then (λ e. e.definition) (lookup (nat_eq d) es)) e

pub sized-same : (s u : Store) → s.declared ≡ u.declared → (d : ℕ) → sized_of s d ≡ sized_of u d
sized-same s u e d = ap (λ es. option_map (λ e. e.sized) (lookup (nat_eq d) es)) e

-- ---- what is held by value

one_held : (o d : ℕ) → Contains (o ∷ []) d → o ≡ d
one_held o d (zero, l, e) = e
one_held o d (suc k, l, e) = absurd (omega (arith, l))

none_held : (d : ℕ) → Contains [] d → ⊥
none_held d (k, l, e) = omega (arith, l)

-- a type that holds one name alone, which is not defined, holds no other
pub one_finite : (s : Store) (t other d : ℕ) (u : Tree) → tree_at s t ≡ Some u → held u ≡ other ∷ [] → definition_of s other ≡ None →
    d ≢ other → IfSome (tree_at s t) (λ v. ¬ HoldsByValue s v d)
one_finite s t other d u tree alone unknown apart = rw tree (λ h. by h.0 h.1)
  where
    by : (way : List ℕ) → Leads (meaning_of s) u way d → ⊥
    by [] h = apart (sym (one_held other d (subst (λ ns. Contains ns d) alone h)))
    by (e ∷ way) h =
        let same : other ≡ e = one_held other e (subst (λ ns. Contains ns e) alone h.0) in
        let gone : meaning_of s e ≡ None = ap (option_and_then (tree_at s)) (subst (λ q. definition_of s q ≡ None) same unknown) in
        let some : meaning_of s e ≡ Some h.1.0 = h.1.1 in
        absurd cc

-- an array of a name that is not defined holds no other name
pub array_finite : (s : Store) (t n other d : ℕ) → tree_at s t ≡ Some (Array n (Named other)) → definition_of s other ≡ None → d ≢ other →
    IfSome (tree_at s t) (λ u. ¬ HoldsByValue s u d)
array_finite s t n other d tree unknown apart = one_finite s t other d (Array n (Named other)) tree refl unknown apart

-- a type that holds no name
pub unheld_finite : (s : Store) (t d : ℕ) → IfSome (tree_at s t) (λ u. held u ≡ []) → IfSome (tree_at s t) (λ u. ¬ HoldsByValue s u d)
unheld_finite s t d = by (tree_at s t)
  where
    none : (u : Tree) → held u ≡ [] → (way : List ℕ) → Leads (meaning_of s) u way d → ⊥
    none u e [] h = none_held d (subst (λ ns. Contains ns d) e h)
    none u e (f ∷ way) h = none_held f (subst (λ ns. Contains ns f) e h.0)

    by : (o : Option Tree) → IfSome o (λ u. held u ≡ []) → IfSome o (λ u. ¬ HoldsByValue s u d)
    by None h = tt
    by (Some u) h = λ w. none u h w.0 w.1

-- a word holds no name
pub word_finite : (s : Store) (t d : ℕ) → tree_at s t ≡ Some (Scalar keyword.Int) → IfSome (tree_at s t) (λ u. ¬ HoldsByValue s u d)
word_finite s t d tree = unheld_finite s t d (subst (λ o. IfSome o (λ u. held u ≡ [])) (sym tree) refl)
