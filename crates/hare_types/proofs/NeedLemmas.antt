-- What rows need, and what follows from it.
use Rattle.std.proofs.Common.{◌≡◌, ℕ, zero, suc, ◌<◌, List, [], ◌∷◌, Option, Some, None, IsSome, refl, ap, ap₂, sym, ◌∙◌, arith, ◌⊎◌, inl, inr}
use Rattle.std.specs.Prelude.{slice_get, option_map, option_and_then}
use Rattle.hare_types.specs.declared.declared.Declared.{Declared}
use Rattle.hare_types.specs.declared.extent.Extent.{Extent}
use Rattle.hare_types.specs.declared.kept.Kept.{Kept}
use Rattle.hare_types.specs.declared.root.Root.{Root}
use Rattle.hare_types.specs.declared.row.Row.{Row}
use Rattle.hare_types.specs.declared.row.Row.TheVariants as row
use Rattle.hare_types.specs.Kept.{parts_of, known, defined, all_known, extent_over, IsInert}
use Rattle.hare_types.specs.Packed.{base_in}
use Rattle.hare_types.specs.Roots.{with_mark, root_over}
use Rattle.hare_types.specs.Waiting.{extents, root_at, NeedsRow, HaveRoots, needed_at}
use Rattle.hare_types.proofs.ChainLemmas.{equal_or_not}

-- ---- what a row needs

all_known-none : (f : ℕ → Option Extent) (is : List ℕ) (k p : ℕ) → slice_get is k ≡ Some p → f p ≡ None → all_known f is ≡ None
all_known-none f [] k p e h = absurd cc
all_known-none f (i ∷ is) zero p e h =
    let same : i ≡ p = cc in
    ap (option_and_then (λ x. option_map (λ xs. x ∷ xs) (all_known f is))) (ap f same ∙ h)
all_known-none f (i ∷ is) (suc k) p e h = by (all_known-none f is k p e h) (f i)
  where
    by : all_known f is ≡ None → (o : Option Extent) → option_and_then (λ x. option_map (λ xs. x ∷ xs) (all_known f is)) o ≡ None
    by ih None = refl
    by ih (Some x) = ap (option_map (λ xs. x ∷ xs)) ih

-- no extent follows where one that is needed is not known
pub needs-none : (es : List (ℕ × Declared)) (f : ℕ → Option Extent) (r : Row) (p : ℕ) → NeedsRow es r p → f p ≡ None →
    extent_over (defined es) f r ≡ None
needs-none es f (row.Array n j) p h e = ap (option_map _) (ap f h ∙ e)
needs-none es f (row.Error j) p h e = ap f h ∙ e
needs-none es f (row.Named d) p h e = ap (option_and_then f) h ∙ e
needs-none es f (row.Struct fs) p h e = ap (option_map _) (all_known-none f (parts_of (row.Struct fs)) h.0 p h.1 e)
needs-none es f (row.Tuple js) p h e = ap (option_map _) (all_known-none f js h.0 p h.1 e)
needs-none es f (row.Union js) p h e = ap (option_map _) (all_known-none f js h.0 p h.1 e)
needs-none es f (row.Scalar k) p h e = absurd h
needs-none es f (row.Pointer j) p h e = absurd h
needs-none es f (row.Nullable j) p h e = absurd h
needs-none es f (row.Slice j) p h e = absurd h

all_known-each : (f : ℕ → Option Extent) (is : List ℕ) → ((k p : ℕ) → slice_get is k ≡ Some p → IsSome (f p)) → (xs : List Extent) ×
    (all_known f is ≡ Some xs)
all_known-each f [] h = ([], refl)
all_known-each f (i ∷ is) h = by (all_known-each f is (λ k p e. h (suc k) p e)) (f i) refl (h zero i refl)
  where
    by : (xs : List Extent) × (all_known f is ≡ Some xs) → (o : Option Extent) → f i ≡ o → IsSome o → (xs : List Extent) ×
        (all_known f (i ∷ is) ≡ Some xs)
    by rest None e s = absurd cc
    by rest (Some x) e s = (x ∷ rest.0, ap₂ (λ o q. option_and_then (λ x. option_map (λ xs. x ∷ xs) q) o) e rest.1)

-- the next that is needed
pub needed-needs : (es : List (ℕ × Declared)) (r : Row) (k p : ℕ) → needed_at (defined es) r k ≡ Some p → NeedsRow es r p
needed-needs es (row.Array n j) k p e = cc
needed-needs es (row.Error j) k p e = cc
needed-needs es (row.Named d) k p e = e
needed-needs es (row.Struct fs) k p e = (k, e)
needed-needs es (row.Tuple js) k p e = (k, e)
needed-needs es (row.Union js) k p e = (k, e)
needed-needs es (row.Scalar w) k p e = absurd cc
needed-needs es (row.Pointer j) k p e = absurd cc
needed-needs es (row.Nullable j) k p e = absurd cc
needed-needs es (row.Slice j) k p e = absurd cc

of_option : (o : Option Extent) (g : Extent → Extent) → option_map g o ≡ None → o ≡ None
of_option None g e = refl
of_option (Some x) g e = absurd cc

-- has no extent yet
pub needed-unknown : (es : List (ℕ × Declared)) (f : ℕ → Option Extent) (r : Row) (k p : ℕ) → extent_over (defined es) f r ≡ None →
    ((q : ℕ) → slice_get (parts_of r) k ≡ Some q → f q ≡ None)
    → needed_at (defined es) r k ≡ Some p → f p ≡ None
needed-unknown es f (row.Array n j) k p none at e =
    let same : j ≡ p = cc in
    ap f (sym same) ∙ of_option (f j) _ none
needed-unknown es f (row.Error j) k p none at e =
    let same : j ≡ p = cc in
    ap f (sym same) ∙ none
needed-unknown es f (row.Named d) k p none at e = sym (ap (option_and_then f) e) ∙ none
needed-unknown es f (row.Struct fs) k p none at e = at p e
needed-unknown es f (row.Tuple js) k p none at e = at p e
needed-unknown es f (row.Union js) k p none at e = at p e
needed-unknown es f (row.Scalar w) k p none at e = absurd cc
needed-unknown es f (row.Pointer j) k p none at e = absurd cc
needed-unknown es f (row.Nullable j) k p none at e = absurd cc
needed-unknown es f (row.Slice j) k p none at e = absurd cc

parts_all : (f : ℕ → Option Extent) (is : List ℕ) (k : ℕ) → slice_get is k ≡ None →
    ((j p : ℕ) → j < k → slice_get is j ≡ Some p → IsSome (f p)) → (j p : ℕ) → slice_get is j ≡ Some p → IsSome (f p)
parts_all f is k past before j p e = before j p (below is k past j p e) e
  where
    below : (is : List ℕ) (k : ℕ) → slice_get is k ≡ None → (j p : ℕ) → slice_get is j ≡ Some p → j < k
    below [] k past j p e = absurd cc
    below (x ∷ is) zero past j p e = absurd cc
    below (x ∷ is) (suc k) past zero p e = omega arith
    below (x ∷ is) (suc k) past (suc j) p e = let l = below is k past j p e in omega arith

parts_some : (f : ℕ → Option Extent) (is : List ℕ) (g : List Extent → Extent) → option_map g (all_known f is) ≡ None →
    ((j p : ℕ) → slice_get is j ≡ Some p → IsSome (f p)) → ⊥
parts_some f is g none all =
    let k = all_known-each f is all in
    let both : Some (g k.0) ≡ None = sym (ap (option_map g) k.1) ∙ none in
    absurd cc

-- where nothing is needed, no extent follows ever
pub needed-none : (es : List (ℕ × Declared)) (f : ℕ → Option Extent) (r : Row) (k : ℕ) → extent_over (defined es) f r ≡ None →
    ((j p : ℕ) → j < k → slice_get (parts_of r) j ≡ Some p → IsSome (f p))
    → needed_at (defined es) r k ≡ None → IsInert es r
needed-none es f (row.Array n j) k none before e = absurd cc
needed-none es f (row.Error j) k none before e = absurd cc
needed-none es f (row.Named d) k none before e = e
needed-none es f (row.Struct fs) k none before e =
    parts_some f (parts_of (row.Struct fs)) _ none (parts_all f (parts_of (row.Struct fs)) k e before)
needed-none es f (row.Tuple js) k none before e = parts_some f js _ none (parts_all f js k e before)
needed-none es f (row.Union js) k none before e = parts_some f js _ none (parts_all f js k e before)
needed-none es f (row.Scalar w) k none before e = none
needed-none es f (row.Pointer j) k none before e = absurd cc
needed-none es f (row.Nullable j) k none before e = absurd cc
needed-none es f (row.Slice j) k none before e = absurd cc

-- ---- roots follow from what rows need

pub root_over-near : (es : List (ℕ × Declared)) (f g : ℕ → Option Root) (i : ℕ) (r : Row) (p : ℕ) → NeedsRow es r p → g p ≡ f p →
    root_over (defined es) g i r ≡ root_over (defined es) f i r
root_over-near es f g i (row.Error j) p h e = ap (λ o. Some (with_mark o)) (ap g h ∙ e ∙ ap f (sym h))
root_over-near es f g i (row.Named d) p h e = ap (option_and_then g) h ∙ e ∙ sym (ap (option_and_then f) h)
root_over-near es f g i (row.Array n j) p h e = refl
root_over-near es f g i (row.Struct fs) p h e = refl
root_over-near es f g i (row.Tuple js) p h e = refl
root_over-near es f g i (row.Union js) p h e = refl
root_over-near es f g i (row.Scalar k) p h e = refl
root_over-near es f g i (row.Pointer j) p h e = refl
root_over-near es f g i (row.Nullable j) p h e = refl
root_over-near es f g i (row.Slice j) p h e = refl

pub root_over-inert : (es : List (ℕ × Declared)) (f g : ℕ → Option Root) (i : ℕ) (r : Row) → IsInert es r →
    root_over (defined es) g i r ≡ root_over (defined es) f i r
root_over-inert es f g i (row.Named d) h = ap (option_and_then g) h ∙ sym (ap (option_and_then f) h)
root_over-inert es f g i (row.Scalar k) h = refl
root_over-inert es f g i (row.Error j) h = absurd h
root_over-inert es f g i (row.Array n j) h = absurd h
root_over-inert es f g i (row.Struct fs) h = absurd h
root_over-inert es f g i (row.Tuple js) h = absurd h
root_over-inert es f g i (row.Union js) h = absurd h
root_over-inert es f g i (row.Pointer j) h = absurd h
root_over-inert es f g i (row.Nullable j) h = absurd h
root_over-inert es f g i (row.Slice j) h = absurd h

-- a row has a base where it has an extent
pub extent-rooted : (es : List (ℕ × Declared)) (ks : List Kept) → HaveRoots ks → (i : ℕ) (r : Row) →
    IsSome (extent_over (defined es) (known (extents ks)) r)
    → IsSome (base_in (root_over (defined es) (root_at ks) i r))
extent-rooted es ks h i (row.Error j) s = h j s
extent-rooted es ks h i (row.Named d) s = by (defined es d) s
  where
    by : (o : Option ℕ) → IsSome (option_and_then (known (extents ks)) o) → IsSome (base_in (option_and_then (root_at ks) o))
    by None s = s
    by (Some t) s = h t s
extent-rooted es ks h i (row.Scalar k) s = refl
extent-rooted es ks h i (row.Pointer j) s = refl
extent-rooted es ks h i (row.Nullable j) s = refl
extent-rooted es ks h i (row.Slice j) s = refl
extent-rooted es ks h i (row.Array n j) s = refl
extent-rooted es ks h i (row.Struct fs) s = refl
extent-rooted es ks h i (row.Tuple js) s = refl
extent-rooted es ks h i (row.Union js) s = refl

-- where a row with a base is a root
pub rooted-based : (o : Option Root) → IsSome (base_in o) → IsSome o
rooted-based None h = h
rooted-based (Some r) h = refl

-- Once what follows for row i is kept of it, and of the other rows what was, no base follows that is not kept. No matter whether the row
-- rests on itself.
pub base-kept : (es : List (ℕ × Declared)) (f g : ℕ → Option Root) (i : ℕ) (r : Row) → g i ≡ root_over (defined es) f i r →
    ((j : ℕ) → ¬ (j ≡ i) → g j ≡ f j)
    → base_in (g i) ≡ None → base_in (root_over (defined es) g i r) ≡ None
base-kept es f g i (row.Error j) here there h = by (equal_or_not j i)
  where
    by : (j ≡ i) ⊎ (¬ (j ≡ i)) → base_in (g j) ≡ None
    by (inl e) = ap (λ n. base_in (g n)) e ∙ h
    by (inr other) = ap base_in (there j other) ∙ sym (ap base_in here) ∙ h
base-kept es f g i (row.Named d) here there h = by (defined es d) refl
  where
    on : (t : ℕ) → defined es d ≡ Some t → (t ≡ i) ⊎ (¬ (t ≡ i)) → base_in (g t) ≡ None
    on t e (inl same) = ap (λ n. base_in (g n)) same ∙ h
    on t e (inr other) = ap base_in (there t other) ∙ sym (ap base_in (here ∙ ap (option_and_then f) e)) ∙ h

    by : (o : Option ℕ) → defined es d ≡ o → base_in (option_and_then g o) ≡ None
    by None e = refl
    by (Some t) e = on t e (equal_or_not t i)
base-kept es f g i (row.Scalar k) here there h = sym (ap base_in here) ∙ h
base-kept es f g i (row.Pointer j) here there h = sym (ap base_in here) ∙ h
base-kept es f g i (row.Nullable j) here there h = sym (ap base_in here) ∙ h
base-kept es f g i (row.Slice j) here there h = sym (ap base_in here) ∙ h
base-kept es f g i (row.Array n j) here there h = sym (ap base_in here) ∙ h
base-kept es f g i (row.Struct fs) here there h = sym (ap base_in here) ∙ h
base-kept es f g i (row.Tuple js) here there h = sym (ap base_in here) ∙ h
base-kept es f g i (row.Union js) here there h = sym (ap base_in here) ∙ h
