-- What stands in a list, and at which place.
use Rattle.std.proofs.Common.{◌≡◌, ◌⊎◌, inl, inr, ℕ, zero, suc, ◌+◌, ◌<◌, List, [], ◌∷◌, ◌++◌, length, Some, refl, ap, sym, ◌∙◌, arith, get_or, take}
use Rattle.std.specs.Prelude.{slice_get, Contains}
use Rattle.std.proofs.lemmas.List.{take_more}
use Rattle.std.proofs.lemmas.List.Elements.{Contains-append_cases}
use Rattle.std.proofs.lemmas.Option.{slice_get-get_or, slice_get_within, get_or_from_slice_get}

pub Contains-head : {X : Type 0} (x : X) (xs : List X) → Contains (x ∷ xs) x
Contains-head x xs = (0, omega arith, refl)

pub Contains-rest : {X : Type 0} (x y : X) (xs : List X) → Contains xs y → Contains (x ∷ xs) y
Contains-rest x y xs h = (suc h.0, omega (arith, h.1), h.2)

-- it is the first, or stands behind it
pub Contains-cons : {X : Type 0} (x y : X) (xs : List X) → Contains (x ∷ xs) y → (x ≡ y) ⊎ Contains xs y
Contains-cons x y xs h = by h.0 h.1 h.2
  where
    by : (k : ℕ) → k < length (x ∷ xs) → get_or (x ∷ xs) k y ≡ y → (x ≡ y) ⊎ Contains xs y
    by zero l e = inl e
    by (suc k) l e = inr (k, omega arith, e)

pub Contains-none : {X : Type 0} (y : X) → Contains [] y → ⊥
Contains-none y h = omega (arith, h.1)

pub Contains-get : {X : Type 0} (xs : List X) (k : ℕ) (x : X) → slice_get xs k ≡ Some x → Contains xs x
Contains-get xs k x e = (k, slice_get_within xs k x e, get_or_from_slice_get xs k x x e)

pub get-Contains : {X : Type 0} (xs : List X) (x : X) → Contains xs x → (k : ℕ) × (slice_get xs k ≡ Some x)
get-Contains xs x h = (h.0, slice_get-get_or xs h.0 x h.1 ∙ ap Some h.2)

-- it is the last, or stands before it
pub Contains-last : {X : Type 0} (xs : List X) (x y : X) → Contains (xs ++ x ∷ []) y → Contains xs y ⊎ (x ≡ y)
Contains-last xs x y c = by (Contains-append_cases xs (x ∷ []) y c)
  where
    last : (x ≡ y) ⊎ Contains [] y → Contains xs y ⊎ (x ≡ y)
    last (inl e) = inr e
    last (inr n) = absurd (Contains-none y n)

    by : Contains xs y ⊎ Contains (x ∷ []) y → Contains xs y ⊎ (x ≡ y)
    by (inl a) = inl a
    by (inr b) = last (Contains-cons x y [] b)

-- one element more is taken
pub take-item : {X : Type 0} (xs : List X) (i : ℕ) (x : X) → i < length xs → x ≡ get_or xs i x → take (i + 1) xs ≡ take i xs ++ x ∷ []
take-item xs i x l e = take_more xs i x l ∙ ap (λ y. take i xs ++ y ∷ []) (sym e)

-- ---- the elements before and behind a place

pub before_at : {X : Type 0} → List X → ℕ → List X
before_at [] k = []
before_at (x ∷ xs) zero = []
before_at (x ∷ xs) (suc k) = x ∷ before_at xs k

pub behind_at : {X : Type 0} → List X → ℕ → List X
behind_at [] k = []
behind_at (x ∷ xs) zero = xs
behind_at (x ∷ xs) (suc k) = behind_at xs k

pub split_at : {X : Type 0} (xs : List X) (k : ℕ) (x : X) → slice_get xs k ≡ Some x → xs ≡ before_at xs k ++ x ∷ behind_at xs k
unfolding before_at behind_at
split_at [] k x e = absurd cc
split_at (y ∷ xs) zero x e = let same : y ≡ x = cc in ap (λ z. z ∷ xs) same
split_at (y ∷ xs) (suc k) x e = ap (λ zs. y ∷ zs) (split_at xs k x e)

pub length-before_at : {X : Type 0} (xs : List X) (k : ℕ) (x : X) → slice_get xs k ≡ Some x → length (before_at xs k) ≡ k
unfolding before_at
length-before_at [] k x e = absurd cc
length-before_at (y ∷ xs) zero x e = refl
length-before_at (y ∷ xs) (suc k) x e = ap suc (length-before_at xs k x e)

-- what stands before a place stands at an earlier one
pub Contains-before_at : {X : Type 0} (xs : List X) (k : ℕ) (y : X) → Contains (before_at xs k) y → (i : ℕ) × (i < k) ×
    (slice_get xs i ≡ Some y)
unfolding before_at
Contains-before_at [] k y h = absurd (Contains-none y h)
Contains-before_at (x ∷ xs) zero y h = absurd (Contains-none y h)
Contains-before_at (x ∷ xs) (suc k) y h = by (Contains-before_at xs k y) (Contains-cons x y (before_at xs k) h)
  where
    by : (Contains (before_at xs k) y → (i : ℕ) × (i < k) × (slice_get xs i ≡ Some y)) → (x ≡ y) ⊎ Contains (before_at xs k) y
        → (i : ℕ) × (i < suc k) × (slice_get (x ∷ xs) i ≡ Some y)
    by ih (inl e) = (0, omega arith, ap Some e)
    by ih (inr r) = let i = ih r in (suc i.0, omega (arith, i.1), i.2)
