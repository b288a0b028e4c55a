-- Elements of lists.
use Rattle.std.proofs.Common.{◌≡◌, ◌≢◌, ℕ, List, [], ◌∷◌, ◌⊎◌, inl, inr, length, get_or, slice_get, Some, None, true, false, refl, suc, zero, arith}
use Rattle.std.specs.Prelude.{Contains}
use Rattle.std.proofs.Math.Dec.{eqb}
use Rattle.std.proofs.lemmas.Bool.Decides.{eqb_tells}

pub Contains-none : {A : Type 0} (x : A) → Contains [] x → ⊥
Contains-none x c = omega (arith, c.1)

pub Contains-cases : {A : Type 0} (y x : A) (ys : List A) → Contains (y ∷ ys) x → (y ≡ x) ⊎ Contains ys x
Contains-cases y x ys (zero, l, e) = inl e
Contains-cases y x ys (suc k, l, e) = inr (k, omega (arith, l), e)

pub Contains-here : {A : Type 0} (x : A) (xs : List A) → Contains (x ∷ xs) x
Contains-here x xs = (0, omega arith, refl)

pub Contains-behind : {A : Type 0} (y x : A) (ys : List A) → Contains ys x → Contains (y ∷ ys) x
Contains-behind y x ys c = (suc c.0, omega (arith, c.1), c.2)

pub no-elements : {A : Type 0} (xs : List A) → length xs ≡ 0 → xs ≡ []
no-elements [] e = refl
no-elements (x ∷ xs) e = absurd (omega (arith, e))

pub get_or-there : {A : Type 0} (xs : List A) (i : ℕ) (x d : A) → slice_get xs i ≡ Some x → get_or xs i d ≡ x
get_or-there [] i x d e = absurd cc
get_or-there (y ∷ ys) zero x d e = cc
get_or-there (y ∷ ys) (suc i) x d e = get_or-there ys i x d e

pub get_or-none : {A : Type 0} (xs : List A) (i : ℕ) (d : A) → slice_get xs i ≡ None → get_or xs i d ≡ d
get_or-none [] i d e = refl
get_or-none (y ∷ ys) zero d e = absurd cc
get_or-none (y ∷ ys) (suc i) d e = get_or-none ys i d e

-- another node, or this one
abbrev pub Other : ℕ → ℕ → Type 0
Other a n = (a ≡ n) ⊎ (a ≢ n)

pub other : (a n : ℕ) → Other a n
other a n = by (eqb_tells a n)
  where
    by : ((eqb a n ≡ true) × (a ≡ n)) ⊎ ((eqb a n ≡ false) × (a ≢ n)) → Other a n
    by (inl h) = inl h.1
    by (inr h) = inr h.1
