-- Lists in which each element stands once, so that its place is its number.
use Rattle.std.specs.Prelude.{◌≡◌, ℕ, List, [], ◌∷◌, ◌++◌, slice_get, Some, ◌⊎◌}

-- no element stands at two places
pub record IsOnce {A : Type 0} (xs : List A) : Type 0 where
  pub once : (i j : ℕ) (x : A) → slice_get xs i ≡ Some x → slice_get xs j ≡ Some x → i ≡ j

-- x has the number n, in a list that held it or to whose end it was put
pub record IsNumbered {A : Type 0} (old new : List A) (x : A) (n : ℕ) : Type 0 where
  pub stands : slice_get new n ≡ Some x
  pub only : (m : ℕ) → slice_get new m ≡ Some x → m ≡ n
  pub grows : (new ≡ old) ⊎ (new ≡ old ++ x ∷ [])

-- new is old with more at its end
abbrev pub Continues : {A : Type 0} → List A → List A → Type 0
Continues {A} old new = (more : List A) × (new ≡ old ++ more)

-- the greatest number of names, types or listed types of a store
abbrev pub most : ℕ
most = 4294967295
