-- Elements of a list that grows at its end.
use Rattle.std.proofs.Common.{◌≡◌, ℕ, zero, suc, ◌<◌, ◌≤◌, List, [], ◌∷◌, ◌++◌, length, get_or, Some, None, refl, ap, sym, ◌∙◌, arith, ◌⊎◌, inl, inr}
use Rattle.std.specs.Prelude.{slice_get}
use Rattle.std.proofs.lemmas.Option.{slice_get-get_or}

-- an element of the front
pub slice_get_front : {A : Type 0} (xs ys : List A) (i : ℕ) → i < length xs → slice_get (xs ++ ys) i ≡ slice_get xs i
slice_get_front [] ys i h = absurd (omega arith)
slice_get_front (x ∷ xs) ys zero h = refl
slice_get_front (x ∷ xs) ys (suc i) h = slice_get_front xs ys i (omega arith)

-- the element behind the front
pub slice_get_end : {A : Type 0} (xs : List A) (y : A) (ys : List A) → slice_get (xs ++ y ∷ ys) (length xs) ≡ Some y
slice_get_end [] y ys = refl
slice_get_end (x ∷ xs) y ys = slice_get_end xs y ys

-- an element is one of the front or the last
pub slice_get_push : {A : Type 0} (xs : List A) (x : A) (i : ℕ) (y : A) → slice_get (xs ++ x ∷ []) i ≡ Some y →
    (slice_get xs i ≡ Some y) ⊎ ((i ≡ length xs) × (y ≡ x))
slice_get_push [] x zero y e = inr (refl, cc)
slice_get_push [] x (suc i) y e = cc
slice_get_push (a ∷ xs) x zero y e = inl e
slice_get_push (a ∷ xs) x (suc i) y e = next (slice_get_push xs x i y e)
  where
    next : (slice_get xs i ≡ Some y) ⊎ ((i ≡ length xs) × (y ≡ x)) → (slice_get xs i ≡ Some y) ⊎ ((suc i ≡ length (a ∷ xs)) × (y ≡ x))
    next (inl h) = inl h
    next (inr h) = inr (ap suc h.0, h.1)

-- where there is no element, the list has ended
pub slice_get_none : {A : Type 0} (xs : List A) (i : ℕ) → slice_get xs i ≡ None → length xs ≤ i
slice_get_none [] i e = omega arith
slice_get_none (x ∷ xs) zero e = absurd cc
slice_get_none (x ∷ xs) (suc i) e = omega (arith, slice_get_none xs i e)

-- behind the list there is no element
pub slice_get_past : {A : Type 0} (xs : List A) (i : ℕ) → length xs ≤ i → slice_get xs i ≡ None
slice_get_past [] i h = refl
slice_get_past (x ∷ xs) zero h = absurd (omega arith)
slice_get_past (x ∷ xs) (suc i) h = slice_get_past xs i (omega arith)

-- an element that was read by an index
pub slice_get_read : {A : Type 0} (xs : List A) (at index : ℕ) (x : A) → index ≡ at → index < length xs → x ≡ get_or xs index x →
    slice_get xs at ≡ Some x
slice_get_read xs at index x same within is = ap (slice_get xs) (sym same) ∙ slice_get-get_or xs index x within ∙ ap Some (sym is)
