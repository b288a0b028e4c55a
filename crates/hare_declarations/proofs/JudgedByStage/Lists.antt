-- Lists: their first elements, and one element that is written.
use Rattle.std.proofs.Common.{◌≡◌, ◌≢◌, ℕ, zero, suc, ◌+◌, ◌<◌, List, [], ◌∷◌, ◌++◌, length, map, take, drop, Some, refl, ap, sym, ◌∙◌, arith}
use Rattle.std.specs.Prelude.{slice_get, slice_set, replicate, Contains}
use Rattle.std.proofs.lemmas.List.{map-append, take-append-drop}
use Rattle.hare_modules.proofs.ListLemmas.{drop-there}

-- ---- what stands in a list

-- nothing stands in the empty list
pub Contains-nil : {X : Type 0} (x : X) → Contains [] x → ⊥
Contains-nil x c = let h : c.0 < 0 = c.1 in omega arith

-- ---- the first elements

take-behind : {X : Type 0} (xs : List X) (i : ℕ) (x : X) → slice_get xs i ≡ Some x → take (suc i) xs ≡ take i xs ++ x ∷ []
take-behind [] i x e = absurd cc
take-behind (y ∷ ys) zero x e = let h : y ≡ x = cc in ap (λ z. z ∷ []) h
take-behind (y ∷ ys) (suc i) x e = ap (λ zs. y ∷ zs) (take-behind ys i x e)

-- one element more
pub take-next : {X : Type 0} (xs : List X) (i : ℕ) (x : X) → slice_get xs i ≡ Some x → take (i + 1) xs ≡ take i xs ++ x ∷ []
take-next xs i x e = let n : i + 1 ≡ suc i = omega arith in ap (λ k. take k xs) n ∙ take-behind xs i x e

-- so it is of what a list is mapped to
pub map-take-next : {X Y : Type 0} (f : X → Y) (xs : List X) (i : ℕ) (x : X) → slice_get xs i ≡ Some x →
    map f (take (i + 1) xs) ≡ map f (take i xs) ++ f x ∷ []
map-take-next f xs i x e = ap (map f) (take-next xs i x e) ∙ map-append f (take i xs) (x ∷ [])

-- an element with what stands before and behind it
pub map-split : {X Y : Type 0} (f : X → Y) (xs : List X) (i : ℕ) (x : X) → slice_get xs i ≡ Some x →
    map f xs ≡ map f (take i xs) ++ f x ∷ map f (drop (i + 1) xs)
map-split f xs i x e =
    ap (map f) (sym (take-append-drop i xs)) ∙ map-append f (take i xs) (drop i xs)
    ∙ ap (λ ys. map f (take i xs) ++ map f ys) (drop-there xs i x e)

-- ---- one element that is written

pub length-set : {X : Type 0} (xs : List X) (i : ℕ) (x : X) → length (slice_set xs i x) ≡ length xs
length-set [] i x = refl
length-set (y ∷ ys) zero x = refl
length-set (y ∷ ys) (suc i) x = ap suc (length-set ys i x)

pub slice_get-set_same : {X : Type 0} (xs : List X) (i : ℕ) (x : X) → i < length xs → slice_get (slice_set xs i x) i ≡ Some x
slice_get-set_same [] i x h = absurd (omega arith)
slice_get-set_same (y ∷ ys) zero x h = refl
slice_get-set_same (y ∷ ys) (suc i) x h = slice_get-set_same ys i x (omega arith)

pub slice_get-set_other : {X : Type 0} (xs : List X) (i j : ℕ) (x : X) → i ≢ j → slice_get (slice_set xs i x) j ≡ slice_get xs j
slice_get-set_other [] i j x h = refl
slice_get-set_other (y ∷ ys) zero zero x h = absurd (h refl)
slice_get-set_other (y ∷ ys) zero (suc j) x h = refl
slice_get-set_other (y ∷ ys) (suc i) zero x h = refl
slice_get-set_other (y ∷ ys) (suc i) (suc j) x h = slice_get-set_other ys i j x (λ e. h (ap suc e))

-- the last that is written counts
pub slice_set-set : {X : Type 0} (xs : List X) (i : ℕ) (x y : X) → slice_set (slice_set xs i x) i y ≡ slice_set xs i y
slice_set-set [] i x y = refl
slice_set-set (z ∷ zs) zero x y = refl
slice_set-set (z ∷ zs) (suc i) x y = ap (λ ws. z ∷ ws) (slice_set-set zs i x y)

-- ---- copies of one element

pub length-replicate : {X : Type 0} (n : ℕ) (x : X) → length (replicate n x) ≡ n
length-replicate zero x = refl
length-replicate (suc n) x = ap suc (length-replicate n x)

pub slice_get-replicate : {X : Type 0} (n i : ℕ) (x y : X) → slice_get (replicate n x) i ≡ Some y → x ≡ y
slice_get-replicate zero i x y e = absurd cc
slice_get-replicate (suc n) zero x y e = cc
slice_get-replicate (suc n) (suc i) x y e = slice_get-replicate n i x y e
