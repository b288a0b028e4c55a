-- What stands in a list, and what is found there.
use Rattle.std.proofs.Common.{◌≡◌, ℕ, ◌<◌, Bool, true, false, List, [], ◌∷◌, ◌++◌, map, Some, ◌⊎◌, inl, inr, refl, ap, sym, ◌∙◌, subst, nat_eq, arith}
use Rattle.std.specs.Prelude.{Contains, slice_get, is_some, find, cond}
use Rattle.std.proofs.lemmas.Bool.{eqb-true, eqb-false}
use Rattle.std.proofs.lemmas.List.Elements.{Contains-append_right, Contains-append_cases, Contains-push_cases}
use Rattle.hare_rules.specs.Words.{is_among}

-- nothing stands in the empty list
pub Contains-nil : {X : Type 0} (x : X) → Contains [] x → ⊥
Contains-nil x c = let h : c.0 < 0 = c.1 in omega arith

pub Contains-head : {X : Type 0} (x : X) (xs : List X) → Contains (x ∷ xs) x
Contains-head x xs = (0, omega arith, refl)

pub Contains-tail : {X : Type 0} (x : X) (xs : List X) (y : X) → Contains xs y → Contains (x ∷ xs) y
Contains-tail x xs y c = Contains-append_right (x ∷ []) xs y c

-- it is the first, or stands behind it
pub Contains-cons_cases : {X : Type 0} (x : X) (xs : List X) (y : X) → Contains (x ∷ xs) y → (x ≡ y) ⊎ Contains xs y
Contains-cons_cases x xs y c = elim (Contains-append_cases (x ∷ []) xs y c) [
  | inl a ↦ elim (Contains-push_cases [] x y a) [ inl b ↦ absurd (Contains-nil y b) | inr e ↦ inl e ]
  | inr a ↦ inr a
]

-- a number that is among some stands in their list
pub Contains-from_among : (n : ℕ) (ns : List ℕ) → is_among n ns ≡ true → Contains ns n
Contains-from_among n [] h = absurd cc
Contains-from_among n (m ∷ ns) h = by (nat_eq n m) refl h (Contains-from_among n ns)
  where
    by : (b : Bool) → nat_eq n m ≡ b → is_some (cond b (Some m) (find (nat_eq n) ns)) ≡ true → (is_among n ns ≡ true → Contains ns n) →
        Contains (m ∷ ns) n
    by true e g rest = subst (λ k. Contains (m ∷ ns) k) (sym (eqb-true n m e)) (Contains-head m ns)
    by false e g rest = Contains-tail m ns n (rest g)

-- at one place stands one element
pub slice_get-same : {X : Type 0} (xs : List X) (n m : ℕ) (x y : X) → n ≡ m → slice_get xs n ≡ Some x → slice_get xs m ≡ Some y → x ≡ y
slice_get-same xs n m x y i e h = cc

pub among_from_Contains : (n : ℕ) (ns : List ℕ) → Contains ns n → is_among n ns ≡ true
among_from_Contains n [] c = absurd (Contains-nil n c)
among_from_Contains n (m ∷ ns) c = by (nat_eq n m) refl (among_from_Contains n ns) (Contains-cons_cases m ns n c)
  where
    by : (b : Bool) → nat_eq n m ≡ b → (Contains ns n → is_among n ns ≡ true) → (m ≡ n) ⊎ Contains ns n →
        is_some (cond (nat_eq n m) (Some m) (find (nat_eq n) ns)) ≡ true
    by true e rest k = ap (λ b. is_some (cond b (Some m) (find (nat_eq n) ns))) e
    by false e rest (inl k) = absurd (eqb-false n m e (sym k))
    by false e rest (inr k) = ap (λ b. is_some (cond b (Some m) (find (nat_eq n) ns))) e ∙ rest k

pub Contains-map : {X Y : Type 0} (f : X → Y) (xs : List X) (x : X) → Contains xs x → Contains (map f xs) (f x)
Contains-map f [] x c = absurd (Contains-nil x c)
Contains-map f (y ∷ xs) x c = elim (Contains-cons_cases y xs x c) [
  | inl e ↦ subst (λ z. Contains (f y ∷ map f xs) (f z)) e (Contains-head (f y) (map f xs))
  | inr k ↦ Contains-tail (f y) (map f xs) (f x) (Contains-map f xs x k)
]

-- an element of two lists, one behind the other, stands in the first or in the second
pub split_at : {X : Type 0} (xs ys us : List X) (y : X) (vs : List X) → xs ++ ys ≡ us ++ y ∷ vs →
    ((ws : List X) × (xs ≡ us ++ y ∷ ws)) ⊎ ((ws : List X) × (us ≡ xs ++ ws) × (ys ≡ ws ++ y ∷ vs))
split_at [] ys us y vs e = inr (us, refl, e)
split_at (x ∷ xs) ys [] y vs e = let h : x ≡ y = cc in inl (xs, ap (λ z. z ∷ xs) h)
split_at (x ∷ xs) ys (u ∷ us) y vs e =
    let h : x ≡ u = cc in
    let k : xs ++ ys ≡ us ++ y ∷ vs = cc in
    elim (split_at xs ys us y vs k) [
      | inl i ↦ let j = i.1 in inl (i.0, cc)
      | inr i ↦ let j = i.1 in inr (i.0, cc, i.2)
    ]
