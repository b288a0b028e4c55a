-- Elements of lists that are made of lists.
use Rattle.std.proofs.Common.{◌≡◌, ℕ, ◌<◌, List, [], ◌∷◌, ◌++◌, ◌⊎◌, inl, inr, Bool, true, false, length, get_or, slice_get, fold, filter, flat_map, Some, refl, sym, subst, zero, suc, arith}
use Rattle.std.specs.Prelude.{Contains}
use Rattle.std.proofs.lemmas.List.Elements.{Contains-append_left}
use Rattle.hare_graph.proofs.Elements.{Contains-none, Contains-cases, Contains-here, Contains-behind}

-- ---- elements

-- what is true of some element of a list
abbrev pub SomeOf : {A : Type 0} → (A → Type 0) → List A → Type 0
SomeOf {A} P xs = (x : A) × Contains xs x × P x

pub some-behind : {A : Type 0} (P : A → Type 0) (y : A) (ys : List A) → SomeOf P ys → SomeOf P (y ∷ ys)
some-behind P y ys s = (s.0, Contains-behind y s.0 ys s.1, s.2)

pub Contains-left : {A : Type 0} (x : A) (xs ys : List A) → Contains xs x → Contains (xs ++ ys) x
Contains-left x xs ys c = Contains-append_left xs ys x c

pub Contains-right : {A : Type 0} (x : A) (xs ys : List A) → Contains ys x → Contains (xs ++ ys) x
Contains-right x [] ys c = c
Contains-right x (z ∷ zs) ys c = Contains-behind z x (zs ++ ys) (Contains-right x zs ys c)

pub Contains-either : {A : Type 0} (x : A) (xs ys : List A) → Contains (xs ++ ys) x → Contains xs x ⊎ Contains ys x
Contains-either x [] ys c = inr c
Contains-either {A} x (z ∷ zs) ys c = by (λ d. Contains-either x zs ys d) (Contains-cases z x (zs ++ ys) c)
  where
    onward : Contains zs x ⊎ Contains ys x → Contains (z ∷ zs) x ⊎ Contains ys x
    onward (inl d) = inl (Contains-behind z x zs d)
    onward (inr d) = inr d

    by : (Contains (zs ++ ys) x → Contains zs x ⊎ Contains ys x) → (z ≡ x) ⊎ Contains (zs ++ ys) x → Contains (z ∷ zs) x ⊎ Contains ys x
    by r (inl e) = inl (subst (λ y. Contains (z ∷ zs) y) e (Contains-here z zs))
    by r (inr d) = onward (r d)

-- an element where it was read
pub Contains-read : {A : Type 0} (xs : List A) (i : ℕ) (x : A) → i < length xs → x ≡ get_or xs i x → Contains xs x
Contains-read xs i x l e = (i, l, sym e)

pub Contains-there : {A : Type 0} (xs : List A) (i : ℕ) (x : A) → slice_get xs i ≡ Some x → Contains xs x
Contains-there [] i x e = absurd cc
Contains-there (y ∷ ys) zero x e = let h : y ≡ x = cc in subst (λ z. Contains (y ∷ ys) z) h (Contains-here y ys)
Contains-there (y ∷ ys) (suc i) x e = Contains-behind y x ys (Contains-there ys i x e)

pub there-within : {A : Type 0} (xs : List A) (i : ℕ) (x : A) → slice_get xs i ≡ Some x → i < length xs
there-within [] i x e = absurd cc
there-within (y ∷ ys) zero x e = omega arith
there-within (y ∷ ys) (suc i) x e = let l : i < length ys = there-within ys i x e in omega arith

pub there-below : {A : Type 0} (xs : List A) (i : ℕ) → i < length xs → (x : A) × (slice_get xs i ≡ Some x)
there-below [] i l = absurd (omega arith)
there-below (y ∷ ys) zero l = (y, refl)
there-below (y ∷ ys) (suc i) l = there-below ys i (omega arith)

-- ---- filters and joined lists

pub Contains-filter : {A : Type 0} (p : A → Bool) (xs : List A) (x : A) → Contains xs x → p x ≡ true → Contains (filter p xs) x
Contains-filter p [] x c e = absurd (Contains-none x c)
Contains-filter {A} p (y ∷ ys) x c e = by (λ d. Contains-filter p ys x d e) (Contains-cases y x ys c) (p y) refl
  where
    by : (Contains ys x → Contains (filter p ys) x) → (y ≡ x) ⊎ Contains ys x → (b : Bool) → p y ≡ b → Contains (filter p (y ∷ ys)) x
    by r (inl h) true k = rw k (subst (λ z. Contains (y ∷ filter p ys) z) h (Contains-here y (filter p ys)))
    by r (inl h) false k = let f : p x ≡ false = subst (λ z. p z ≡ false) h k in absurd cc
    by r (inr d) true k = rw k (Contains-behind y x (filter p ys) (r d))
    by r (inr d) false k = rw k (r d)

pub filter-from : {A : Type 0} (p : A → Bool) (xs : List A) (x : A) → Contains (filter p xs) x → Contains xs x × (p x ≡ true)
filter-from p [] x c = absurd (Contains-none x c)
filter-from {A} p (y ∷ ys) x c = by (λ d. filter-from p ys x d) (p y) refl
  where
    onward : Contains ys x × (p x ≡ true) → Contains (y ∷ ys) x × (p x ≡ true)
    onward d = (Contains-behind y x ys d.0, d.1)

    here : (Contains (filter p ys) x → Contains ys x × (p x ≡ true)) → p y ≡ true → (y ≡ x) ⊎ Contains (filter p ys) x →
        Contains (y ∷ ys) x × (p x ≡ true)
    here r k (inl h) = (subst (λ z. Contains (y ∷ ys) z) h (Contains-here y ys), subst (λ z. p z ≡ true) h k)
    here r k (inr d) = onward (r d)

    by : (Contains (filter p ys) x → Contains ys x × (p x ≡ true)) → (b : Bool) → p y ≡ b → Contains (y ∷ ys) x × (p x ≡ true)
    by r true k = let d : Contains (y ∷ filter p ys) x = rw k at c in here r k (Contains-cases y x (filter p ys) d)
    by r false k = let d : Contains (filter p ys) x = rw k at c in onward (r d)

pub Contains-flat_map : {A B : Type 0} (f : A → List B) (xs : List A) (x : A) (y : B) → Contains xs x → Contains (f x) y →
    Contains (flat_map f xs) y
Contains-flat_map f [] x y c d = absurd (Contains-none x c)
Contains-flat_map {A} {B} f (z ∷ zs) x y c d = by (λ e. Contains-flat_map f zs x y e d) (Contains-cases z x zs c)
  where
    by : (Contains zs x → Contains (flat_map f zs) y) → (z ≡ x) ⊎ Contains zs x → Contains (f z ++ flat_map f zs) y
    by r (inl h) = Contains-left y (f z) (flat_map f zs) (subst (λ w. Contains (f w) y) (sym h) d)
    by r (inr e) = Contains-right y (f z) (flat_map f zs) (r e)

pub flat_map-from : {A B : Type 0} (f : A → List B) (xs : List A) (y : B) → Contains (flat_map f xs) y → SomeOf (λ x. Contains (f x) y) xs
flat_map-from f [] y c = absurd (Contains-none y c)
flat_map-from {A} {B} f (z ∷ zs) y c = by (λ d. flat_map-from f zs y d) (Contains-either y (f z) (flat_map f zs) c)
  where
    by : (Contains (flat_map f zs) y → SomeOf (λ x. Contains (f x) y) zs) → Contains (f z) y ⊎ Contains (flat_map f zs) y →
        SomeOf (λ x. Contains (f x) y) (z ∷ zs)
    by r (inl d) = (z, Contains-here z zs, d)
    by r (inr d) = some-behind (λ x. Contains (f x) y) z zs (r d)

-- ---- lists that grow by each of a list

module _ {A B : Type 0} (f : List B → A → List B) (Adds : A → B → Type 0) where
  -- each adds just these, behind what was there
  pub record Grows : Type 0 where
    pub keeps : (es : List B) (a : A) (x : B) → Contains es x → Contains (f es a) x
    pub adds : (es : List B) (a : A) (x : B) → Adds a x → Contains (f es a) x
    pub only : (es : List B) (a : A) (x : B) → Contains (f es a) x → Contains es x ⊎ Adds a x

  pub fold-keeps : Grows → (as' : List A) (es : List B) (x : B) → Contains es x → Contains (fold f es as') x
  fold-keeps g [] es x c = c
  fold-keeps g (a ∷ as') es x c = fold-keeps g as' (f es a) x (g.keeps es a x c)

  pub fold-adds : Grows → (as' : List A) (es : List B) (x : B) → SomeOf (λ a. Adds a x) as' → Contains (fold f es as') x
  fold-adds g [] es x s = absurd (Contains-none s.0 s.1)
  fold-adds g (a ∷ as') es x s = by (λ c. fold-adds g as' (f es a) x (s.0, c, s.2)) (Contains-cases a s.0 as' s.1)
    where
      by : (Contains as' s.0 → Contains (fold f (f es a) as') x) → (a ≡ s.0) ⊎ Contains as' s.0 → Contains (fold f (f es a) as') x
      by r (inl e) = fold-keeps g as' (f es a) x (g.adds es a x (subst (λ b. Adds b x) (sym e) s.2))
      by r (inr c) = r c

  pub fold-only : Grows → (as' : List A) (es : List B) (x : B) → Contains (fold f es as') x → Contains es x ⊎ SomeOf (λ a. Adds a x) as'
  fold-only g [] es x c = inl c
  fold-only g (a ∷ as') es x c = by (fold-only g as' (f es a) x c)
    where
      first : Contains es x ⊎ Adds a x → Contains es x ⊎ SomeOf (λ b. Adds b x) (a ∷ as')
      first (inl d) = inl d
      first (inr d) = inr (a, Contains-here a as', d)

      by : Contains (f es a) x ⊎ SomeOf (λ b. Adds b x) as' → Contains es x ⊎ SomeOf (λ b. Adds b x) (a ∷ as')
      by (inl d) = first (g.only es a x d)
      by (inr s) = inr (some-behind (λ b. Adds b x) a as' s)
