-- Which of two elements of a list stands before the other.
use Rattle.std.proofs.Common.{◌≡◌, ◌⊎◌, inl, inr, ℕ, ◌<◌, ◌||◌, List, [], ◌∷◌, ◌++◌, Bool, true, false, map, slice_get, Some, refl, ap, ◌∙◌, subst, suc, zero, arith, if◌then◌else◌}
use Rattle.std.specs.Prelude.{Contains}
use Rattle.std.specs.List.{list_any}
use Rattle.hare_graph.proofs.Elements.{Contains-none, Contains-cases, Contains-here, Contains-behind}
use Rattle.hare_depends.proofs.ListLemmas.{Contains-left, Contains-right, Contains-either, Contains-there}
use Rattle.hare_modules.specs.Repeated.{repeated_behind}

-- the first stands before the second in the list
abbrev pub Precedes : {A : Type 0} → List A → A → A → Type 0
Precedes [] x y = ⊥
Precedes (z ∷ zs) x y = ((z ≡ x) × Contains zs y) ⊎ Precedes zs x y

pub precedes-at : {A : Type 0} (xs : List A) (i j : ℕ) (x y : A) → i < j → slice_get xs i ≡ Some x → slice_get xs j ≡ Some y →
    Precedes xs x y
precedes-at [] i j x y l e f = absurd cc
precedes-at (z ∷ zs) i zero x y l e f = absurd (omega (arith, l))
precedes-at (z ∷ zs) zero (suc j) x y l e f = let q : z ≡ x = cc in inl (q, Contains-there zs j y f)
precedes-at (z ∷ zs) (suc i) (suc j) x y l e f = inr (precedes-at zs i j x y (omega (arith, l)) e f)

-- in two lists, one behind the other: both in the first, both in the second, or one in each
pub precedes-append : {A : Type 0} (xs ys : List A) (x y : A) → Precedes (xs ++ ys) x y →
    Precedes xs x y ⊎ ((Contains xs x × Contains ys y) ⊎ Precedes ys x y)
precedes-append [] ys x y p = inr (inr p)
precedes-append {A} (z ∷ zs) ys x y (inl p) = by (Contains-either y zs ys p.1)
  where
    by : Contains zs y ⊎ Contains ys y → Precedes (z ∷ zs) x y ⊎ ((Contains (z ∷ zs) x × Contains ys y) ⊎ Precedes ys x y)
    by (inl c) = inl (inl (p.0, c))
    by (inr c) = inr (inl (subst (λ w. Contains (z ∷ zs) w) p.0 (Contains-here z zs), c))
precedes-append {A} (z ∷ zs) ys x y (inr p) = by (precedes-append zs ys x y p)
  where
    by : Precedes zs x y ⊎ ((Contains zs x × Contains ys y) ⊎ Precedes ys x y) →
        Precedes (z ∷ zs) x y ⊎ ((Contains (z ∷ zs) x × Contains ys y) ⊎ Precedes ys x y)
    by (inl q) = inl (inr q)
    by (inr (inl q)) = inr (inl (Contains-behind z x zs q.0, q.1))
    by (inr (inr q)) = inr (inr q)

pub precedes-left : {A : Type 0} (xs ys : List A) (x y : A) → Precedes xs x y → Precedes (xs ++ ys) x y
precedes-left [] ys x y p = absurd p
precedes-left (z ∷ zs) ys x y (inl p) = inl (p.0, Contains-left y zs ys p.1)
precedes-left (z ∷ zs) ys x y (inr p) = inr (precedes-left zs ys x y p)

pub precedes-right : {A : Type 0} (xs ys : List A) (x y : A) → Precedes ys x y → Precedes (xs ++ ys) x y
precedes-right [] ys x y p = p
precedes-right (z ∷ zs) ys x y p = inr (precedes-right zs ys x y p)

pub precedes-across : {A : Type 0} (xs ys : List A) (x y : A) → Contains xs x → Contains ys y → Precedes (xs ++ ys) x y
precedes-across [] ys x y c d = absurd (Contains-none x c)
precedes-across {A} (z ∷ zs) ys x y c d = by (λ e. precedes-across zs ys x y e d) (Contains-cases z x zs c)
  where
    by : (Contains zs x → Precedes (zs ++ ys) x y) → (z ≡ x) ⊎ Contains zs x → Precedes (z ∷ zs ++ ys) x y
    by go (inl e) = inl (e, Contains-right y zs ys d)
    by go (inr e) = inr (go e)

pub Contains-map : {A B : Type 0} (f : A → B) (xs : List A) (x : A) → Contains xs x → Contains (map f xs) (f x)
Contains-map f [] x c = absurd (Contains-none x c)
Contains-map {A} {B} f (z ∷ zs) x c = by (λ d. Contains-map f zs x d) (Contains-cases z x zs c)
  where
    by : (Contains zs x → Contains (map f zs) (f x)) → (z ≡ x) ⊎ Contains zs x → Contains (f z ∷ map f zs) (f x)
    by go (inl e) = subst (λ w. Contains (f z ∷ map f zs) (f w)) e (Contains-here (f z) (map f zs))
    by go (inr d) = Contains-behind (f z) (f x) (map f zs) (go d)

pub precedes-map : {A B : Type 0} (f : A → B) (xs : List A) (x y : A) → Precedes xs x y → Precedes (map f xs) (f x) (f y)
precedes-map f [] x y p = absurd p
precedes-map f (z ∷ zs) x y (inl p) = inl (ap f p.0, Contains-map f zs y p.1)
precedes-map f (z ∷ zs) x y (inr p) = inr (precedes-map f zs x y p)

pub precedes-contained : {A : Type 0} (xs : List A) (x y : A) → Precedes xs x y → Contains xs x × Contains xs y
precedes-contained [] x y p = absurd p
precedes-contained (z ∷ zs) x y (inl p) = (subst (λ w. Contains (z ∷ zs) w) p.0 (Contains-here z zs), Contains-behind z y zs p.1)
precedes-contained (z ∷ zs) x y (inr p) =
    let c = precedes-contained zs x y p in (Contains-behind z x zs c.0, Contains-behind z y zs c.1)

-- ---- repeated elements

abbrev SomeIn : {A : Type 0} → List A → Type 0
SomeIn {A} xs = (x : A) × Contains xs x

list_any-contained : {A : Type 0} (p : A → Bool) (xs : List A) (x : A) → Contains xs x → p x ≡ true → list_any p xs ≡ true
list_any-contained p [] x c e = absurd (Contains-none x c)
list_any-contained {A} p (z ∷ zs) x c e = by (λ d. list_any-contained p zs x d e) (Contains-cases z x zs c)
  where
    either : (a b : Bool) → b ≡ true → (a || b) ≡ true
    either true b h = refl
    either false b h = h

    first : (a b : Bool) → a ≡ true → (a || b) ≡ true
    first true b h = refl
    first false b h = absurd cc

    by : (Contains zs x → list_any p zs ≡ true) → (z ≡ x) ⊎ Contains zs x → (p z || list_any p zs) ≡ true
    by go (inl h) = first (p z) (list_any p zs) (ap p h ∙ e)
    by go (inr d) = either (p z) (list_any p zs) (go d)

-- an element that clashes with one before it is repeated
clashes-behind : {A : Type 0} (clash : A → A → Bool) (before xs : List A) (x y : A) → Contains before x → Contains xs y → clash x y ≡ true →
    SomeIn (repeated_behind clash before xs)
clashes-behind clash before [] x y b c e = absurd (Contains-none y c)
clashes-behind {A} clash before (z ∷ zs) x y b c e =
    by (λ d. clashes-behind clash (before ++ z ∷ []) zs x y (Contains-left x before (z ∷ []) b) d e) (Contains-cases z y zs c)
  where
    own : List A
    own = if list_any (λ a. clash a z) before then z ∷ [] else []

    there : list_any (λ a. clash a z) before ≡ true → Contains own z
    there h = rw h (Contains-here z [])

    by : (Contains zs y → SomeIn (repeated_behind clash (before ++ z ∷ []) zs)) → (z ≡ y) ⊎ Contains zs y →
        SomeIn (own ++ repeated_behind clash (before ++ z ∷ []) zs)
    by go (inl h) =
        let any = list_any-contained (λ a. clash a z) before x b (ap (clash x) h ∙ e) in
        (z, Contains-left z own (repeated_behind clash (before ++ z ∷ []) zs) (there any))
    by go (inr d) = let s = go d in (s.0, Contains-right s.0 own (repeated_behind clash (before ++ z ∷ []) zs) s.1)

pub repeated-precedes : {A : Type 0} (clash : A → A → Bool) (before xs : List A) (x y : A) → Precedes xs x y → clash x y ≡ true →
    SomeIn (repeated_behind clash before xs)
repeated-precedes clash before [] x y p e = absurd p
repeated-precedes {A} clash before (z ∷ zs) x y (inl p) e =
    let s = clashes-behind clash (before ++ z ∷ []) zs x y
    (Contains-right x before (z ∷ []) (subst (λ w. Contains (z ∷ []) w) p.0 (Contains-here z []))) p.1 e in
    (s.0, Contains-right s.0 (if list_any (λ a. clash a z) before then z ∷ [] else []) (repeated_behind clash (before ++ z ∷ []) zs) s.1)
repeated-precedes {A} clash before (z ∷ zs) x y (inr p) e =
    let s = repeated-precedes clash (before ++ z ∷ []) zs x y p e in
    (s.0, Contains-right s.0 (if list_any (λ a. clash a z) before then z ∷ [] else []) (repeated_behind clash (before ++ z ∷ []) zs) s.1)
