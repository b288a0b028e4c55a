-- The first element that passes a test.
use Rattle.std.proofs.Common.{◌≡◌, ℕ, ◌+◌, List, [], ◌∷◌, ◌++◌, Bool, true, false, cond, not, ◌&&◌, length, map, filter, find, bytes_eq, Option, Some, None, refl, sym, ap, ◌∙◌, true≢false, suc, add-zero, arith}
use Rattle.std.specs.Prelude.{option_map, option_and_then}
use Rattle.std.specs.Option.{option_or}
use Rattle.std.specs.List.{enumerate_from}
use Rattle.std.proofs.lemmas.Slice.Eq.{bytes_eq-Decides}
use Rattle.hare_modules.specs.Declarations.{firsts}

pub names-symmetric : (x y : List ℕ) → bytes_eq x y ≡ bytes_eq y x
names-symmetric x y = by (bytes_eq x y) refl (bytes_eq y x) refl
  where
    by : (a : Bool) → bytes_eq x y ≡ a → (b : Bool) → bytes_eq y x ≡ b → a ≡ b
    by true e true f = refl
    by false e false f = refl
    by true e false f = let s : bytes_eq y x ≡ true = (bytes_eq-Decides y x).1 (sym ((bytes_eq-Decides x y).0 e)) in absurd
        (true≢false (sym s ∙ f))
    by false e true f = let s : bytes_eq x y ≡ true = (bytes_eq-Decides x y).1 (sym ((bytes_eq-Decides y x).0 f)) in absurd
        (true≢false (sym s ∙ e))

pub find-map : {A B : Type 0} (p : B → Bool) (f : A → B) (xs : List A) → find p (map f xs) ≡ option_map f (find (λ x. p (f x)) xs)
find-map p f [] = refl
find-map {A} {B} p f (x ∷ xs) = by (p (f x)) (find-map p f xs)
  where
    by : (b : Bool) → find p (map f xs) ≡ option_map f (find (λ y. p (f y)) xs) →
        cond b (Some (f x)) (find p (map f xs)) ≡ option_map f (cond b (Some x) (find (λ y. p (f y)) xs))
    by true h = refl
    by false h = h

pub find-filter : {A : Type 0} (p q : A → Bool) (xs : List A) → find p (filter q xs) ≡ find (λ x. q x && p x) xs
find-filter p q [] = refl
find-filter {A} p q (x ∷ xs) = by (q x) (find-filter p q xs)
  where
    by : (b : Bool) → find p (filter q xs) ≡ find (λ y. q y && p y) xs →
        find p (cond b (x ∷ filter q xs) (filter q xs)) ≡ cond (b && p x) (Some x) (find (λ y. q y && p y) xs)
    by true h = ap (λ o. cond (p x) (Some x) o) h
    by false h = h

-- what passes is kept
pub find-kept : {A : Type 0} (p q : A → Bool) (kept : (x : A) → p x ≡ true → q x ≡ true) (xs : List A) → find p (filter q xs) ≡ find p xs
find-kept p q kept [] = refl
find-kept {A} p q kept (x ∷ xs) = by (q x) refl (p x) refl (find-kept p q kept xs)
  where
    by : (b : Bool) → q x ≡ b → (c : Bool) → p x ≡ c → find p (filter q xs) ≡ find p xs →
        find p (cond b (x ∷ filter q xs) (filter q xs)) ≡ cond c (Some x) (find p xs)
    by true e c d h = ap (λ b. cond b (Some x) (find p (filter q xs))) d ∙ ap (λ o. cond c (Some x) o) h
    by false e false d h = h
    by false e true d h = absurd (true≢false (sym (kept x d) ∙ e))

-- of those with one name the first is found
pub find-firsts : {A : Type 0} (name : A → List ℕ) (y : List ℕ) (xs : List A) →
    find (λ a. bytes_eq (name a) y) (firsts name xs) ≡ find (λ a. bytes_eq (name a) y) xs
find-firsts name y [] = refl
find-firsts {A} name y (x ∷ xs) = by (bytes_eq (name x) y) refl (find-firsts name y xs)
  where
    is_y : A → Bool
    is_y a = bytes_eq (name a) y

    kept : bytes_eq (name x) y ≡ false → (a : A) → bytes_eq (name a) y ≡ true → not (bytes_eq (name x) (name a)) ≡ true
    kept e a h = by-same (bytes_eq (name x) (name a)) refl
      where
        by-same : (b : Bool) → bytes_eq (name x) (name a) ≡ b → not b ≡ true
        by-same false d = refl
        by-same true d =
            let s : bytes_eq (name x) y ≡ true = (bytes_eq-Decides (name x) y).1
            ((bytes_eq-Decides (name x) (name a)).0 d ∙ (bytes_eq-Decides (name a) y).0 h) in
            absurd (true≢false (sym s ∙ e))

    by : (b : Bool) → bytes_eq (name x) y ≡ b → find (λ a. bytes_eq (name a) y) (firsts name xs) ≡ find (λ a. bytes_eq (name a) y) xs →
        cond b (Some x) (find (λ a. bytes_eq (name a) y) (filter (λ a. not (bytes_eq (name x) (name a))) (firsts name xs))) ≡ cond b
        (Some x) (find (λ a. bytes_eq (name a) y) xs)
    by true e h = refl
    by false e h = find-kept (λ a. bytes_eq (name a) y) (λ a. not (bytes_eq (name x) (name a))) (kept e) (firsts name xs) ∙ h

pub option_or-none : {A : Type 0} (o : Option A) → option_or o None ≡ o
option_or-none None = refl
option_or-none (Some a) = refl

pub option_map-or : {A B : Type 0} (f : A → B) (o p : Option A) → option_map f (option_or o p) ≡ option_or (option_map f o) (option_map f p)
option_map-or f None p = refl
option_map-or f (Some a) p = refl

-- what the first that passes gives, where each that passes gives something
abbrev pub found : {A B : Type 0} → (A → Bool) → (A → Option B) → List A → Option B
found p f xs = option_and_then f (find p xs)

pub found-append : {A B : Type 0} (p : A → Bool) (f : A → Option B) (gives : (x : A) → p x ≡ true → (b : B) × (f x ≡ Some b))
    (xs ys : List A) →
    found p f (xs ++ ys) ≡ option_or (found p f xs) (found p f ys)
found-append p f gives [] ys = refl
found-append {A} {B} p f gives (x ∷ xs) ys = by (p x) refl (found-append p f gives xs ys)
  where
    by : (b : Bool) → p x ≡ b → found p f (xs ++ ys) ≡ option_or (found p f xs) (found p f ys) →
        option_and_then f (cond b (Some x) (find p (xs ++ ys))) ≡ option_or (option_and_then f (cond b (Some x) (find p xs))) (found p f ys)
    by true e h = let g = gives x e in g.1 ∙ ap (λ o. option_or o (found p f ys)) (sym g.1)
    by false e h = h

pub enumerate_from-append : {A : Type 0} (n : ℕ) (xs ys : List A) →
    enumerate_from n (xs ++ ys) ≡ enumerate_from n xs ++ enumerate_from (n + length xs) ys
enumerate_from-append n [] ys = rw add-zero refl
enumerate_from-append n (x ∷ xs) ys =
    let e : n + 1 + length xs ≡ n + suc (length xs) = omega arith in
    ap (λ zs. (n, x) ∷ zs) (enumerate_from-append (n + 1) xs ys ∙ ap (λ k. enumerate_from (n + 1) xs ++ enumerate_from k ys) e)
