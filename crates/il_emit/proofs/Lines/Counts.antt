-- Counts, sums and tests over lists that are put together.
use Rattle.std.proofs.Common.{◌≡◌, ℕ, ◌+◌, Bool, true, false, cond, ◌&&◌, ◌||◌, List, [], ◌∷◌, ◌++◌, map, length, refl, sym, ap, ◌∙◌, arith}
use Rattle.std.specs.Prelude.{count_by, sum_by}
use Rattle.std.specs.List.{list_all, list_any}
use Rattle.std.proofs.lemmas.Bool.{and_parts}
use Rattle.std.proofs.lemmas.List.Folds.{list_all-append}
use Rattle.std.proofs.lemmas.List.Sums.{sum_by-append}

pub both_true : (a b : Bool) → a ≡ true → b ≡ true → (a && b) ≡ true
both_true a b ha hb = rw (ha, hb) refl

pub either : (a b c d : Bool) → a ≡ c → b ≡ d → (a || b) ≡ (c || d)
either a b c d h k = rw (h, k) refl

-- what a test adds to a count
abbrev pub weight : Bool → ℕ
weight b = cond b 1 0

pub or_true : (a b : Bool) → b ≡ true → (a || b) ≡ true
or_true true b h = refl
or_true false b h = h

pub sum_cons : {A : Type 0} (f : A → ℕ) (x : A) (xs : List A) → sum_by f (x ∷ xs) ≡ f x + sum_by f xs
sum_cons f x xs = sum_by-append f (x ∷ []) xs ∙ omega arith

pub sum_map : {A B : Type 0} (q : B → ℕ) (f : A → B) (g : A → ℕ) → ((x : A) → q (f x) ≡ g x) → (xs : List A) →
    sum_by q (map f xs) ≡ sum_by g xs
sum_map q f g h [] = refl
sum_map q f g h (x ∷ xs) = sum_cons q (f x) (map f xs) ∙ omega (arith, h x, sum_map q f g h xs) ∙ sym (sum_cons g x xs)

pub sum_none : {A : Type 0} (xs : List A) → sum_by (λ (x : A). 0) xs ≡ 0
sum_none [] = refl
sum_none (x ∷ xs) = sum_cons (λ x'. 0) x xs ∙ omega (arith, sum_none xs)

sum_all : {A : Type 0} (xs : List A) → sum_by (λ (x : A). 1) xs ≡ length xs
sum_all [] = refl
sum_all (x ∷ xs) = sum_cons (λ x'. 1) x xs ∙ omega (arith, sum_all xs)

pub count_append : {A : Type 0} (q : A → Bool) (xs ys : List A) → count_by q (xs ++ ys) ≡ count_by q xs + count_by q ys
count_append q xs ys = sum_by-append (λ x. cond (q x) 1 0) xs ys

pub count_map : {A B : Type 0} (q : B → Bool) (f : A → B) (xs : List A) → count_by q (map f xs) ≡ count_by (λ x. q (f x)) xs
count_map q f xs = sum_map (λ x. cond (q x) 1 0) f (λ x. cond (q (f x)) 1 0) (λ x. refl) xs

pub count_all : {A : Type 0} (xs : List A) → count_by (λ (x : A). true) xs ≡ length xs
count_all xs = sum_all xs

pub count_none : {A : Type 0} (xs : List A) → count_by (λ (x : A). false) xs ≡ 0
count_none xs = sum_none xs

pub any_map : {A B : Type 0} (q : B → Bool) (f : A → B) (xs : List A) → list_any q (map f xs) ≡ list_any (λ x. q (f x)) xs
any_map q f [] = refl
any_map q f (x ∷ xs) = ap (λ (b : Bool). q (f x) || b) (any_map q f xs)

pub all_map : {A B : Type 0} (q : B → Bool) (f : A → B) (xs : List A) → list_all q (map f xs) ≡ list_all (λ x. q (f x)) xs
all_map q f [] = refl
all_map q f (x ∷ xs) = ap (λ (b : Bool). q (f x) && b) (all_map q f xs)

pub all_append : {A : Type 0} (q : A → Bool) (xs ys : List A) → list_all q xs ≡ true → list_all q ys ≡ true → list_all q (xs ++ ys) ≡ true
all_append q xs ys h k = list_all-append q xs ys ∙ both_true (list_all q xs) (list_all q ys) h k

pub all_same : {A : Type 0} (f g : A → Bool) → ((x : A) → f x ≡ g x) → (xs : List A) → list_all f xs ≡ list_all g xs
all_same f g h [] = refl
all_same f g h (x ∷ xs) = let a = h x in let b = all_same f g h xs in rw (a, b) refl

-- what passes one test passes another
pub all_more : {A : Type 0} (f g : A → Bool) → ((x : A) → f x ≡ true → g x ≡ true) → (xs : List A) → list_all f xs ≡ true →
    list_all g xs ≡ true
all_more f g h [] e = refl
all_more f g h (x ∷ xs) e =
    let p = and_parts (f x) (list_all f xs) e in
    both_true (g x) (list_all g xs) (h x p.0) (all_more f g h xs p.1)
