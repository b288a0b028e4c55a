-- Lists of which elements are read one by one, and answers.
use Rattle.std.proofs.Common.{◌≡◌, ℕ, zero, suc, ◌+◌, ◌<◌, List, [], ◌∷◌, ◌++◌, length, map, drop, Some, Result, Ok, Err, refl, sym, ap, ◌∙◌, arith}
use Rattle.std.proofs.Common.{add-one, zero-add}
use Rattle.std.specs.Prelude.{slice_get, IfOk}
use Rattle.std.proofs.lemmas.List.{drop_all}
use Rattle.hare_typed.specs.Typed.{TypedNode}
use Rattle.hare_typed.specs.Order.{tree_from_front, backwards}
use Rattle.hare_rules.specs.Aggregates.{but_last}

-- ---- elements

pub within-there : {A : Type 0} (xs : List A) (i : ℕ) (x : A) → slice_get xs i ≡ Some x → i < length xs
within-there [] i x e = absurd cc
within-there (y ∷ ys) zero x e = omega arith
within-there (y ∷ ys) (suc i) x e = let h = within-there ys i x e in omega arith

-- the next of the elements that are left, and those behind it
drop-behind : {A : Type 0} (xs : List A) (i : ℕ) (x : A) → slice_get xs i ≡ Some x → drop i xs ≡ x ∷ drop (suc i) xs
drop-behind [] i x e = absurd cc
drop-behind (y ∷ ys) zero x e = let h : y ≡ x = cc in ap (λ z. z ∷ ys) h
drop-behind (y ∷ ys) (suc i) x e = drop-behind ys i x e

pub drop-next : {A : Type 0} (xs : List A) (i : ℕ) (x : A) → slice_get xs i ≡ Some x → drop i xs ≡ x ∷ drop (i + 1) xs
drop-next xs i x e = rw add-one (drop-behind xs i x e)

-- what is left behind some and then some more
pub drop-more : {A : Type 0} (n k : ℕ) (xs : List A) → drop (n + k) xs ≡ drop k (drop n xs)
drop-more zero k xs = ap (λ i. drop i xs) (zero-add k)
drop-more (suc n) k [] = drop_all (suc n + k) [] (omega arith) ∙ sym (drop_all k [] (omega arith))
drop-more (suc n) k (x ∷ xs) =
    let e : suc n + k ≡ suc (n + k) = omega arith in
    ap (λ i. drop i (x ∷ xs)) e ∙ drop-more n k xs

-- ---- the first and the last tree

-- what is read there stands first of those that are left
pub first-there : (ts : List TypedNode) (i : ℕ) (x : TypedNode) → slice_get ts i ≡ Some x → tree_from_front 0 (drop i ts) ≡ x
first-there [] i x e = absurd cc
first-there (y ∷ ys) zero x e = cc
first-there (y ∷ ys) (suc i) x e = first-there ys i x e

-- the last stands first of those before it and itself, backwards
backwards-last : (ts : List TypedNode) (i : ℕ) (x : TypedNode) → slice_get ts i ≡ Some x → suc i ≡ length ts →
    (ys : List TypedNode) × (backwards ts ≡ x ∷ ys)
backwards-last [] i x e l = absurd cc
backwards-last (y ∷ []) zero x e l = let h : y ≡ x = cc in ([], ap (λ z. z ∷ []) h)
backwards-last (y ∷ z ∷ zs) zero x e l = absurd (omega arith)
backwards-last (y ∷ ys) (suc i) x e l =
    let h = backwards-last ys i x e (omega arith) in
    (h.0 ++ y ∷ [], ap (λ us. us ++ y ∷ []) h.1)

-- with nothing behind it, what is read is the last
pub last-there : (ts : List TypedNode) (i : ℕ) (x : TypedNode) → slice_get ts i ≡ Some x → suc i ≡ length ts →
    tree_from_front 0 (backwards ts) ≡ x
last-there ts i x e l = ap (tree_from_front 0) (backwards-last ts i x e l).1

pub but_last-append : {A : Type 0} (xs : List A) (x : A) → but_last (xs ++ x ∷ []) ≡ xs
but_last-append [] x = refl
but_last-append (a ∷ []) x = refl
but_last-append (a ∷ b ∷ ys) x = ap (λ zs. a ∷ zs) (but_last-append (b ∷ ys) x)

-- the last of some trees with one more
pub backwards-append : (xs : List TypedNode) (x : TypedNode) → backwards (xs ++ x ∷ []) ≡ x ∷ backwards xs
backwards-append [] x = refl
backwards-append (a ∷ xs) x = ap (λ ys. ys ++ a ∷ []) (backwards-append xs x)

pub last-append : (xs : List TypedNode) (x : TypedNode) → tree_from_front 0 (backwards (xs ++ x ∷ [])) ≡ x
last-append xs x = ap (tree_from_front 0) (backwards-append xs x)

pub map-map : {A B C : Type 0} (f : A → B) (g : B → C) (xs : List A) → map g (map f xs) ≡ map (λ x. g (f x)) xs
map-map f g [] = refl
map-map f g (x ∷ xs) = ap (λ ys. g (f x) ∷ ys) (map-map f g xs)

-- ---- answers

-- what holds of an answer that is there
pub ok-map : {A E : Type 0} (P Q : A → Type 0) (r : Result A E) → ((x : A) → P x → Q x) → IfOk r P → IfOk r Q
ok-map P Q (Ok x) f h = f x h
ok-map P Q (Err e) f h = tt
