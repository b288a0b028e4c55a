-- Lists of trees of which a front has its coercions, or one of which has.
use Rattle.std.proofs.Common.{◌≡◌, ℕ, zero, suc, ◌+◌, ◌<◌, ◌≤◌, List, [], ◌∷◌, ◌++◌, length, take, drop, map, refl, ap, ◌∙◌, arith, add-one}
use Rattle.std.specs.Prelude.{slice_index_or, slice_set}
use Rattle.hare_types.specs.declared.coercion.Coercion.{Coercion}
use Rattle.hare_typed.specs.Typed.{TypedNode, typed_more, typed_nodes}
use Rattle.hare_typed.specs.Coats.{with_coercion, settled_at, coat, coat_each}

-- ---- one after another

one_more : {A : Type 0} (f : A → A) (xs : List A) (i : ℕ) (x y : A) → i < length xs →
    y ≡ f (slice_index_or (map f (take i xs) ++ drop i xs) i x) →
    slice_set (map f (take i xs) ++ drop i xs) i y ≡ map f (take (suc i) xs) ++ drop (suc i) xs
one_more f [] i x y h e = absurd (omega arith)
one_more f (z ∷ zs) zero x y h e = ap (λ a. a ∷ zs) e
one_more f (z ∷ zs) (suc i) x y h e = ap (λ l. f z ∷ l) (one_more f zs i x y (omega arith) e)

pub visits : {A : Type 0} (f : A → A) (xs ys : List A) (i : ℕ) (x y : A) → i < length xs → ys ≡ map f (take i xs) ++ drop i xs →
    y ≡ f (slice_index_or ys i x) → slice_set ys i y ≡ map f (take (i + 1) xs) ++ drop (i + 1) xs
visits f xs ys i x y h v e = rw (add-one, v) (one_more f xs i x y h (rw v at e))

visited_all : {A : Type 0} (f : A → A) (xs : List A) (i : ℕ) → length xs ≤ i → map f (take i xs) ++ drop i xs ≡ map f xs
visited_all f [] zero h = refl
visited_all f [] (suc i) h = refl
visited_all f (x ∷ xs) zero h = absurd (omega arith)
visited_all f (x ∷ xs) (suc i) h = ap (λ l. f x ∷ l) (visited_all f xs i (omega arith))

taken : {A : Type 0} (n : ℕ) (xs ys : List A) → n ≡ length xs → take n (xs ++ ys) ≡ xs
taken zero [] ys e = refl
taken (suc n) [] ys e = absurd (omega arith)
taken zero (x ∷ xs) ys e = absurd (omega arith)
taken (suc n) (x ∷ xs) ys e = ap (λ l. x ∷ l) (taken n xs ys (omega arith))

typed_nodes-map : (cs : List Coercion) (ts : List TypedNode) → typed_nodes (map (coat cs) ts) ≡ coat_each cs (typed_nodes ts)
typed_nodes-map cs [] = refl
typed_nodes-map cs (t ∷ ts) = ap (typed_more (coat cs t)) (typed_nodes-map cs ts)

-- once all trees have been visited
pub trees_coated : (cs : List Coercion) (n : ℕ) (xs ys zs : List TypedNode) (i : ℕ) (ts : List TypedNode) →
    n ≡ length ys → length xs ≤ i → ys ≡ map (coat cs) (take i xs) ++ drop i xs → xs ≡ ts →
    typed_nodes (take n (ys ++ zs)) ≡ coat_each cs (typed_nodes ts)
trees_coated cs n xs ys zs i ts e h k d =
    ap typed_nodes (taken n ys zs e ∙ k ∙ visited_all (coat cs) xs i h ∙ ap (map (coat cs)) d) ∙ typed_nodes-map cs ts

-- ---- one alone

settled_at-set : (ts : List TypedNode) (i : ℕ) (r : Coercion) (d : TypedNode) → i < length ts →
    slice_set ts i (with_coercion r (slice_index_or ts i d)) ≡ settled_at i r ts
settled_at-set [] i r d h = absurd (omega arith)
settled_at-set (t ∷ ts) zero r d h = refl
settled_at-set (t ∷ ts) (suc i) r d h = ap (λ l. t ∷ l) (settled_at-set ts i r d (omega arith))

pub settled_at-past : (ts : List TypedNode) (i : ℕ) (r : Coercion) → length ts ≤ i → ts ≡ settled_at i r ts
settled_at-past [] i r h = refl
settled_at-past (t ∷ ts) zero r h = absurd (omega arith)
settled_at-past (t ∷ ts) (suc i) r h = ap (λ l. t ∷ l) (settled_at-past ts i r (omega arith))

-- the tree at a place, with this coercion, in its own place
pub tree_settled : (ts : List TypedNode) (i : ℕ) (x y : TypedNode) (r : Coercion) → i < length ts → y ≡ with_coercion r x →
    x ≡ slice_index_or ts i x → slice_set ts i y ≡ settled_at i r ts
tree_settled ts i x y r h e d = ap (slice_set ts i) (e ∙ ap (with_coercion r) d) ∙ settled_at-set ts i r x h
