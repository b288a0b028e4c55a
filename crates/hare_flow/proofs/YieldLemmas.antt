-- Values that were yielded, one by one.
use Rattle.std.proofs.Common.{◌≡◌, ◌≢◌, ℕ, zero, suc, ◌+◌, ◌<◌, ◌≤◌, ◌==◌, Bool, true, false, not, cond, List, [], ◌∷◌, ◌++◌, length, drop, take, get_or, refl, ap, sym, ◌∙◌, arith, add-one, drop-cons, append_assoc}
use Rattle.std.specs.Prelude.{map, filter}
use Rattle.std.specs.Cmp.{unsigned_Decides}
use Rattle.std.proofs.lemmas.List.{append-nil}
use Rattle.hare_rules.specs.Context.{Given}
use Rattle.hare_rules.specs.Flow.{Yielded, is_at}
use Rattle.hare_flow.specs.declared.yields.Handed.{Handed}
use Rattle.hare_flow.specs.declared.yields.Yield.{Yield}
use Rattle.hare_flow.specs.Seen.{given_of, yielded_of}

-- ---- lists

pub drop_get : {A : Type 0} (ys : List A) (i : ℕ) (y : A) → i < length ys → y ≡ get_or ys i y → drop i ys ≡ y ∷ drop (i + 1) ys
drop_get ys i y h e = rw add-one (drop-cons ys i y h ∙ ap (λ z. z ∷ drop (suc i) ys) (sym e))

pub drop_none : {A : Type 0} (ys : List A) (i : ℕ) → length ys ≤ i → drop i ys ≡ []
drop_none [] zero h = refl
drop_none [] (suc i) h = refl
drop_none (y ∷ ys) zero h = absurd (omega arith)
drop_none (y ∷ ys) (suc i) h = drop_none ys i (omega arith)

pub map-append : {A B : Type 0} (f : A → B) (xs ys : List A) → map f (xs ++ ys) ≡ map f xs ++ map f ys
map-append f [] ys = refl
map-append f (x ∷ xs) ys = ap (λ zs. f x ∷ zs) (map-append f xs ys)

pub same_true : (a b : ℕ) → a ≡ b → (a == b) ≡ true
same_true a b e = (unsigned_Decides a b).1 e

pub same_false : (a b : ℕ) → a ≢ b → (a == b) ≡ false
same_false a b h = by (a == b) refl
  where
    by : (c : Bool) → (a == b) ≡ c → (a == b) ≡ false
    by true e = absurd (h ((unsigned_Decides a b).0 e))
    by false e = e

-- ---- those of a level, and the others

abbrev pub given_at : ℕ → List Yield → List Given
given_at n ys = map (λ y. y.given) (filter (is_at n) (map yielded_of ys))

abbrev pub others : ℕ → List Yield → List Yielded
others n ys = filter (λ y. not (is_at n y)) (map yielded_of ys)

given_next : (n : ℕ) (y : Yield) (ys : List Yield) (b : Bool) → (y.level == n) ≡ b →
    given_at n (y ∷ ys) ≡ cond b (given_of y.handed ∷ given_at n ys) (given_at n ys)
given_next n y ys b e = ap (λ c. map (λ (z : Yielded). z.given)
    (cond c (yielded_of y ∷ filter (is_at n) (map yielded_of ys)) (filter (is_at n) (map yielded_of ys)))) e ∙ by b
  where
    by : (c : Bool) → map (λ (z : Yielded). z.given)
        (cond c (yielded_of y ∷ filter (is_at n) (map yielded_of ys)) (filter (is_at n) (map yielded_of ys)))
        ≡ cond c (given_of y.handed ∷ given_at n ys) (given_at n ys)
    by true = refl
    by false = refl

others_next : (n : ℕ) (y : Yield) (ys : List Yield) (b : Bool) → (y.level == n) ≡ b →
    others n (y ∷ ys) ≡ cond b (others n ys) (yielded_of y ∷ others n ys)
others_next n y ys b e = ap (λ c. cond (not c) (yielded_of y ∷ others n ys) (others n ys)) e ∙ by b
  where
    by : (c : Bool) → cond (not c) (yielded_of y ∷ others n ys) (others n ys) ≡ cond c (others n ys) (yielded_of y ∷ others n ys)
    by true = refl
    by false = refl

module _ (n : ℕ) (ys : List Yield) (i : ℕ) (y : Yield) (h : i < length ys) (e : y ≡ get_or ys i y) where
  pub handed_more : (gs new : List Handed) (all : List Given) → (y.level == n) ≡ true → new ≡ gs ++ y.handed ∷ []
      → map given_of gs ++ given_at n (drop i ys) ≡ all → map given_of new ++ given_at n (drop (i + 1) ys) ≡ all
  handed_more gs new all k m g =
      ap (λ (xs : List Handed). map given_of xs ++ given_at n (drop (i + 1) ys)) m
      ∙ ap (λ xs. xs ++ given_at n (drop (i + 1) ys)) (map-append given_of gs (y.handed ∷ []))
      ∙ append_assoc (map given_of gs) (given_of y.handed ∷ []) (given_at n (drop (i + 1) ys))
      ∙ sym (ap (λ xs. map given_of gs ++ xs) (ap (given_at n) (drop_get ys i y h e) ∙ given_next n y (drop (i + 1) ys) true k)) ∙ g

  pub handed_same : (gs : List Handed) (all : List Given) → (y.level == n) ≡ false → map given_of gs ++ given_at n (drop i ys) ≡ all →
      map given_of gs ++ given_at n (drop (i + 1) ys) ≡ all
  handed_same gs all k g = sym (ap (λ xs. map given_of gs ++ xs)
      (ap (given_at n) (drop_get ys i y h e) ∙ given_next n y (drop (i + 1) ys) false k)) ∙ g

  pub kept_more : (ks new : List Yield) (all : List Yielded) → (y.level == n) ≡ false → new ≡ ks ++ y ∷ []
      → map yielded_of ks ++ others n (drop i ys) ≡ all → map yielded_of new ++ others n (drop (i + 1) ys) ≡ all
  kept_more ks new all k m g =
      ap (λ (xs : List Yield). map yielded_of xs ++ others n (drop (i + 1) ys)) m
      ∙ ap (λ xs. xs ++ others n (drop (i + 1) ys)) (map-append yielded_of ks (y ∷ []))
      ∙ append_assoc (map yielded_of ks) (yielded_of y ∷ []) (others n (drop (i + 1) ys))
      ∙ sym (ap (λ xs. map yielded_of ks ++ xs) (ap (others n) (drop_get ys i y h e) ∙ others_next n y (drop (i + 1) ys) false k)) ∙ g

  pub kept_same : (ks : List Yield) (all : List Yielded) → (y.level == n) ≡ true → map yielded_of ks ++ others n (drop i ys) ≡ all →
      map yielded_of ks ++ others n (drop (i + 1) ys) ≡ all
  kept_same ks all k g = sym (ap (λ xs. map yielded_of ks ++ xs)
      (ap (others n) (drop_get ys i y h e) ∙ others_next n y (drop (i + 1) ys) true k)) ∙ g

pub handed_end : (n : ℕ) (ys : List Yield) (i : ℕ) (gs : List Handed) (all : List Given) → length ys ≤ i →
    map given_of gs ++ given_at n (drop i ys) ≡ all → map given_of gs ≡ all
handed_end n ys i gs all h g = sym (append-nil (map given_of gs)) ∙ sym (ap (λ zs. map given_of gs ++ given_at n zs) (drop_none ys i h)) ∙ g

pub kept_end : (n : ℕ) (ys : List Yield) (i : ℕ) (ks : List Yield) (all : List Yielded) → length ys ≤ i →
    map yielded_of ks ++ others n (drop i ys) ≡ all → map yielded_of ks ≡ all
kept_end n ys i ks all h g = sym (append-nil (map yielded_of ks)) ∙ sym (ap (λ zs. map yielded_of ks ++ others n zs) (drop_none ys i h)) ∙ g

-- ---- none stands in front

filter-append : {A : Type 0} (p : A → Bool) (xs ys : List A) → filter p (xs ++ ys) ≡ filter p xs ++ filter p ys
filter-append p [] ys = refl
filter-append p (x ∷ xs) ys = by (p x) (filter-append p xs ys)
  where
    by : (b : Bool) → filter p (xs ++ ys) ≡ filter p xs ++ filter p ys →
        cond b (x ∷ filter p (xs ++ ys)) (filter p (xs ++ ys)) ≡ cond b (x ∷ filter p xs) (filter p xs) ++ filter p ys
    by true e = ap (λ zs. x ∷ zs) e
    by false e = e

-- where none is, all are others
all_others : {A : Type 0} (p : A → Bool) (xs : List A) → filter p xs ≡ [] → filter (λ x. not (p x)) xs ≡ xs
all_others p [] e = refl
all_others p (x ∷ xs) e = by (all_others p xs) (p x) e
  where
    by : (filter p xs ≡ [] → filter (λ z. not (p z)) xs ≡ xs) → (b : Bool) → cond b (x ∷ filter p xs) (filter p xs) ≡ [] →
        cond (not b) (x ∷ filter (λ z. not (p z)) xs) (filter (λ z. not (p z)) xs) ≡ x ∷ xs
    by ih true g = absurd cc
    by ih false g = ap (λ zs. x ∷ zs) (ih g)

take_drop : {A : Type 0} (xs : List A) (i : ℕ) → take i xs ++ drop i xs ≡ xs
take_drop [] zero = refl
take_drop [] (suc i) = refl
take_drop (x ∷ xs) zero = refl
take_drop (x ∷ xs) (suc i) = ap (λ zs. x ∷ zs) (take_drop xs i)

map_drop : {A B : Type 0} (f : A → B) (xs : List A) (i : ℕ) → map f (drop i xs) ≡ drop i (map f xs)
map_drop f [] zero = refl
map_drop f [] (suc i) = refl
map_drop f (x ∷ xs) zero = refl
map_drop f (x ∷ xs) (suc i) = map_drop f xs i

map_take : {A B : Type 0} (f : A → B) (xs : List A) (i : ℕ) → map f (take i xs) ≡ take i (map f xs)
map_take f [] zero = refl
map_take f [] (suc i) = refl
map_take f (x ∷ xs) zero = refl
map_take f (x ∷ xs) (suc i) = ap (λ zs. f x ∷ zs) (map_take f xs i)

module _ (n : ℕ) (ys : List Yield) (i : ℕ) (none : filter (is_at n) (take i (map yielded_of ys)) ≡ []) where
  pub from_here : given_at n (drop i ys) ≡ given_at n ys
  from_here =
      ap (λ zs. map (λ (z : Yielded). z.given) (filter (is_at n) zs)) (map_drop yielded_of ys i)
      ∙ ap (λ zs. map (λ (z : Yielded). z.given) (zs ++ filter (is_at n) (drop i (map yielded_of ys)))) (sym none)
      ∙ ap (map (λ (z : Yielded). z.given)) (sym (filter-append (is_at n) (take i (map yielded_of ys)) (drop i (map yielded_of ys))) ∙ ap
      (filter (is_at n)) (take_drop (map yielded_of ys) i))

  pub kept_here : map yielded_of (take i ys) ++ others n (drop i ys) ≡ others n ys
  kept_here =
      ap (λ zs. zs ++ others n (drop i ys)) (map_take yielded_of ys i)
      ∙ ap (λ zs. take i (map yielded_of ys) ++ filter (λ z. not (is_at n z)) zs) (map_drop yielded_of ys i)
      ∙ ap (λ zs. zs ++ filter (λ z. not (is_at n z)) (drop i (map yielded_of ys)))
      (sym (all_others (is_at n) (take i (map yielded_of ys)) none))
      ∙ sym (filter-append (λ z. not (is_at n z)) (take i (map yielded_of ys)) (drop i (map yielded_of ys))) ∙ ap
      (filter (λ z. not (is_at n z))) (take_drop (map yielded_of ys) i)

pub handed_from : (n : ℕ) (zs ys : List Yield) (i : ℕ) (vs : List Yielded) → zs ≡ ys → map yielded_of ys ≡ vs →
    filter (is_at n) (take i vs) ≡ [] → given_at n (drop i zs) ≡ map (λ y. y.given) (filter (is_at n) vs)
handed_from n zs ys i vs e h k =
    ap (λ us. given_at n (drop i us)) e ∙ from_here n ys i (ap (λ us. filter (is_at n) (take i us)) h ∙ k) ∙ ap
    (λ us. map (λ (y : Yielded). y.given) (filter (is_at n) us)) h

pub taken_from : (n : ℕ) (ys new : List Yield) (i : ℕ) (vs : List Yielded) → map yielded_of ys ≡ vs → filter (is_at n) (take i vs) ≡ []
    → map yielded_of new ≡ map yielded_of (take i ys) ++ others n (drop i ys) → map yielded_of new ≡ filter (λ y. not (is_at n y)) vs
taken_from n ys new i vs h k e =
    e ∙ kept_here n ys i (ap (λ us. filter (is_at n) (take i us)) h ∙ k) ∙ ap (filter (λ (y : Yielded). not (is_at n y))) h
