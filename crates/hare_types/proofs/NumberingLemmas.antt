-- The place of a key among keys that each stand once.
use Rattle.std.proofs.Common.{◌≡◌, ◌≢◌, ℕ, ◌+◌, ◌||◌, ◌<◌, ◌≤◌, Bool, true, false, List, [], ◌∷◌, ◌++◌, length, get_or, Some, None, not, map, refl, ap, sym, ◌∙◌, subst, arith, ◌⊎◌, inl, inr, true≢false, cond, nat_lt}
use Rattle.std.specs.Prelude.{slice_get, option_map}
use Rattle.std.specs.Bool.{Decides}
use Rattle.std.specs.List.{position, position_or_len, list_any}
use Rattle.std.proofs.lemmas.Bool.{cases_lt, lt-ltb, ltb-true}
use Rattle.std.proofs.lemmas.List.{length-map, map-append, map-id}
use Rattle.std.proofs.lemmas.List.Sums.{fails_before_first, passes_at_first, prefix_len-le-length}
use Rattle.std.proofs.lemmas.Option.{slice_get-get_or, slice_get-map, slice_get_within}
use Rattle.hare_types.specs.Numbering.{IsOnce, IsNumbered}
use Rattle.hare_types.proofs.ListLemmas.{slice_get_end, slice_get_push}

-- where no place passes, the first place that passes is behind the list
pub position_none : {K : Type 0} (test : K → Bool) (ks : List K) → None ≡ position test ks → length ks ≡ position_or_len test ks
position_none test ks e = by (cases_lt (position_or_len test ks) (length ks))
  where
    by : (position_or_len test ks < length ks) ⊎ (length ks ≤ position_or_len test ks) → length ks ≡ position_or_len test ks
    by (inr h) = omega (arith, prefix_len-le-length (λ k. not (test k)) ks)
    by (inl h) =
        let some : None ≡ Some (position_or_len test ks) =
        e ∙ ap (λ b. cond b (Some (position_or_len test ks)) None) (lt-ltb (position_or_len test ks) (length ks) h) in
        absurd cc

-- where a place of the list passes first, some key of it passes
pub some_passes : {K : Type 0} (test : K → Bool) (ks : List K) → position_or_len test ks < length ks → list_any test ks ≡ true
some_passes test [] h = absurd (omega arith)
some_passes test (k ∷ ks) h = by (some_passes test ks) (test k) h
  where
    by : (position_or_len test ks < length ks → list_any test ks ≡ true) → (b : Bool) →
        cond (not b) (1 + position_or_len test ks) 0 < length (k ∷ ks) → (b || list_any test ks) ≡ true
    by behind true l = refl
    by behind false l = behind (omega (arith, l))

-- Keys are seen through f, and the test decides which of them are seen as x.
module _ {K A : Type 0} (f : K → A) (x : A) (test : K → Bool) (decides : (k : K) → Decides (test k) (x ≡ f k)) where
  -- x stands at the first place that passes, where there is one
  pub first_place : (ks : List K) → position_or_len test ks < length ks → slice_get (map f ks) (position_or_len test ks) ≡ Some x
  first_place [] h = absurd (omega arith)
  first_place (k ∷ ks) h =
      slice_get-map f (k ∷ ks) (position_or_len test (k ∷ ks))
      ∙ ap (option_map f) (slice_get-get_or (k ∷ ks) (position_or_len test (k ∷ ks)) k h)
      ∙ ap Some (sym ((decides (get_or (k ∷ ks) (position_or_len test (k ∷ ks)) k)).0 (passes_at_first test (k ∷ ks) k h)))

  -- x stands at no place before it
  pub not_before : (ks : List K) (m : ℕ) → slice_get (map f ks) m ≡ Some x → position_or_len test ks ≤ m
  not_before [] m e = omega arith
  not_before (k ∷ ks) m e = by (cases_lt m (position_or_len test (k ∷ ks)))
    where
      by : (m < position_or_len test (k ∷ ks)) ⊎ (position_or_len test (k ∷ ks) ≤ m) → position_or_len test (k ∷ ks) ≤ m
      by (inr h) = h
      by (inl h) =
          let w : m < length (k ∷ ks) = omega (arith, slice_get_within (map f (k ∷ ks)) m x e, length-map (k ∷ ks) f) in
          let there = slice_get-map f (k ∷ ks) m ∙ ap (option_map f) (slice_get-get_or (k ∷ ks) m k w) in
          let same : x ≡ f (get_or (k ∷ ks) m k) = cc in
          absurd (true≢false (sym ((decides (get_or (k ∷ ks) m k)).1 same) ∙ fails_before_first test (k ∷ ks) m k h))

  -- x stands nowhere, where no place passes
  pub nowhere : (ks : List K) (m : ℕ) → length ks ≤ position_or_len test ks → slice_get (map f ks) m ≢ Some x
  nowhere ks m h e = omega (arith, not_before ks m e, slice_get_within (map f ks) m x e, length-map ks f)

  -- the place that a search finds
  pub position_found : (ks : List K) (i : ℕ) → Some i ≡ position test ks → slice_get (map f ks) i ≡ Some x
  position_found ks i e = by (nat_lt (position_or_len test ks) (length ks)) refl
    where
      by : (b : Bool) → nat_lt (position_or_len test ks) (length ks) ≡ b → slice_get (map f ks) i ≡ Some x
      by true h =
          let same : Some i ≡ Some (position_or_len test ks) = e ∙ ap (λ b. cond b (Some (position_or_len test ks)) None) h in
          let place : i ≡ position_or_len test ks = cc in
          rw place (first_place ks (ltb-true (position_or_len test ks) (length ks) h))
      by false h =
          let same : Some i ≡ None = e ∙ ap (λ b. cond b (Some (position_or_len test ks)) None) h in
          absurd cc

  -- where it finds none, x stands nowhere
  pub position_absent : (ks : List K) → None ≡ position test ks → (m : ℕ) → slice_get (map f ks) m ≢ Some x
  position_absent ks e m h = nowhere ks m (omega (arith, position_none test ks e)) h

  module _ (ks new : List K) (k : K) (seen : f k ≡ x) (n : ℕ) (place : n ≡ position_or_len test ks)
      (kept : n < length ks → new ≡ ks) (added : n ≡ length ks → new ≡ ks ++ k ∷ []) where
    -- the number is a place of the list as it was, or the place behind it
    old_or_new : (n < length ks) ⊎ ((n ≡ length ks) × (map f new ≡ map f ks ++ x ∷ []))
    old_or_new = by (cases_lt n (length ks))
      where
        by : (n < length ks) ⊎ (length ks ≤ n) → (n < length ks) ⊎ ((n ≡ length ks) × (map f new ≡ map f ks ++ x ∷ []))
        by (inl h) = inl h
        by (inr h) =
            let e : n ≡ length ks = omega (arith, prefix_len-le-length (λ k. not (test k)) ks) in
            inr (e, ap (map f) (added e) ∙ map-append f ks (k ∷ []) ∙ ap (λ y. map f ks ++ y ∷ []) seen)

    new_to : n ≡ length ks → (m : ℕ) → slice_get (map f ks) m ≢ Some x
    new_to h m e = nowhere ks m (omega arith) e

    at_end : n ≡ length ks → (m : ℕ) → (slice_get (map f ks) m ≡ Some x) ⊎ ((m ≡ length (map f ks)) × (x ≡ x)) → m ≡ n
    at_end h m (inl e) = absurd (new_to h m e)
    at_end h m (inr e) = omega (arith, e.0, length-map ks f)

    both : n ≡ length ks → IsOnce (map f ks) → (i j : ℕ) (y : A) → (slice_get (map f ks) i ≡ Some y) ⊎ ((i ≡ length (map f ks)) × (y ≡ x)) →
        (slice_get (map f ks) j ≡ Some y) ⊎ ((j ≡ length (map f ks)) × (y ≡ x)) → i ≡ j
    both h o i j y (inl a) (inl b) = o.once i j y a b
    both h o i j y (inl a) (inr b) = absurd (new_to h i (a ∙ ap Some b.1))
    both h o i j y (inr a) (inl b) = absurd (new_to h j (b ∙ ap Some a.1))
    both h o i j y (inr a) (inr b) = a.0 ∙ sym b.0

    -- a key that was numbered stands at its number alone
    pub numbered : IsOnce (map f ks) → IsNumbered (map f ks) (map f new) x n
    numbered o = by old_or_new
      where
        by : (n < length ks) ⊎ ((n ≡ length ks) × (map f new ≡ map f ks ++ x ∷ [])) → IsNumbered (map f ks) (map f new) x n
        by (inl h) =
            let same : map f new ≡ map f ks = ap (map f) (kept h) in
            let here : slice_get (map f ks) n ≡ Some x = rw (← place) at (first_place ks (subst (λ m. m < length ks) place h)) in
            record {
              stands = ap (λ l. slice_get l n) same ∙ here;
              only = λ m e. o.once m n x (ap (λ l. slice_get l m) (sym same) ∙ e) here;
              grows = inl same;
            }
        by (inr h) =
            let last : slice_get (map f ks ++ x ∷ []) n ≡ Some x = rw (h.0, ← length-map ks f) (slice_get_end (map f ks) x []) in
            record {
              stands = ap (λ l. slice_get l n) h.1 ∙ last;
              only = λ m e. at_end h.0 m (slice_get_push (map f ks) x m x (ap (λ l. slice_get l m) (sym h.1) ∙ e));
              grows = inr h.1;
            }

    -- and the keys go on to stand once
    pub once_more : IsOnce (map f ks) → IsOnce (map f new)
    once_more o = by old_or_new
      where
        by : (n < length ks) ⊎ ((n ≡ length ks) × (map f new ≡ map f ks ++ x ∷ [])) → IsOnce (map f new)
        by (inl h) = subst IsOnce (sym (ap (map f) (kept h))) o
        by (inr h) = record {
          once = λ i j y a b. both h.0 o i j y (slice_get_push (map f ks) x i y (ap (λ l. slice_get l i) (sym h.1) ∙ a))
              (slice_get_push (map f ks) x j y (ap (λ l. slice_get l j) (sym h.1) ∙ b));
        }

-- the same of keys that are seen as they are
module _ {A : Type 0} (eq : A → A → Bool) (decides : (x y : A) → Decides (eq x y) (x ≡ y)) (xs new : List A) (x : A) (n : ℕ)
    (place : n ≡ position_or_len (eq x) xs)
    (kept : n < length xs → new ≡ xs) (added : n ≡ length xs → new ≡ xs ++ x ∷ []) (o : IsOnce xs) where
  seen_once : IsOnce (map (λ y. y) xs)
  seen_once = rw map-id o

  pub plain_numbered : IsNumbered xs new x n
  plain_numbered = simp map-id at (numbered (λ y. y) x (eq x) (decides x) xs new x refl n place kept added seen_once)

  pub plain_once : IsOnce new
  plain_once = simp map-id at (once_more (λ y. y) x (eq x) (decides x) xs new x refl n place kept added seen_once)
