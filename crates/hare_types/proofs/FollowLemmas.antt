-- As many rows as a store has are all that need be followed, and what is found over a store is found over each that grows from it.
use Rattle.std.proofs.Common.{◌≡◌, ℕ, zero, suc, ◌+◌, ◌<◌, ◌≤◌, List, [], ◌∷◌, ◌++◌, length, Option, Some, None, refl, ap, sym, ◌∙◌, subst, arith, ◌⊎◌, inl, inr}
use Rattle.std.specs.Prelude.{slice_get, option_and_then}
use Rattle.std.proofs.lemmas.Bool.{cases_lt}
use Rattle.std.proofs.lemmas.Option.{slice_get_within}
use Rattle.hare_types.specs.declared.row.Row.{Row}
use Rattle.hare_types.specs.Numbering.{Continues}
use Rattle.hare_types.specs.Store.{Store}
use Rattle.hare_types.specs.Kept.{unknown}
use Rattle.hare_types.specs.ByIds.{row_at, found_within, found}
use Rattle.hare_types.proofs.ListLemmas.{slice_get_front, slice_get_past}
use Rattle.hare_types.proofs.GrowthLemmas.{Knows}

abbrev pub Rule : Type 0 → Type 0
Rule A = (ℕ → Option A) → ℕ → Row → Option A

-- what one rule says from less, the other says from more
abbrev pub Grows : {A : Type 0} → Rule A → Rule A → Type 0
Grows {A} rule next = (old new : ℕ → Option A) → Knows old new → (t : ℕ) (r : Row) (a : A) → rule old t r ≡ Some a → next new t r ≡ Some a

-- ---- growth

-- a row of a store is one of each store that continues it
pub row-continued : (s f : Store) → Continues s.rows f.rows → (t : ℕ) (r : Row) → row_at s t ≡ Some r → row_at f t ≡ Some r
row-continued s f c t r e = ap (λ l. slice_get l t) c.1 ∙ slice_get_front s.rows c.0 t (slice_get_within s.rows t r e) ∙ e

module _ {A : Type 0} (s f : Store) (rows : Continues s.rows f.rows) (rule next : Rule A) (grows : Grows rule next) where
  pub found_within-more : (m n : ℕ) → m ≤ n → Knows (found_within s rule m) (found_within f next n)
  found_within-more zero n h t a e = absurd cc
  found_within-more (suc m) zero h t a e = absurd (omega arith)
  found_within-more (suc m) (suc n) h t a e = by (found_within-more m n (omega arith)) (row_at s t) refl e
    where
      by : Knows (found_within s rule m) (found_within f next n) → (o : Option Row) → row_at s t ≡ o
          → option_and_then (rule (found_within s rule m) t) o ≡ Some a
          → option_and_then (next (found_within f next n) t) (row_at f t) ≡ Some a
      by ih None g k = absurd cc
      by ih (Some r) g k =
          ap (option_and_then (next (found_within f next n) t)) (row-continued s f rows t r g)
          ∙ grows (found_within s rule m) (found_within f next n) ih t r a k

pub Continues-same : {A : Type 0} (xs : List A) → Continues xs xs
Continues-same xs = ([], end xs)
  where
    end : {A : Type 0} (ys : List A) → ys ≡ ys ++ []
    end [] = refl
    end (y ∷ ys) = ap (λ l. y ∷ l) (end ys)

longer : {A : Type 0} (xs ys : List A) → Continues xs ys → length xs ≤ length ys
longer xs ys c = omega (arith, ap length c.1, length_more xs c.0)
  where
    length_more : {A : Type 0} (us vs : List A) → length us ≤ length (us ++ vs)
    length_more [] vs = omega arith
    length_more (u ∷ us) vs = let h = length_more us vs in omega arith

-- what is found stays so
pub found-more : {A : Type 0} (s f : Store) → Continues s.rows f.rows → (rule next : Rule A) → Grows rule next
    → Knows (found s rule) (found f next)
found-more s f c rule next grows = found_within-more s f c rule next grows (length s.rows) (length f.rows) (longer s.rows f.rows c)

-- ---- how many rows need be followed

module _ {A : Type 0} where
  -- what is known of the first k numbers
  table : (ℕ → Option A) → ℕ → List (Option A)
  table f zero = []
  table f (suc k) = f k ∷ table f k

  few : (f : ℕ → Option A) (k : ℕ) → unknown (table f k) ≤ k
  unfolding table
  few f zero = omega arith
  few f (suc k) = by (few f k) (f k)
    where
      by : unknown (table f k) ≤ k → (o : Option A) → unknown (o ∷ table f k) ≤ suc k
      by ih None = omega arith
      by ih (Some a) = omega arith

  -- of the first k numbers more are known by g, or the same as by f
  abbrev Gains : (f g : ℕ → Option A) → (before after : List (Option A)) → ℕ → Type 0
  Gains f g before after k = (unknown after < unknown before) ⊎ ((unknown after ≡ unknown before) × ((i : ℕ) → i < k → g i ≡ f i))

  gain : (f g : ℕ → Option A) → Knows f g → (k : ℕ) → Gains f g (table f k) (table g k) k
  unfolding table
  gain f g h zero = inr (refl, λ i l. absurd (omega arith))
  gain f g h (suc k) = by (f k) refl (g k) refl (gain f g h k)
    where
      last : g k ≡ f k → ((i : ℕ) → i < k → g i ≡ f i) → (i : ℕ) → i < suc k → g i ≡ f i
      last here rest i l = on (cases_lt i k)
        where
          on : (i < k) ⊎ (k ≤ i) → g i ≡ f i
          on (inl m) = rest i m
          on (inr m) =
              let same : k ≡ i = omega arith in
              subst (λ j. g j ≡ f j) same here

      by : (a : Option A) → f k ≡ a → (b : Option A) → g k ≡ b → Gains f g (table f k) (table g k) k
          → Gains f g (a ∷ table f k) (b ∷ table g k) (suc k)
      by None e None d (inl l) = inl (omega arith)
      by None e None d (inr l) = inr (ap suc l.0, last (d ∙ sym e) l.1)
      by None e (Some b) d (inl l) = inl (omega arith)
      by None e (Some b) d (inr l) = inl (omega (arith, l.0))
      by (Some a) e o d l = on (sym d ∙ h k a e) l
        where
          on : o ≡ Some a → Gains f g (table f k) (table g k) k → Gains f g (Some a ∷ table f k) (o ∷ table g k) (suc k)
          on p (inl m) = inl (omega (arith, ap (λ x. unknown (x ∷ table g k)) p, m))
          on p (inr m) = inr (ap (λ x. unknown (x ∷ table g k)) p ∙ m.0, last (d ∙ p ∙ sym e) m.1)

module _ {A : Type 0} (s : Store) (rule : Rule A) (grows : Grows rule rule) where
  rising : (n : ℕ) → Knows (found_within s rule n) (found_within s rule (suc n))
  rising n = found_within-more s s (Continues-same s.rows) rule rule grows n (suc n) (omega arith)

  -- nothing more is found in one more step
  abbrev Settled : ℕ → Type 0
  Settled n = (i : ℕ) → found_within s rule (suc n) i ≡ found_within s rule n i

  settled-suc : (n : ℕ) → Settled n → Settled (suc n)
  settled-suc n h i =
      let same : found_within s rule (suc n) ≡ found_within s rule n = λ k j. h j k in
      ap (λ f. option_and_then (rule f i) (row_at s i)) same

  -- of a number that is no id nothing is found
  beyond : (i : ℕ) → length s.rows ≤ i → (n : ℕ) → found_within s rule n i ≡ None
  beyond i l zero = refl
  beyond i l (suc n) = ap (option_and_then (rule (found_within s rule n) i)) (slice_get_past s.rows i l)

  settled-all : (n : ℕ) → ((i : ℕ) → i < length s.rows → found_within s rule (suc n) i ≡ found_within s rule n i) → Settled n
  settled-all n h i = by (cases_lt i (length s.rows))
    where
      by : (i < length s.rows) ⊎ (length s.rows ≤ i) → found_within s rule (suc n) i ≡ found_within s rule n i
      by (inl l) = h i l
      by (inr l) = beyond i l (suc n) ∙ sym (beyond i l n)

  -- what is known of the ids after n steps
  abbrev known_by : ℕ → List (Option A)
  known_by n = table (found_within s rule n) (length s.rows)

  gained : (n : ℕ) → Gains (found_within s rule n) (found_within s rule (suc n)) (known_by n) (known_by (suc n)) (length s.rows)
  gained n = gain (found_within s rule n) (found_within s rule (suc n)) (rising n) (length s.rows)

  -- after each step nothing more is found, or fewer are unknown
  steps : (n : ℕ) → Settled n ⊎ (unknown (known_by n) + n ≤ length s.rows)
  steps zero = inr (omega (arith, few (found_within s rule zero) (length s.rows)))
  steps (suc n) = by (steps n)
    where
      more : unknown (known_by n) + n ≤ length s.rows
          → Gains (found_within s rule n) (found_within s rule (suc n)) (known_by n) (known_by (suc n)) (length s.rows)
          → Settled (suc n) ⊎ (unknown (known_by (suc n)) + suc n ≤ length s.rows)
      more l (inl g) = inr (omega arith)
      more l (inr g) = inl (settled-suc n (settled-all n g.1))

      by : Settled n ⊎ (unknown (known_by n) + n ≤ length s.rows) → Settled (suc n) ⊎ (unknown (known_by (suc n)) + suc n ≤ length s.rows)
      by (inl h) = inl (settled-suc n h)
      by (inr l) = more l (gained n)

  -- as many steps as there are rows are enough
  enough : Settled (length s.rows)
  enough = by (steps (length s.rows))
    where
      on : unknown (known_by (length s.rows)) + length s.rows ≤ length s.rows
          → Gains (found_within s rule (length s.rows)) (found_within s rule (suc (length s.rows))) (known_by (length s.rows))
          (known_by (suc (length s.rows))) (length s.rows)
          → Settled (length s.rows)
      on l (inl g) = absurd (omega arith)
      on l (inr g) = settled-all (length s.rows) g.1

      by : Settled (length s.rows) ⊎ (unknown (known_by (length s.rows)) + length s.rows ≤ length s.rows) → Settled (length s.rows)
      by (inl h) = h
      by (inr l) = on l (gained (length s.rows))

  -- what is found of a type is what follows for its row from what is found of others
  pub found-row : (t : ℕ) (r : Row) → row_at s t ≡ Some r → found s rule t ≡ rule (found s rule) t r
  found-row t r e = sym (enough t) ∙ ap (option_and_then (rule (found s rule) t)) e
