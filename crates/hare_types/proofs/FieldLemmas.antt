-- The places of the fields of one struct, entered from the last to the first.
use Rattle.std.proofs.Common.{◌≡◌, ◌≢◌, ℕ, zero, suc, ◌+◌, ◌<◌, ◌≤◌, ◌==◌, ◌&&◌, Bool, true, false, not, cond, nat_eq, nat_lt, List, [], ◌∷◌, ◌++◌, length, length-append, drop, get_or, Option, Some, None, refl, ap, ap₂, sym, ◌∙◌, subst, arith, ◌⊎◌, inl, inr}
use Rattle.std.specs.Prelude.{position, slice_get, option_map, option_and_then}
use Rattle.std.specs.List.{position_or_len}
use Rattle.std.specs.Map.{lookup}
use Rattle.std.specs.Cmp.{unsigned_Decides}
use Rattle.std.proofs.Math.Seq.{drop-cons}
use Rattle.std.proofs.lemmas.Bool.{cases_lt, lt-ltb, le-ltb, ltb-true, ltb-false}
use Rattle.hare_types.specs.declared.fields.FieldName.{FieldName}
use Rattle.hare_types.specs.declared.lists.Field.{Field}
use Rattle.hare_types.specs.declared.row.Row.{Row}
use Rattle.hare_types.specs.ByIds.{field_in}
use Rattle.hare_types.specs.Fields.{same_name, place_of, KeepsFields}
use Rattle.hare_types.proofs.ListLemmas.{slice_get_front, slice_get_past, slice_get_push}
use Rattle.hare_types.proofs.ChainLemmas.{equal_or_not}

-- ---- the first place of a longer list

position-cons : {A : Type 0} (p : A → Bool) (x : A) (xs : List A)
    → position p (x ∷ xs) ≡ cond (p x) (Some 0) (option_map suc (position p xs))
position-cons p x xs = by (p x) (nat_lt (position_or_len p xs) (length xs)) refl
  where
    by : (b c : Bool) → nat_lt (position_or_len p xs) (length xs) ≡ c
        → cond (nat_lt (cond (not b) (1 + position_or_len p xs) 0) (suc (length xs))) (Some (cond (not b) (1 + position_or_len p xs) 0))
        None
        ≡ cond b (Some 0) (option_map suc (cond c (Some (position_or_len p xs)) None))
    by true c e = ap (λ d. cond d (Some 0) None) (lt-ltb 0 (suc (length xs)) (omega arith))
    by false true e =
        let l = ltb-true (position_or_len p xs) (length xs) e in
        let one : 1 + position_or_len p xs ≡ suc (position_or_len p xs) = omega arith in
        ap (λ d. cond d (Some (1 + position_or_len p xs)) None) (lt-ltb (1 + position_or_len p xs) (suc (length xs)) (omega arith))
        ∙ ap Some one
    by false false e =
        let l = ltb-false (position_or_len p xs) (length xs) e in
        ap (λ d. cond d (Some (1 + position_or_len p xs)) None) (le-ltb (1 + position_or_len p xs) (suc (length xs)) (omega arith))

-- ---- what is entered once the fields from i on are

pub record AreEntered (old new : List (FieldName × ℕ)) (t : ℕ) (fs : List Field) (i : ℕ) : Type 0 where
  pub here : (name : ℕ) → place_of new t name ≡ option_map (λ p. i + p) (position (λ f. f.name == name) (drop i fs))
  pub there : (u name : ℕ) → u ≢ t → place_of new u name ≡ place_of old u name

-- none yet
pub entered-none : (old : List (FieldName × ℕ)) (t : ℕ) (fs : List Field) (i : ℕ) → length fs ≤ i
    → ((name : ℕ) → place_of old t name ≡ None) → AreEntered old old t fs i
entered-none old t fs i l none =
    record {
      here = λ name. none name ∙ sym (ap (λ gs. option_map (λ p. i + p) (position (λ f. f.name == name) gs)) (past fs i l));
      there =
          λ u name h. refl;
    }
  where
    past : (gs : List Field) (k : ℕ) → length gs ≤ k → drop k gs ≡ []
    past [] zero h = refl
    past [] (suc k) h = refl
    past (g ∷ gs) zero h = absurd (omega arith)
    past (g ∷ gs) (suc k) h = past gs k (omega arith)

-- one more
module _ (old mid new : List (FieldName × ℕ)) (t : ℕ) (fs : List Field) (i n : ℕ) (f : Field) (within : i < length fs)
    (here : f ≡ get_or fs i f) (next : n ≡ i + 1)
    (put : (q : FieldName) → lookup (same_name q) new ≡ cond (same_name (record { of = t; name = (get_or fs i f).name }) q) (Some i)
    (lookup (same_name q) mid)) (before : AreEntered old mid t fs n) where
  split : drop i fs ≡ f ∷ drop n fs
  split =
      let one : suc i ≡ n = omega (arith, next) in
      drop-cons fs i f within ∙ ap₂ (λ g k. g ∷ drop k fs) (sym here) one

  put_field : (q : FieldName) → lookup (same_name q) new ≡ cond (same_name (record { of = t; name = f.name }) q) (Some i)
      (lookup (same_name q) mid)
  put_field q = put q ∙ ap (λ g. cond (same_name (record { of = t; name = g.name }) q) (Some i) (lookup (same_name q) mid)) (sym here)

  shifted : (o : Option ℕ) → option_map (λ p. n + p) o ≡ option_map (λ p. i + p) (option_map suc o)
  shifted None = refl
  shifted (Some p) = ap Some (omega (arith, next))

  place_here : (name : ℕ) → place_of new t name ≡ option_map (λ p. i + p) (position (λ g. g.name == name) (drop i fs))
  place_here name =
      let own : nat_eq t t ≡ true = (unsigned_Decides t t).1 refl in
      put_field (record { of = t; name = name })
      ∙ ap (λ b. cond (b && (f.name == name)) (Some i) (place_of mid t name)) own
      ∙ by (f.name == name) refl
      ∙ sym (ap (λ gs. option_map (λ p. i + p) (position (λ g. g.name == name) gs)) split)
    where
      by : (b : Bool) → (f.name == name) ≡ b
          → cond b (Some i) (place_of mid t name) ≡ option_map (λ p. i + p) (position (λ g. g.name == name) (f ∷ drop n fs))
      by true e =
          let first = position-cons (λ g. g.name == name) f (drop n fs) ∙ ap
          (λ b. cond b (Some 0) (option_map suc (position (λ g. g.name == name) (drop n fs)))) e in
          ap Some (omega arith) ∙ sym (ap (option_map (λ p. i + p)) first)
      by false e =
          let rest = position-cons (λ g. g.name == name) f (drop n fs) ∙ ap
          (λ b. cond b (Some 0) (option_map suc (position (λ g. g.name == name) (drop n fs)))) e in
          before.here name ∙ shifted (position (λ g. g.name == name) (drop n fs)) ∙ sym (ap (option_map (λ p. i + p)) rest)

  place_there : (u name : ℕ) → u ≢ t → place_of new u name ≡ place_of old u name
  place_there u name other = put_field (record { of = u; name = name }) ∙ by (nat_eq t u) refl
    where
      by : (b : Bool) → nat_eq t u ≡ b → cond (b && (f.name == name)) (Some i) (place_of mid u name) ≡ place_of old u name
      by true e = absurd (other (sym ((unsigned_Decides t u).0 e)))
      by false e = before.there u name other

  pub entered-more : AreEntered old new t fs i
  entered-more = record { here = place_here; there = place_there }

-- all
pub entered-all : (old new : List (FieldName × ℕ)) (t : ℕ) (fs : List Field) → AreEntered old new t fs 0 → (name : ℕ)
    → place_of new t name ≡ position (λ f. f.name == name) fs
entered-all old new t fs h name = h.here name ∙ none (position (λ f. f.name == name) fs)
  where
    none : (o : Option ℕ) → option_map (λ p. 0 + p) o ≡ o
    none None = refl
    none (Some p) = ap Some (omega arith)

-- ---- a row was taken in, or was there

module _ (rows new : List Row) (r : Row) (here : ℕ) (last : here ≡ length rows) (grows : (new ≡ rows) ⊎ (new ≡ rows ++ r ∷ [])) where
  -- behind the rows there is at most that row
  pub row_behind : (q : Row) → slice_get new here ≡ Some q → q ≡ r
  row_behind q e = by grows
    where
      none : slice_get rows here ≡ None
      none = slice_get_past rows here (omega (arith, last))

      push : (slice_get rows here ≡ Some q) ⊎ ((here ≡ length rows) × (q ≡ r)) → q ≡ r
      push (inl h) =
          let both : None ≡ Some q = sym none ∙ h in
          absurd cc
      push (inr h) = h.1

      by : (new ≡ rows) ⊎ (new ≡ rows ++ r ∷ []) → q ≡ r
      by (inl f) =
          let both : None ≡ Some q = sym none ∙ ap (λ l. slice_get l here) (sym f) ∙ e in
          absurd cc
      by (inr f) = push (slice_get_push rows r here q (ap (λ l. slice_get l here) (sym f) ∙ e))

  -- and all others are as they were
  row_elsewhere : (t : ℕ) → t ≢ here → slice_get new t ≡ slice_get rows t
  row_elsewhere t other = by grows (cases_lt t (length rows))
    where
      by : (new ≡ rows) ⊎ (new ≡ rows ++ r ∷ []) → (t < length rows) ⊎ (length rows ≤ t) → slice_get new t ≡ slice_get rows t
      by (inl f) h = ap (λ l. slice_get l t) f
      by (inr f) (inl h) = ap (λ l. slice_get l t) f ∙ slice_get_front rows (r ∷ []) t h
      by (inr f) (inr h) =
          let past : length rows < t = grind (arith, other, last, h) in
          let more : length (rows ++ r ∷ []) ≤ t = omega (arith, past, length-append rows (r ∷ [])) in
          ap (λ l. slice_get l t) f ∙ slice_get_past (rows ++ r ∷ []) t more ∙ sym (slice_get_past rows t h)

  pub KeepsFields-taken : (old es : List (FieldName × ℕ)) → KeepsFields rows old
      → ((name : ℕ) → place_of es here name ≡ option_and_then (field_in name) (slice_get new here))
      → ((u name : ℕ) → u ≢ here → place_of es u name ≡ place_of old u name) → KeepsFields new es
  KeepsFields-taken old es k own others t name = by (equal_or_not t here)
    where
      by : (t ≡ here) ⊎ (¬ (t ≡ here)) → place_of es t name ≡ option_and_then (field_in name) (slice_get new t)
      by (inl e) = subst (λ u. place_of es u name ≡ option_and_then (field_in name) (slice_get new u)) (sym e) (own name)
      by (inr e) = others t name e ∙ k t name ∙ ap (option_and_then (field_in name)) (sym (row_elsewhere t e))

-- no field is entered of a row behind the rows
pub none_behind : (rows : List Row) (here : ℕ) → here ≡ length rows → (old : List (FieldName × ℕ)) → KeepsFields rows old → (name : ℕ)
    → place_of old here name ≡ None
none_behind rows here last old k name = k here name ∙ ap (option_and_then (field_in name)) (slice_get_past rows here (omega (arith, last)))

-- of no rows no field is entered
pub KeepsFields-empty : (rows : List Row) (es : List (FieldName × ℕ)) → rows ≡ [] → es ≡ [] → KeepsFields rows es
KeepsFields-empty rows es e f t name = ap (λ l. place_of l t name) f ∙ sym (ap (λ l. option_and_then (field_in name) (slice_get l t)) e)
