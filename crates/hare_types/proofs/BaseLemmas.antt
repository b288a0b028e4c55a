-- What is kept of bases is what names and error marks leave.
use Rattle.std.proofs.Common.{◌≡◌, ℕ, zero, suc, ◌<◌, ◌≤◌, length, Option, Some, None, refl, ap, sym, ◌∙◌, subst, arith, ◌⊎◌, inl, inr}
use Rattle.std.specs.Prelude.{slice_get, slice_index_or, option_and_then}
use Rattle.std.proofs.lemmas.Option.{get_or_from_slice_get, slice_get-get_or, slice_get_within}
use Rattle.std.proofs.lemmas.Bool.{cases_lt}
use Rattle.hare_types.specs.declared.row.Row.{Row}
use Rattle.hare_types.specs.declared.row.Row.TheVariants as row
use Rattle.hare_types.specs.declared.row.Scalar.TheVariants as keyword
use Rattle.hare_types.specs.Trees.{Tree, Scalar, Error, Named}
use Rattle.hare_types.specs.Rows.{tree_in, tree_of, trees}
use Rattle.hare_types.specs.Store.{Store, tree_at, definition_of, meaning_of}
use Rattle.hare_types.specs.Sound.{IsStore}
use Rattle.hare_types.specs.Layout.{following, base_with}
use Rattle.hare_types.specs.Kept.{defined}
use Rattle.hare_types.specs.Bases.{IsBaseOf, base_over}
use Rattle.hare_types.proofs.TreeLemmas.{length-trees}
use Rattle.hare_types.proofs.CallerLemmas.{tree_at_row}

-- ---- one row

own : (m : ℕ → Option Tree) (n : ℕ) (t u : Tree) → following base_with m n t ≡ Some u → following base_with m n (Error t) ≡ Some u
own m zero t u e = e
own m (suc n) t u e = e

module _ (s : Store) (v : IsStore s) (ks : ℕ → Option ℕ) (sound : (i b : ℕ) → ks i ≡ Some b → IsBaseOf s i b) where
  itself : (t : ℕ) (r : Row) → slice_get s.rows t ≡ Some r → following base_with (meaning_of s) 0 (tree_of (trees s.rows) r) ≡ Some
      (tree_of (trees s.rows) r) → (b : ℕ) → Some t ≡ Some b → IsBaseOf s t b
  itself t r h e b f =
      let same : t ≡ b = cc in
      let tree = tree_at_row s v t r h in (
        tree_of (trees s.rows) r,
        tree_of (trees s.rows) r,
        tree,
        subst (λ n. tree_at s n ≡ Some (tree_of (trees s.rows) r)) same tree,
        (0, e),
      )

  by_mark : (t j : ℕ) → slice_get s.rows t ≡ Some (row.Error j) → (b : ℕ) → ks j ≡ Some b → IsBaseOf s t b
  by_mark t j h b e =
      let w = sound j b e in
      let tree : tree_in (trees s.rows) j ≡ w.0 = get_or_from_slice_get (trees s.rows) j w.0 (Scalar keyword.Void) w.2 in (
        Error w.0,
        w.1,
        tree_at_row s v t (row.Error j) h ∙ ap (λ u. Some (Error u)) tree,
        w.3,
        (w.4.0, own (meaning_of s) w.4.0 w.0 w.1 w.4.1),
      )

  by_name : (t d : ℕ) → slice_get s.rows t ≡ Some (row.Named d) → (b : ℕ) → option_and_then ks (definition_of s d) ≡ Some b → IsBaseOf s t b
  by_name t d h b e = by (definition_of s d) refl e
    where
      by : (o : Option ℕ) → definition_of s d ≡ o → option_and_then ks o ≡ Some b → IsBaseOf s t b
      by None k g = absurd cc
      by (Some q) k g =
          let w = sound q b g in
          let meaning : meaning_of s d ≡ Some w.0 = ap (option_and_then (tree_at s)) k ∙ w.2 in (
            Named d,
            w.1,
            tree_at_row s v t (row.Named d) h,
            w.3,
            (suc w.4.0, ap (option_and_then (following base_with (meaning_of s) w.4.0)) meaning ∙ w.4.1),
          )

  -- what follows for a row is its base
  pub base-step : (t : ℕ) (r : Row) → slice_get s.rows t ≡ Some r → (b : ℕ) → base_over (definition_of s) ks t r ≡ Some b → IsBaseOf s t b
  base-step t (row.Scalar k) h b e = itself t (row.Scalar k) h refl b e
  base-step t (row.Pointer j) h b e = itself t (row.Pointer j) h refl b e
  base-step t (row.Nullable j) h b e = itself t (row.Nullable j) h refl b e
  base-step t (row.Slice j) h b e = itself t (row.Slice j) h refl b e
  base-step t (row.Array n j) h b e = itself t (row.Array n j) h refl b e
  base-step t (row.Struct fs) h b e = itself t (row.Struct fs) h refl b e
  base-step t (row.Tuple js) h b e = itself t (row.Tuple js) h refl b e
  base-step t (row.Union js) h b e = itself t (row.Union js) h refl b e
  base-step t (row.Error j) h b e = by_mark t j h b e
  base-step t (row.Named d) h b e = by_name t d h b e

-- ---- where nothing is kept, there is no base

-- what becomes of names, where at most n names one behind another are followed
abbrev names : Store → ℕ → ℕ → Option Tree
names s zero d = None
names s (suc n) d = option_and_then (following base_with (meaning_of s) n) (meaning_of s d)

by_names : (s : Store) (n : ℕ) (u : Tree) → base_with (names s n) u ≡ following base_with (meaning_of s) n u
by_names s zero u = refl
by_names s (suc n) u = refl

module _ (s : Store) (v : IsStore s) (ks : ℕ → Option ℕ)
    (settled : (i : ℕ) (r : Row) → slice_get s.rows i ≡ Some r → ks i ≡ None → base_over (defined s.declared) ks i r ≡ None) where
  abbrev Found : ℕ → Type 0
  Found i = (b : ℕ) × (ks i ≡ Some b)

  must : (i : ℕ) (r : Row) → slice_get s.rows i ≡ Some r → (b : ℕ) → base_over (defined s.declared) ks i r ≡ Some b → Found i
  must i r here b e = by (ks i) refl
    where
      by : (o : Option ℕ) → ks i ≡ o → Found i
      by None f =
          let none = settled i r here f in
          absurd cc
      by (Some z) f = (z, f)

  abbrev Complete : ℕ → ℕ → Type 0
  Complete n b = (j : ℕ) → j < b → (u : Tree) → base_with (names s n) (tree_in (trees s.rows) j) ≡ Some u → Found j

  of_row : (n : ℕ) → ((k : ℕ) → suc k ≡ n → Complete k (length s.rows)) → (i : ℕ) (r : Row) → slice_get s.rows i ≡ Some r → Complete n i →
      (u : Tree)
      → base_with (names s n) (tree_of (trees s.rows) r) ≡ Some u → Found i
  of_row n fewer i (row.Scalar k) here below u e = must i (row.Scalar k) here i refl
  of_row n fewer i (row.Pointer j) here below u e = must i (row.Pointer j) here i refl
  of_row n fewer i (row.Nullable j) here below u e = must i (row.Nullable j) here i refl
  of_row n fewer i (row.Slice j) here below u e = must i (row.Slice j) here i refl
  of_row n fewer i (row.Array m j) here below u e = must i (row.Array m j) here i refl
  of_row n fewer i (row.Struct fs) here below u e = must i (row.Struct fs) here i refl
  of_row n fewer i (row.Tuple js) here below u e = must i (row.Tuple js) here i refl
  of_row n fewer i (row.Union js) here below u e = must i (row.Union js) here i refl
  of_row n fewer i (row.Error j) here below u e =
      let inner = below j (v.rows_sound.within i (row.Error j) here) u e in
      must i (row.Error j) here inner.0 inner.1
  of_row zero fewer i (row.Named d) here below u e = absurd cc
  of_row (suc n) fewer i (row.Named d) here below u e = by (defined s.declared d) refl e
    where
      by : (o : Option ℕ) → defined s.declared d ≡ o → option_and_then (following base_with (meaning_of s) n)
          (option_and_then (tree_at s) o) ≡ Some u → Found i
      by None f g = absurd cc
      by (Some t) f g =
          let tree : tree_at s t ≡ Some (tree_in (trees s.rows) t) =
          slice_get-get_or (trees s.rows) t (Scalar keyword.Void) (omega (arith, v.defined_within d t f, length-trees s.rows)) in
          let inner = fewer n refl t (v.defined_within d t f) u
          (by_names s n (tree_in (trees s.rows) t) ∙ sym (ap (option_and_then (following base_with (meaning_of s) n)) tree) ∙ g) in
          must i (row.Named d) here inner.0 (ap (option_and_then ks) f ∙ inner.1)

  up_to : (n : ℕ) → ((k : ℕ) → suc k ≡ n → Complete k (length s.rows)) → (b : ℕ) → b ≤ length s.rows → Complete n b
  up_to n fewer zero l j h u e = absurd (omega arith)
  up_to n fewer (suc b) l j h u e = by (up_to n fewer b (omega arith)) (cases_lt j b)
    where
      by : Complete n b → (j < b) ⊎ (b ≤ j) → Found j
      by ih (inl g) = ih j g u e
      by ih (inr g) =
          let same : b ≡ j = omega arith in
          let r = slice_index_or s.rows j (row.Scalar keyword.Void) in
          let here : slice_get s.rows j ≡ Some r = slice_get-get_or s.rows j (row.Scalar keyword.Void) (omega arith) in
          of_row n fewer j r here (subst (Complete n) same ih) u
          (sym (ap (base_with (names s n))
          (get_or_from_slice_get (trees s.rows) j (tree_of (trees s.rows) r) (Scalar keyword.Void) (tree_at_row s v j r here))) ∙ e)

  complete : (n : ℕ) → Complete n (length s.rows)
  complete zero = up_to zero (λ k e. absurd (omega arith)) (length s.rows) (omega arith)
  complete (suc n) =
      let ih = complete n in
      up_to (suc n) (λ k e. let same : n ≡ k = omega arith in subst (λ m. Complete m (length s.rows)) same ih) (length s.rows) (omega arith)

  pub none_base : (t : ℕ) → ks t ≡ None → (b : ℕ) → ¬ IsBaseOf s t b
  none_base t e b h =
      let within : t < length s.rows = omega (arith, slice_get_within (trees s.rows) t h.0 h.2, length-trees s.rows) in
      let tree = get_or_from_slice_get (trees s.rows) t h.0 (Scalar keyword.Void) h.2 in
      let found = complete h.4.0 t within h.1 (ap (base_with (names s h.4.0)) tree ∙ by_names s h.4.0 h.0 ∙ h.4.1) in
      let both : None ≡ Some found.0 = sym e ∙ found.1 in
      absurd cc
