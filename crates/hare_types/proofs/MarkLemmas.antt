-- What an error mark marks.
use Rattle.std.proofs.Common.{◌≡◌, ℕ, ◌<◌, Bool, false, List, Option, Some, None, refl, ap, sym, ◌∙◌}
use Rattle.std.specs.Prelude.{slice_get, option_and_then}
use Rattle.std.specs.Option.{unwrap_or}
use Rattle.hare_types.specs.declared.row.Row.{Row}
use Rattle.hare_types.specs.declared.row.Row.TheVariants as row
use Rattle.hare_types.specs.declared.declared.Declared.{Declared}
use Rattle.hare_types.specs.ByIds.{sized_over, sized_at, has_size_at}
use Rattle.hare_types.specs.Marks.{marked_in, sized_in}
use Rattle.hare_types.specs.Rows.{IsWithin}
use Rattle.hare_types.specs.Store.{Store, sized_of}
use Rattle.hare_types.proofs.IdLemmas.{no_row, sized-row}

marked_row : (r : Row) (j : ℕ) → marked_in r ≡ Some j → r ≡ row.Error j
marked_row (row.Error i) j e = cc
marked_row (row.Scalar k) j e = absurd cc
marked_row (row.Pointer i) j e = absurd cc
marked_row (row.Nullable i) j e = absurd cc
marked_row (row.Slice i) j e = absurd cc
marked_row (row.Array n i) j e = absurd cc
marked_row (row.Struct fs) j e = absurd cc
marked_row (row.Tuple is) j e = absurd cc
marked_row (row.Union is) j e = absurd cc
marked_row (row.Named d) j e = absurd cc

pub marked_at_row : (rows : List Row) (t j : ℕ) → Some j ≡ option_and_then marked_in (slice_get rows t)
    → slice_get rows t ≡ Some (row.Error j)
marked_at_row rows t j e = by (slice_get rows t) refl e
  where
    by : (o : Option Row) → slice_get rows t ≡ o → Some j ≡ option_and_then marked_in o → slice_get rows t ≡ Some (row.Error j)
    by None f g = absurd cc
    by (Some r) f g = f ∙ ap Some (marked_row r j (sym g))

-- what is marked stands before its mark
pub marked_before : (rows : List Row) → ((i : ℕ) (r : Row) → slice_get rows i ≡ Some r → IsWithin i r) → (t j : ℕ)
    → Some j ≡ option_and_then marked_in (slice_get rows t) → j < t
marked_before rows within t j e = within t (row.Error j) (marked_at_row rows t j e)

-- and has a size where the type with its mark has one
pub marked_sized : (rows : List Row) (t j : ℕ) → Some j ≡ option_and_then marked_in (slice_get rows t) → (s : Store) → s.rows ≡ rows
    → sized_at s j ≡ sized_at s t
marked_sized rows t j e s same = sym (sized-row s t (row.Error j) (ap (λ l. slice_get l t) same ∙ marked_at_row rows t j e))

-- ---- whether a type has a size

module _ (rows : List Row) (es : List (ℕ × Declared)) (t u : ℕ) (s : Store) (of : s.rows ≡ rows) (by_names : s.declared ≡ es)
    (same : sized_at s u ≡ sized_at s t) where
  pub size_of_row : (r : Row) → slice_get rows u ≡ Some r → (b : Bool)
      → ((ks : ℕ → Option Bool) (i : ℕ) → b ≡ unwrap_or (sized_over (sized_in es) ks i r) false) → b ≡ has_size_at s t
  size_of_row r here b value =
      value (sized_at s) u ∙ ap (λ l. unwrap_or (sized_over (sized_in l) (sized_at s) u r) false) (sym by_names)
      ∙ ap (λ o. unwrap_or o false) (sym (sized-row s u r (ap (λ l. slice_get l u) of ∙ here)) ∙ same)

  pub size_of_none : slice_get rows u ≡ None → false ≡ has_size_at s t
  size_of_none gone = ap (λ o. unwrap_or o false) (sym (none (sized_at s u) refl) ∙ same)
    where
      none : (o : Option Bool) → sized_at s u ≡ o → sized_at s u ≡ None
      none None e = e
      none (Some b) e = absurd (no_row s (sized_over (sized_of s)) u (ap (λ l. slice_get l u) of ∙ gone) b e)
