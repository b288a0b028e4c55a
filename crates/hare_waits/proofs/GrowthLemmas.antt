-- Extents stay as a store grows.
use Rattle.std.proofs.Common.{◌≡◌, ℕ, zero, suc, ◌<◌, ◌≤◌, List, [], ◌∷◌, ◌++◌, length, map, Option, Some, None, refl, ap, ◌∙◌, arith, length-append}
use Rattle.std.specs.Prelude.{slice_get, option_map, option_and_then}
use Rattle.std.proofs.lemmas.Option.{slice_get_within}
use Rattle.hare_types.specs.declared.extent.Extent.{Extent}
use Rattle.hare_types.specs.declared.row.Row.{Row}
use Rattle.hare_types.specs.declared.row.Row.TheVariants as row
use Rattle.hare_types.specs.Store.{Store, definition_of}
use Rattle.hare_types.specs.Kept.{all_known}
use Rattle.hare_types.specs.ByIds.{row_at, found_within, bytes_over, extent_at}
use Rattle.hare_types.specs.Later.{IsLater}

-- where one answers, so does the other, and the same
abbrev Knows : {A : Type 0} → (ℕ → Option A) → (ℕ → Option A) → Type 0
Knows {A} old new = (i : ℕ) (a : A) → old i ≡ Some a → new i ≡ Some a

mapped-more : {A B : Type 0} (f : A → B) (o p : Option A) → ((a : A) → o ≡ Some a → p ≡ Some a) → (b : B) → option_map f o ≡ Some b →
    option_map f p ≡ Some b
mapped-more f None p h b e = absurd cc
mapped-more f (Some a) p h b e = ap (option_map f) (h a refl) ∙ e

chained-more : {A B : Type 0} (f g : A → Option B) → ((a : A) (b : B) → f a ≡ Some b → g a ≡ Some b) → (o p : Option A)
    → ((a : A) → o ≡ Some a → p ≡ Some a) → (b : B) → option_and_then f o ≡ Some b → option_and_then g p ≡ Some b
chained-more f g k None p h b e = absurd cc
chained-more f g k (Some a) p h b e = ap (option_and_then g) (h a refl) ∙ k a b e

all_known-more : (old new : ℕ → Option Extent) → Knows old new → (is : List ℕ) (xs : List Extent) → all_known old is ≡ Some xs →
    all_known new is ≡ Some xs
all_known-more old new k [] xs e = e
all_known-more old new k (i ∷ is) xs e =
    chained-more (λ x. option_map (λ ys. x ∷ ys) (all_known old is)) (λ x. option_map (λ ys. x ∷ ys) (all_known new is))
    (λ x. mapped-more (λ ys. x ∷ ys) (all_known old is) (all_known new is) (all_known-more old new k is)) (old i) (new i) (k i) xs e

module _ (was is : ℕ → Option ℕ) (defines : Knows was is) (old new : ℕ → Option Extent) (k : Knows old new) where
  bytes_over-more : (t : ℕ) (r : Row) (x : Extent) → bytes_over was old t r ≡ Some x → bytes_over is new t r ≡ Some x
  bytes_over-more t (row.Scalar w) x e = e
  bytes_over-more t (row.Pointer i) x e = e
  bytes_over-more t (row.Nullable i) x e = e
  bytes_over-more t (row.Slice i) x e = e
  bytes_over-more t (row.Array n i) x e = mapped-more _ (old i) (new i) (k i) x e
  bytes_over-more t (row.Struct fs) x e = mapped-more _ (all_known old (map (λ f. f.ty) fs)) (all_known new (map (λ f. f.ty) fs))
      (all_known-more old new k (map (λ f. f.ty) fs)) x e
  bytes_over-more t (row.Tuple is) x e = mapped-more _ (all_known old is) (all_known new is) (all_known-more old new k is) x e
  bytes_over-more t (row.Union is) x e = mapped-more _ (all_known old is) (all_known new is) (all_known-more old new k is) x e
  bytes_over-more t (row.Error i) x e = k i x e
  bytes_over-more t (row.Named d) x e = chained-more old new k (was d) (is d) (defines d) x e

-- ---- of stores

get-front : {A : Type 0} (xs ys : List A) (i : ℕ) → i < length xs → slice_get (xs ++ ys) i ≡ slice_get xs i
get-front [] ys i h = absurd (omega arith)
get-front (x ∷ xs) ys zero h = refl
get-front (x ∷ xs) ys (suc i) h = get-front xs ys i (omega arith)

module _ (s f : Store) (l : IsLater s f) where
  -- rows stay
  pub row_stays : (t : ℕ) (r : Row) → row_at s t ≡ Some r → row_at f t ≡ Some r
  row_stays t r e = ap (λ rs. slice_get rs t) l.grows.rows.1 ∙ get-front s.rows l.grows.rows.0 t (slice_get_within s.rows t r e) ∙ e

  pub rows_same : (t : ℕ) → t < length s.rows → row_at f t ≡ row_at s t
  rows_same t h = ap (λ rs. slice_get rs t) l.grows.rows.1 ∙ get-front s.rows l.grows.rows.0 t h

  pub rows_more : length s.rows ≤ length f.rows
  rows_more = omega (arith, ap length l.grows.rows.1, length-append s.rows l.grows.rows.0)

  found-more : (m n : ℕ) → m ≤ n → Knows (found_within s (bytes_over (definition_of s)) m) (found_within f (bytes_over (definition_of f)) n)
  found-more zero n h t x e = absurd cc
  found-more (suc m) zero h t x e = absurd (omega arith)
  found-more (suc m) (suc n) h t x e =
      chained-more (bytes_over (definition_of s) (found_within s (bytes_over (definition_of s)) m) t)
      (bytes_over (definition_of f) (found_within f (bytes_over (definition_of f)) n) t)
      (bytes_over-more (definition_of s) (definition_of f) l.grows.defined (found_within s (bytes_over (definition_of s)) m)
      (found_within f (bytes_over (definition_of f)) n)
      (found-more m n (omega arith)) t) (row_at s t) (row_at f t) (row_stays t) x e

  -- extents stay
  pub extent_stays : (t : ℕ) (x : Extent) → extent_at s t ≡ Some x → extent_at f t ≡ Some x
  extent_stays = found-more (length s.rows) (length f.rows) rows_more
