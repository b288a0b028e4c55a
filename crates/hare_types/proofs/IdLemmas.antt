-- What types are by their ids is what they are as trees.
use Rattle.std.proofs.Common.{◌≡◌, ℕ, zero, suc, ◌+◌, ◌*◌, ◌<◌, ◌≤◌, Bool, nat_eq, List, [], ◌∷◌, length, map, Option, Some, None, refl, ap, sym, ◌∙◌, subst, arith, ◌⊎◌, inl, inr}
use Rattle.std.specs.Prelude.{◌↔◌, slice_get, slice_index_or, option_map, option_and_then, position}
use Rattle.std.specs.Cmp.{unsigned_Decides}
use Rattle.std.proofs.lemmas.Bool.{cases_lt}
use Rattle.std.proofs.lemmas.List.{map-id}
use Rattle.std.proofs.lemmas.Option.{slice_get-get_or, get_or_from_slice_get, slice_get_within}
use Rattle.hare_types.specs.declared.extent.Extent.{Extent}
use Rattle.hare_types.specs.declared.row.Row.{Row}
use Rattle.hare_types.specs.declared.row.Row.TheVariants as row
use Rattle.hare_types.specs.declared.row.Scalar.TheVariants as keyword
use Rattle.hare_types.specs.Keys.{row_eq}
use Rattle.hare_types.specs.KeyLaws.{row_eq-Decides}
use Rattle.hare_types.specs.Trees.{Tree, Scalar, Named, trees_of, Same}
use Rattle.hare_types.specs.Rows.{tree_in, tree_of, trees}
use Rattle.hare_types.specs.Store.{Store, tree_at, sized_of, definition_of, meaning_of}
use Rattle.hare_types.specs.Sound.{IsStore}
use Rattle.hare_types.specs.ByValue.{has_size}
use Rattle.hare_types.specs.Layout.{fields_extent, union_extent, following, base_with, error_with, IsError, extent_with, extents_with}
use Rattle.hare_types.specs.Kept.{LiesIn, told, IsTold, all_known, extent_over}
use Rattle.hare_types.specs.Bases.{IsBaseOf, base_over}
use Rattle.hare_types.specs.ByIds.{row_at, found_within, found, base_at, error_over, marked_at, sized_over, sized_at, bytes_over, extent_at, tag_at}
use Rattle.hare_types.specs.Unions.{id_of}
use Rattle.hare_types.proofs.TreeLemmas.{length-trees}
use Rattle.hare_types.proofs.SameLemmas.{Same-refl}
use Rattle.hare_types.proofs.NumberingLemmas.{position_found, position_absent}
use Rattle.hare_types.proofs.CallerLemmas.{tree_at_row, one_id}
use Rattle.hare_types.proofs.GrowthLemmas.{Knows, option_map-more, option_and_then-more, base_with-more, extent_with-more, following-further}
use Rattle.hare_types.proofs.FollowLemmas.{Grows, found-row}
use Rattle.hare_types.proofs.KeptLemmas.{names, by_names, names-further, parts_of_struct, none_lies}
use Rattle.hare_types.proofs.BaseLemmas.{base-step, none_base}

-- ---- rules say more where more is known

pub base_over-grows : (f g : ℕ → Option ℕ) → Knows f g → Grows (base_over f) (base_over g)
base_over-grows f g k old new h t (row.Error j) a e = h j a e
base_over-grows f g k old new h t (row.Named d) a e = option_and_then-more old new h (f d) (g d) (k d) a e
base_over-grows f g k old new h t (row.Scalar w) a e = e
base_over-grows f g k old new h t (row.Pointer j) a e = e
base_over-grows f g k old new h t (row.Nullable j) a e = e
base_over-grows f g k old new h t (row.Slice j) a e = e
base_over-grows f g k old new h t (row.Array n j) a e = e
base_over-grows f g k old new h t (row.Struct fs) a e = e
base_over-grows f g k old new h t (row.Tuple js) a e = e
base_over-grows f g k old new h t (row.Union js) a e = e

pub error_over-grows : (f g : ℕ → Option ℕ) → Knows f g → Grows (error_over f) (error_over g)
error_over-grows f g k old new h t (row.Error j) a e = e
error_over-grows f g k old new h t (row.Named d) a e = option_and_then-more old new h (f d) (g d) (k d) a e
error_over-grows f g k old new h t (row.Scalar w) a e = e
error_over-grows f g k old new h t (row.Pointer j) a e = e
error_over-grows f g k old new h t (row.Nullable j) a e = e
error_over-grows f g k old new h t (row.Slice j) a e = e
error_over-grows f g k old new h t (row.Array n j) a e = e
error_over-grows f g k old new h t (row.Struct fs) a e = e
error_over-grows f g k old new h t (row.Tuple js) a e = e
error_over-grows f g k old new h t (row.Union js) a e = e

pub sized_over-grows : (f g : ℕ → Option Bool) → Knows f g → Grows (sized_over f) (sized_over g)
sized_over-grows f g k old new h t (row.Error j) a e = h j a e
sized_over-grows f g k old new h t (row.Named d) a e = k d a e
sized_over-grows f g k old new h t (row.Scalar w) a e = e
sized_over-grows f g k old new h t (row.Pointer j) a e = e
sized_over-grows f g k old new h t (row.Nullable j) a e = e
sized_over-grows f g k old new h t (row.Slice j) a e = e
sized_over-grows f g k old new h t (row.Array n j) a e = e
sized_over-grows f g k old new h t (row.Struct fs) a e = e
sized_over-grows f g k old new h t (row.Tuple js) a e = e
sized_over-grows f g k old new h t (row.Union js) a e = e

pub all_known-grows : (old new : ℕ → Option Extent) → Knows old new → Knows (all_known old) (all_known new)
all_known-grows old new h [] xs e = e
all_known-grows old new h (i ∷ is) xs e =
    option_and_then-more (λ x. option_map (λ ys. x ∷ ys) (all_known old is)) (λ x. option_map (λ ys. x ∷ ys) (all_known new is))
    (λ x. option_map-more (λ ys. x ∷ ys) (all_known old is) (all_known new is) (all_known-grows old new h is)) (old i) (new i) (h i) xs e

pub bytes_over-grows : (f g : ℕ → Option ℕ) → Knows f g → Grows (bytes_over f) (bytes_over g)
bytes_over-grows f g k old new h t (row.Error j) a e = h j a e
bytes_over-grows f g k old new h t (row.Named d) a e = option_and_then-more old new h (f d) (g d) (k d) a e
bytes_over-grows f g k old new h t (row.Scalar w) a e = e
bytes_over-grows f g k old new h t (row.Pointer j) a e = e
bytes_over-grows f g k old new h t (row.Nullable j) a e = e
bytes_over-grows f g k old new h t (row.Slice j) a e = e
bytes_over-grows f g k old new h t (row.Array n j) a e = option_map-more _ (old j) (new j) (h j) a e
bytes_over-grows f g k old new h t (row.Struct fs) a e = option_map-more _ (all_known old (map (λ f. f.ty) fs))
    (all_known new (map (λ f. f.ty) fs)) (all_known-grows old new h (map (λ f. f.ty) fs)) a e
bytes_over-grows f g k old new h t (row.Tuple js) a e =
    option_map-more _ (all_known old js) (all_known new js) (all_known-grows old new h js) a e
bytes_over-grows f g k old new h t (row.Union js) a e =
    option_map-more _ (all_known old js) (all_known new js) (all_known-grows old new h js) a e

-- ---- by one row

pub base-row : (s : Store) (t : ℕ) (r : Row) → row_at s t ≡ Some r → base_at s t ≡ base_over (definition_of s) (base_at s) t r
base-row s = found-row s (base_over (definition_of s)) (base_over-grows (definition_of s) (definition_of s) (λ d t e. e))

pub marked-row : (s : Store) (t : ℕ) (r : Row) → row_at s t ≡ Some r → marked_at s t ≡ error_over (definition_of s) (marked_at s) t r
marked-row s = found-row s (error_over (definition_of s)) (error_over-grows (definition_of s) (definition_of s) (λ d t e. e))

pub sized-row : (s : Store) (t : ℕ) (r : Row) → row_at s t ≡ Some r → sized_at s t ≡ sized_over (sized_of s) (sized_at s) t r
sized-row s = found-row s (sized_over (sized_of s)) (sized_over-grows (sized_of s) (sized_of s) (λ d b e. e))

pub extent-row : (s : Store) (t : ℕ) (r : Row) → row_at s t ≡ Some r → extent_at s t ≡ bytes_over (definition_of s) (extent_at s) t r
extent-row s = found-row s (bytes_over (definition_of s)) (bytes_over-grows (definition_of s) (definition_of s) (λ d t e. e))

-- ---- ids and trees

-- there is no row where there is no tree
pub row_of_tree : (s : Store) (t : ℕ) (u : Tree) → tree_at s t ≡ Some u → (r : Row) × (row_at s t ≡ Some r)
row_of_tree s t u e =
    let within : t < length s.rows = omega (arith, slice_get_within (trees s.rows) t u e, length-trees s.rows) in
    (slice_index_or s.rows t (row.Scalar keyword.Void), slice_get-get_or s.rows t (row.Scalar keyword.Void) within)

-- nothing is found of what is no id
pub no_row : {A : Type 0} (s : Store) (rule : (ℕ → Option A) → ℕ → Row → Option A) (t : ℕ) → row_at s t ≡ None → (a : A)
    → ¬ (found s rule t ≡ Some a)
no_row s rule t g a e = by (length s.rows) e
  where
    by : (n : ℕ) → found_within s rule n t ≡ Some a → ⊥
    by zero k = absurd cc
    by (suc n) k =
        let both : None ≡ Some a = sym (ap (option_and_then (rule (found_within s rule n) t)) g) ∙ k in
        absurd cc

-- ---- where no extent follows, none is told

pub none_map : {A B : Type 0} (f : A → B) (o : Option A) → option_map f o ≡ None → o ≡ None
none_map f None e = refl
none_map f (Some a) e = absurd cc

none_all : (ks : ℕ → Option Extent) (is : List ℕ) → all_known ks is ≡ None → all_known (λ i. option_map told (ks i)) is ≡ None
none_all ks [] e = absurd cc
none_all ks (i ∷ is) e = by (none_all ks is) (ks i) (all_known ks is) refl e
  where
    by : (all_known ks is ≡ None → all_known (λ j. option_map told (ks j)) is ≡ None) → (o : Option Extent) → (p : Option (List Extent))
        → all_known ks is ≡ p
        → option_and_then (λ x. option_map (λ xs. x ∷ xs) p) o ≡ None
        → option_and_then (λ x. option_map (λ xs. x ∷ xs) (all_known (λ j. option_map told (ks j)) is)) (option_map told o) ≡ None
    by ih None p g k = refl
    by ih (Some x) None g k = ap (option_map (λ xs. told x ∷ xs)) (ih g)
    by ih (Some x) (Some xs) g k = absurd cc

none_told : (f : ℕ → Option ℕ) (ks : ℕ → Option Extent) (t : ℕ) (r : Row) → bytes_over f ks t r ≡ None
    → extent_over f (λ i. option_map told (ks i)) r ≡ None
none_told f ks t (row.Scalar k) e = e
none_told f ks t (row.Pointer j) e = absurd cc
none_told f ks t (row.Nullable j) e = absurd cc
none_told f ks t (row.Slice j) e = absurd cc
none_told f ks t (row.Array n j) e =
    ap (λ o. option_map (λ x. told (record { size = n * x.size; align = x.align })) (option_map told o)) (none_map _ (ks j) e)
none_told f ks t (row.Struct fs) e = ap (option_map (λ xs. told (fields_extent xs)))
    (none_all ks (map (λ g. g.ty) fs) (none_map fields_extent (all_known ks (map (λ g. g.ty) fs)) e))
none_told f ks t (row.Tuple js) e =
    ap (option_map (λ xs. told (fields_extent xs))) (none_all ks js (none_map fields_extent (all_known ks js) e))
none_told f ks t (row.Union js) e =
    ap (option_map (λ xs. told (union_extent xs))) (none_all ks js (none_map union_extent (all_known ks js) e))
none_told f ks t (row.Error j) e = ap (option_map told) e
none_told f ks t (row.Named d) e = by (f d) e
  where
    by : (o : Option ℕ) → option_and_then ks o ≡ None → option_and_then (λ i. option_map told (ks i)) o ≡ None
    by None k = refl
    by (Some q) k = ap (option_map told) k

module _ (s : Store) (v : IsStore s) where
  tree_here : (t : ℕ) (r : Row) → row_at s t ≡ Some r → tree_in (trees s.rows) t ≡ tree_of (trees s.rows) r
  tree_here t r e = get_or_from_slice_get (trees s.rows) t (tree_of (trees s.rows) r) (Scalar keyword.Void) (tree_at_row s v t r e)

  tree_there : (t : ℕ) → t < length s.rows → tree_at s t ≡ Some (tree_in (trees s.rows) t)
  tree_there t h = slice_get-get_or (trees s.rows) t (Scalar keyword.Void) (omega (arith, h, length-trees s.rows))

  -- ids mean trees
  pub one_type : (i j : ℕ) (t u : Tree) → tree_at s i ≡ Some t → tree_at s j ≡ Some u → (i ≡ j) ↔ Same t u
  one_type i j t u a b = (same, one_id s v i j t u a b)
    where
      same : i ≡ j → Same t u
      same e =
          let both : Some t ≡ Some u = sym a ∙ ap (tree_at s) e ∙ b in
          let one : t ≡ u = cc in
          subst (Same t) one (Same-refl t)

  -- ---- bases

  base_sound : (n t b : ℕ) → found_within s (base_over (definition_of s)) n t ≡ Some b → IsBaseOf s t b
  base_sound zero t b e = absurd cc
  base_sound (suc n) t b e = by (base_sound n) (row_at s t) refl e
    where
      by : ((i a : ℕ) → found_within s (base_over (definition_of s)) n i ≡ Some a → IsBaseOf s i a) → (o : Option Row) → row_at s t ≡ o
          → option_and_then (base_over (definition_of s) (found_within s (base_over (definition_of s)) n) t) o ≡ Some b → IsBaseOf s t b
      by ih None g k = absurd cc
      by ih (Some r) g k = base-step s v (found_within s (base_over (definition_of s)) n) ih t r g b k

  -- there is at most one
  base_alone : (t b c : ℕ) → IsBaseOf s t b → IsBaseOf s t c → b ≡ c
  base_alone t b c h k =
      let both : Some h.0 ≡ Some k.0 = sym h.2 ∙ k.2 in
      let tree : k.0 ≡ h.0 = cc in
      let m = h.4.0 in
      let n = k.4.0 in
      let first = following-further base_with base_with-more (meaning_of s) m n h.0 h.1 h.4.1 in
      let second = following-further base_with base_with-more (meaning_of s) n m k.0 k.1 k.4.1 in
      let swap : n + m ≡ m + n = omega arith in
      let again : following base_with (meaning_of s) (m + n) h.0 ≡ Some k.1 =
      subst (λ u. following base_with (meaning_of s) (m + n) u ≡ Some k.1) tree
      (subst (λ j. following base_with (meaning_of s) j k.0 ≡ Some k.1) swap second) in
      let ends : Some h.1 ≡ Some k.1 = sym first ∙ again in
      let end : h.1 ≡ k.1 = cc in
      one_id s v b c h.1 k.1 h.3 k.3 (subst (Same h.1) end (Same-refl h.1))

  pub base_tells : (t b : ℕ) → (base_at s t ≡ Some b) ↔ IsBaseOf s t b
  base_tells t b = (base_sound (length s.rows) t b, λ h. by h (base_at s t) refl)
    where
      settled : (i : ℕ) (r : Row) → slice_get s.rows i ≡ Some r → base_at s i ≡ None → base_over (definition_of s) (base_at s) i r ≡ None
      settled i r here none = sym (base-row s i r here) ∙ none

      by : IsBaseOf s t b → (o : Option ℕ) → base_at s t ≡ o → base_at s t ≡ Some b
      by h None e = absurd (none_base s v (base_at s) settled t e b h)
      by h (Some c) e = e ∙ ap Some (base_alone t c b (base_sound (length s.rows) t c e) h)

  -- ---- error marks

  -- the error marks that are found in n steps are those of the trees
  abbrev AreMarked : ℕ → Type 0
  AreMarked n = (i : ℕ) (a : Bool) → found_within s (error_over (definition_of s)) n i ≡ Some a → (u : Tree) × (tree_at s i ≡ Some u) ×
      IsError s u a

  marked_sound : (n : ℕ) → AreMarked n
  marked_sound zero t b e = absurd cc
  marked_sound (suc n) t b e = by (marked_sound n) (row_at s t) refl e
    where
      here : (r : Row) → row_at s t ≡ Some r → IsError s (tree_of (trees s.rows) r) b → (u : Tree) × (tree_at s t ≡ Some u) × IsError s u b
      here r g h = (tree_of (trees s.rows) r, tree_at_row s v t r g, h)

      by_name : AreMarked n → (d : ℕ) → (o : Option ℕ) → definition_of s d ≡ o
          → option_and_then (found_within s (error_over (definition_of s)) n) o ≡ Some b → IsError s (Named d) b
      by_name ih d None f k = absurd cc
      by_name ih d (Some q) f k =
          let w = ih q b k in
          let meaning : meaning_of s d ≡ Some w.0 = ap (option_and_then (tree_at s)) f ∙ w.1 in
          (suc w.2.0, ap (option_and_then (following error_with (meaning_of s) w.2.0)) meaning ∙ w.2.1)

      by_row : AreMarked n → (r : Row)
          → error_over (definition_of s) (found_within s (error_over (definition_of s)) n) t r ≡ Some b
          → IsError s (tree_of (trees s.rows) r) b
      by_row ih (row.Named d) k = by_name ih d (definition_of s d) refl k
      by_row ih (row.Error j) k = (0, k)
      by_row ih (row.Scalar w) k = (0, k)
      by_row ih (row.Pointer j) k = (0, k)
      by_row ih (row.Nullable j) k = (0, k)
      by_row ih (row.Slice j) k = (0, k)
      by_row ih (row.Array m j) k = (0, k)
      by_row ih (row.Struct fs) k = (0, k)
      by_row ih (row.Tuple js) k = (0, k)
      by_row ih (row.Union js) k = (0, k)

      by : AreMarked n → (o : Option Row) → row_at s t ≡ o
          → option_and_then (error_over (definition_of s) (found_within s (error_over (definition_of s)) n) t) o ≡ Some b
          → (u : Tree) × (tree_at s t ≡ Some u) × IsError s u b
      by ih None g k = absurd cc
      by ih (Some r) g k = here r g (by_row ih r k)

  -- what becomes of names, where at most n of them one behind another are followed
  marks : ℕ → ℕ → Option Bool
  marks zero d = None
  marks (suc n) d = option_and_then (following error_with (meaning_of s) n) (meaning_of s d)

  by_marks : (n : ℕ) (u : Tree) → error_with (marks n) u ≡ following error_with (meaning_of s) n u
  unfolding marks
  by_marks zero u = refl
  by_marks (suc n) u = refl

  marked_whole : (n t : ℕ) (r : Row) (b : Bool) → row_at s t ≡ Some r → error_with (marks n) (tree_of (trees s.rows) r) ≡ Some b
      → marked_at s t ≡ Some b
  unfolding marks
  marked_whole zero t (row.Named d) b g e = absurd cc
  marked_whole (suc n) t (row.Named d) b g e = marked-row s t (row.Named d) g
      ∙ by (λ q p f. marked_whole n q p b f) (definition_of s d) refl e
    where
      by : ((q : ℕ) (p : Row) → row_at s q ≡ Some p → error_with (marks n) (tree_of (trees s.rows) p) ≡ Some b → marked_at s q ≡ Some b)
          → (o : Option ℕ) → definition_of s d ≡ o
          → option_and_then (following error_with (meaning_of s) n) (option_and_then (tree_at s) o) ≡ Some b
          → option_and_then (marked_at s) o ≡ Some b
      by ih None f k = absurd cc
      by ih (Some q) f k =
          let p = slice_index_or s.rows q (row.Scalar keyword.Void) in
          let here : row_at s q ≡ Some p = slice_get-get_or s.rows q (row.Scalar keyword.Void) (v.defined_within d q f) in
          ih q p here (by_marks n (tree_of (trees s.rows) p) ∙ sym
          (ap (option_and_then (following error_with (meaning_of s) n)) (tree_at_row s v q p here)) ∙ k)
  marked_whole n t (row.Error j) b g e = marked-row s t (row.Error j) g ∙ e
  marked_whole n t (row.Scalar w) b g e = marked-row s t (row.Scalar w) g ∙ e
  marked_whole n t (row.Pointer j) b g e = marked-row s t (row.Pointer j) g ∙ e
  marked_whole n t (row.Nullable j) b g e = marked-row s t (row.Nullable j) g ∙ e
  marked_whole n t (row.Slice j) b g e = marked-row s t (row.Slice j) g ∙ e
  marked_whole n t (row.Array m j) b g e = marked-row s t (row.Array m j) g ∙ e
  marked_whole n t (row.Struct fs) b g e = marked-row s t (row.Struct fs) g ∙ e
  marked_whole n t (row.Tuple js) b g e = marked-row s t (row.Tuple js) g ∙ e
  marked_whole n t (row.Union js) b g e = marked-row s t (row.Union js) g ∙ e

  pub marked_tells : (t : ℕ) (b : Bool) → (marked_at s t ≡ Some b) ↔ ((u : Tree) × (tree_at s t ≡ Some u) × IsError s u b)
  marked_tells t b = (marked_sound (length s.rows) t b, whole)
    where
      whole : (u : Tree) × (tree_at s t ≡ Some u) × IsError s u b → marked_at s t ≡ Some b
      whole h =
          let r = row_of_tree s t h.0 h.1 in
          let both : Some h.0 ≡ Some (tree_of (trees s.rows) r.0) = sym h.1 ∙ tree_at_row s v t r.0 r.1 in
          let tree : h.0 ≡ tree_of (trees s.rows) r.0 = cc in
          marked_whole h.2.0 t r.0 b r.1 (by_marks h.2.0 (tree_of (trees s.rows) r.0) ∙ subst
          (λ u. following error_with (meaning_of s) h.2.0 u ≡ Some b) tree h.2.1)

  -- ---- sizes

  sized_of_row : (t : ℕ) → ((j : ℕ) → j < t → sized_at s j ≡ has_size s (tree_in (trees s.rows) j)) → (r : Row) → row_at s t ≡ Some r
      → sized_at s t ≡ has_size s (tree_of (trees s.rows) r)
  sized_of_row t ih (row.Error j) g = sized-row s t (row.Error j) g ∙ ih j (v.rows_sound.within t (row.Error j) g)
  sized_of_row t ih (row.Named d) g = sized-row s t (row.Named d) g
  sized_of_row t ih (row.Scalar k) g = sized-row s t (row.Scalar k) g
  sized_of_row t ih (row.Pointer j) g = sized-row s t (row.Pointer j) g
  sized_of_row t ih (row.Nullable j) g = sized-row s t (row.Nullable j) g
  sized_of_row t ih (row.Slice j) g = sized-row s t (row.Slice j) g
  sized_of_row t ih (row.Array n j) g = sized-row s t (row.Array n j) g
  sized_of_row t ih (row.Struct fs) g = sized-row s t (row.Struct fs) g
  sized_of_row t ih (row.Tuple js) g = sized-row s t (row.Tuple js) g
  sized_of_row t ih (row.Union js) g = sized-row s t (row.Union js) g

  sized_below : (b : ℕ) → b ≤ length s.rows → (t : ℕ) → t < b → sized_at s t ≡ has_size s (tree_in (trees s.rows) t)
  sized_below zero l t h = absurd (omega arith)
  sized_below (suc b) l t h = by (sized_below b (omega arith)) (cases_lt t b)
    where
      by : ((j : ℕ) → j < b → sized_at s j ≡ has_size s (tree_in (trees s.rows) j)) → (t < b) ⊎ (b ≤ t)
          → sized_at s t ≡ has_size s (tree_in (trees s.rows) t)
      by ih (inl k) = ih t k
      by ih (inr k) =
          let r = slice_index_or s.rows t (row.Scalar keyword.Void) in
          let here : row_at s t ≡ Some r = slice_get-get_or s.rows t (row.Scalar keyword.Void) (omega arith) in
          sized_of_row t (λ j m. ih j (omega arith)) r here ∙ sym (ap (has_size s) (tree_here t r here))

  pub sized_tells : (t : ℕ) (b : Bool) → (sized_at s t ≡ Some b) ↔ ((u : Tree) × (tree_at s t ≡ Some u) × (has_size s u ≡ Some b))
  sized_tells t b = (λ e. sound (row_at s t) refl e, whole)
    where
      at : t < length s.rows → sized_at s t ≡ has_size s (tree_in (trees s.rows) t)
      at = sized_below (length s.rows) (omega arith) t

      sound : (o : Option Row) → row_at s t ≡ o → sized_at s t ≡ Some b → (u : Tree) × (tree_at s t ≡ Some u) × (has_size s u ≡ Some b)
      sound (Some r) g e =
          let within = slice_get_within s.rows t r g in
          (tree_in (trees s.rows) t, tree_there t within, sym (at within) ∙ e)
      sound None g e = absurd (no_row s (sized_over (sized_of s)) t g b e)

      whole : (u : Tree) × (tree_at s t ≡ Some u) × (has_size s u ≡ Some b) → sized_at s t ≡ Some b
      whole h =
          let r = row_of_tree s t h.0 h.1 in
          let both : Some h.0 ≡ Some (tree_in (trees s.rows) t) = sym h.1 ∙ tree_there t (slice_get_within s.rows t r.0 r.1) in
          let tree : h.0 ≡ tree_in (trees s.rows) t = cc in
          at (slice_get_within s.rows t r.0 r.1) ∙ ap (has_size s) (sym tree) ∙ h.2

  -- ---- extents

  -- the extents that are found in n steps are those of the trees, where at most n names are followed
  abbrev AreExtents : ℕ → Type 0
  AreExtents n = (i : ℕ) (x : Extent) → found_within s (bytes_over (definition_of s)) n i ≡ Some x →
      extent_with (names s n) (tree_in (trees s.rows) i) ≡ Some x

  of_parts : (ks : ℕ → Option Extent) (named : ℕ → Option Extent)
      → ((i : ℕ) (x : Extent) → ks i ≡ Some x → extent_with named (tree_in (trees s.rows) i) ≡ Some x)
      → (is : List ℕ) (xs : List Extent) → all_known ks is ≡ Some xs
      → extents_with named (trees_of (map (tree_in (trees s.rows)) is)) ≡ Some xs
  of_parts ks named h [] xs e = e
  of_parts ks named h (i ∷ is) xs e =
      option_and_then-more (λ x. option_map (λ ys. x ∷ ys) (all_known ks is))
      (λ x. option_map (λ ys. x ∷ ys) (extents_with named (trees_of (map (tree_in (trees s.rows)) is))))
      (λ x. option_map-more (λ ys. x ∷ ys) (all_known ks is) (extents_with named (trees_of (map (tree_in (trees s.rows)) is)))
      (of_parts ks named h is)) (ks i) (extent_with named (tree_in (trees s.rows) i)) (h i) xs e

  -- the same, where one more name is followed
  deeper : (n : ℕ) → AreExtents n → (i : ℕ) (x : Extent) → found_within s (bytes_over (definition_of s)) n i ≡ Some x
      → extent_with (names s (suc n)) (tree_in (trees s.rows) i) ≡ Some x
  deeper n ih i x e =
      let one : n + 1 ≡ suc n = omega arith in
      let more : Knows (names s n) (names s (suc n)) = subst (λ m. Knows (names s n) (names s m)) one (names-further s n 1) in
      extent_with-more (names s n) (names s (suc n)) more (tree_in (trees s.rows) i) x (ih i x e)

  extent_of_row : (n : ℕ) → AreExtents n → (t : ℕ) (r : Row) (x : Extent)
      → bytes_over (definition_of s) (found_within s (bytes_over (definition_of s)) n) t r ≡ Some x
      → extent_with (names s (suc n)) (tree_of (trees s.rows) r) ≡ Some x
  extent_of_row n ih t (row.Scalar k) x e = e
  extent_of_row n ih t (row.Pointer j) x e = e
  extent_of_row n ih t (row.Nullable j) x e = e
  extent_of_row n ih t (row.Slice j) x e = e
  extent_of_row n ih t (row.Array m j) x e = option_map-more _ (found_within s (bytes_over (definition_of s)) n j)
      (extent_with (names s (suc n)) (tree_in (trees s.rows) j)) (deeper n ih j) x e
  extent_of_row n ih t (row.Struct fs) x e =
      let parts = option_map-more fields_extent (all_known (found_within s (bytes_over (definition_of s)) n) (map (λ f. f.ty) fs))
      (extents_with (names s (suc n)) (trees_of (map (tree_in (trees s.rows)) (map (λ f. f.ty) fs))))
      (of_parts (found_within s (bytes_over (definition_of s)) n) (names s (suc n)) (deeper n ih) (map (λ f. f.ty) fs)) x e in
      ap (λ ts. option_map fields_extent (extents_with (names s (suc n)) ts)) (parts_of_struct (trees s.rows) fs) ∙ parts
  extent_of_row n ih t (row.Tuple js) x e =
      option_map-more fields_extent (all_known (found_within s (bytes_over (definition_of s)) n) js)
      (extents_with (names s (suc n)) (trees_of (map (tree_in (trees s.rows)) js)))
      (of_parts (found_within s (bytes_over (definition_of s)) n) (names s (suc n)) (deeper n ih) js) x e
  extent_of_row n ih t (row.Union js) x e =
      option_map-more union_extent (all_known (found_within s (bytes_over (definition_of s)) n) js)
      (extents_with (names s (suc n)) (trees_of (map (tree_in (trees s.rows)) js)))
      (of_parts (found_within s (bytes_over (definition_of s)) n) (names s (suc n)) (deeper n ih) js) x e
  extent_of_row n ih t (row.Error j) x e = deeper n ih j x e
  extent_of_row n ih t (row.Named d) x e = by (definition_of s d) refl e
    where
      by : (o : Option ℕ) → definition_of s d ≡ o → option_and_then (found_within s (bytes_over (definition_of s)) n) o ≡ Some x
          → option_and_then (following extent_with (meaning_of s) n) (option_and_then (tree_at s) (definition_of s d)) ≡ Some x
      by None f k = absurd cc
      by (Some q) f k =
          ap (λ o. option_and_then (following extent_with (meaning_of s) n) (option_and_then (tree_at s) o)) f
          ∙ ap (option_and_then (following extent_with (meaning_of s) n)) (tree_there q (v.defined_within d q f))
          ∙ sym (by_names s n (tree_in (trees s.rows) q)) ∙ ih q x k

  extent_sound : (n : ℕ) → AreExtents n
  extent_sound zero t x e = absurd cc
  extent_sound (suc n) t x e = by (extent_sound n) (row_at s t) refl e
    where
      by : AreExtents n → (o : Option Row) → row_at s t ≡ o
          → option_and_then (bytes_over (definition_of s) (found_within s (bytes_over (definition_of s)) n) t) o ≡ Some x
          → extent_with (names s (suc n)) (tree_in (trees s.rows) t) ≡ Some x
      by ih None g k = absurd cc
      by ih (Some r) g k = ap (extent_with (names s (suc n))) (tree_here t r g) ∙ extent_of_row n ih t r x k

  -- there is at most one
  extent_alone : (t : ℕ) (x y : Extent) → LiesIn s t x → LiesIn s t y → x ≡ y
  extent_alone t x y h k =
      let both : Some h.0 ≡ Some k.0 = sym h.1 ∙ k.1 in
      let tree : k.0 ≡ h.0 = cc in
      let m = h.2.0 in
      let n = k.2.0 in
      let first = following-further extent_with extent_with-more (meaning_of s) m n h.0 x h.2.1 in
      let second = following-further extent_with extent_with-more (meaning_of s) n m k.0 y k.2.1 in
      let swap : n + m ≡ m + n = omega arith in
      let again : following extent_with (meaning_of s) (m + n) h.0 ≡ Some y =
      subst (λ u. following extent_with (meaning_of s) (m + n) u ≡ Some y) tree
      (subst (λ j. following extent_with (meaning_of s) j k.0 ≡ Some y) swap second) in
      let both : Some x ≡ Some y = sym first ∙ again in
      cc

  pub extent_tells : (t : ℕ) (x : Extent) → (extent_at s t ≡ Some x) ↔ LiesIn s t x
  extent_tells t x = (sound x, λ h. whole h (extent_at s t) refl)
    where
      sound : (y : Extent) → extent_at s t ≡ Some y → LiesIn s t y
      sound y e = by (row_at s t) refl
        where
          by : (o : Option Row) → row_at s t ≡ o → LiesIn s t y
          by None g = absurd (no_row s (bytes_over (definition_of s)) t g y e)
          by (Some r) g = (
            tree_in (trees s.rows) t,
            tree_there t (slice_get_within s.rows t r g),
            (length s.rows, sym (by_names s (length s.rows) (tree_in (trees s.rows) t)) ∙ extent_sound (length s.rows) t y e),
          )

      settled : (i : ℕ) (r : Row) → slice_get s.rows i ≡ Some r → option_map told (extent_at s i) ≡ None
          → extent_over (definition_of s) (λ j. option_map told (extent_at s j)) r ≡ None
      settled i r here none =
          none_told (definition_of s) (extent_at s) i r (sym (extent-row s i r here) ∙ none_map told (extent_at s i) none)

      whole : LiesIn s t x → (o : Option Extent) → extent_at s t ≡ o → extent_at s t ≡ Some x
      whole h None e = absurd (none_lies s v (λ j. option_map told (extent_at s j)) settled t (ap (option_map told) e) x h)
      whole h (Some y) e = e ∙ ap Some (extent_alone t y x (sound y e) h)

  -- ---- rows and tags

  pub id_tells : (r : Row) (t : ℕ) → (id_of s r ≡ Some t) ↔ (row_at s t ≡ Some r)
  id_tells r t = (λ e. sound t e, λ e. whole e (id_of s r) refl)
    where
      sound : (i : ℕ) → id_of s r ≡ Some i → row_at s i ≡ Some r
      sound i e = simp map-id at (position_found (λ q. q) r (row_eq r) (row_eq-Decides r) s.rows i (sym e))

      whole : row_at s t ≡ Some r → (o : Option ℕ) → id_of s r ≡ o → id_of s r ≡ Some t
      whole h None e =
          let nowhere = position_absent (λ q. q) r (row_eq r) (row_eq-Decides r) s.rows (sym e) t in
          absurd (nowhere (ap (λ l. slice_get l t) (map-id s.rows) ∙ h))
      whole h (Some i) e = e ∙ ap Some (v.rows_sound.once.once i t r (sound i e) h)

  pub tag_tells : (t n : ℕ) → (tag_at s t ≡ Some n) ↔ ((k : ℕ) × (n ≡ k + 1) × (slice_get s.listed k ≡ Some t))
  tag_tells t n = (λ e. sound (position (nat_eq t) s.listed) refl e, λ h. whole h (position (nat_eq t) s.listed) refl)
    where
      place : (k : ℕ) → position (nat_eq t) s.listed ≡ Some k → slice_get s.listed k ≡ Some t
      place k e = simp map-id at (position_found (λ q. q) t (nat_eq t) (unsigned_Decides t) s.listed k (sym e))

      sound : (o : Option ℕ) → position (nat_eq t) s.listed ≡ o → option_map suc o ≡ Some n → (k : ℕ) × (n ≡ k + 1) ×
          (slice_get s.listed k ≡ Some t)
      sound None f e = absurd cc
      sound (Some k) f e =
          let same : suc k ≡ n = cc in
          (k, omega (arith, same), place k f)

      whole : (k : ℕ) × (n ≡ k + 1) × (slice_get s.listed k ≡ Some t) → (o : Option ℕ) → position (nat_eq t) s.listed ≡ o →
          tag_at s t ≡ Some n
      whole h None f =
          let nowhere = position_absent (λ q. q) t (nat_eq t) (unsigned_Decides t) s.listed (sym f) h.0 in
          absurd (nowhere (ap (λ l. slice_get l h.0) (map-id s.listed) ∙ h.2))
      whole h (Some k) f =
          let same : k ≡ h.0 = v.listed_once.once k h.0 t (place k f) h.2 in
          ap (option_map suc) f ∙ ap Some (omega (arith, same, h.1))

  -- ---- what is told of them

  pub base_is : (t : ℕ) (o : Option ℕ) → ((b : ℕ) → o ≡ Some b → IsBaseOf s t b) → (o ≡ None → (b : ℕ) → ¬ IsBaseOf s t b) → o ≡ base_at s t
  base_is t (Some b) some none = sym ((base_tells t b).1 (some b refl))
  base_is t None some none = by (base_at s t) refl
    where
      by : (o : Option ℕ) → base_at s t ≡ o → None ≡ base_at s t
      by None e = sym e
      by (Some b) e = absurd (none refl b ((base_tells t b).0 e))

  pub extent_is : (t : ℕ) (o : Option Extent) → ((x : Extent) → o ≡ Some x → IsTold s t x) → (o ≡ None → (x : Extent) → ¬ LiesIn s t x)
      → o ≡ option_map told (extent_at s t)
  extent_is t (Some x) some none =
      let h = some x refl in
      ap Some h.2 ∙ sym (ap (option_map told) ((extent_tells t h.0).1 h.1))
  extent_is t None some none = by (extent_at s t) refl
    where
      by : (o : Option Extent) → extent_at s t ≡ o → None ≡ option_map told (extent_at s t)
      by None e = sym (ap (option_map told) e)
      by (Some x) e = absurd (none refl x ((extent_tells t x).0 e))
