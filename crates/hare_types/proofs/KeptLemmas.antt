-- What is kept of extents is what is told of them.
use Rattle.std.proofs.Common.{◌≡◌, ◌≢◌, ℕ, zero, suc, ◌+◌, ◌*◌, ◌<◌, ◌≤◌, Bool, true, false, nat_eq, true≢false, List, [], ◌∷◌, ◌++◌, length, set, map, Option, Some, None, IfSome, IsSome, refl, ap, ap₂, sym, ◌∙◌, subst, arith, ◌⊎◌, inl, inr, length-append, length-set, get_or-set_other, get_or-set_same}
use Rattle.std.specs.Prelude.{slice_get, slice_index_or, option_map, option_and_then}
use Rattle.std.proofs.lemmas.Option.{get_or_from_slice_get, slice_get-get_or, slice_get_within}
use Rattle.std.proofs.lemmas.Bool.{cases_lt}
use Rattle.std.specs.Cmp.{unsigned_Decides}
use Rattle.std.proofs.Math.ListN.{get_or-append}
use Rattle.hare_types.specs.declared.declared.Declared.{Declared}
use Rattle.hare_types.specs.declared.extent.Extent.{Extent}
use Rattle.hare_types.specs.declared.lists.Field.{Field}
use Rattle.hare_types.specs.declared.row.Row.{Row}
use Rattle.hare_types.specs.declared.row.Row.TheVariants as row
use Rattle.hare_types.specs.declared.row.Scalar.TheVariants as keyword
use Rattle.hare_types.specs.Trees.{Tree, Trees, Scalar, Named, more, trees_of}
use Rattle.hare_types.specs.Rows.{tree_in, tree_of, trees, AllBelow, FieldsBelow, IsWithin}
use Rattle.hare_types.specs.Store.{Store, tree_at, definition_of, meaning_of}
use Rattle.hare_types.specs.Sound.{IsStore}
use Rattle.hare_types.specs.Layout.{fields_extent, union_extent, following, extent_with, extents_with, HasExtent}
use Rattle.hare_types.specs.Kept.{LiesIn, told, IsTold, IsToldOf, IsBounded, known, defined, all_known, extent_over, AreBounded, KeepsExtents, IsInert, unknown}
use Rattle.hare_types.proofs.ListLemmas.{slice_get_end}
use Rattle.hare_types.proofs.TreeLemmas.{length-trees, tree_kept}
use Rattle.hare_types.proofs.DefinitionLemmas.{meaning_kept}
use Rattle.hare_types.proofs.CallerLemmas.{tree_at_row}
use Rattle.hare_types.proofs.GrowthLemmas.{Knows, option_and_then-more, extent_with-more, extents_with-more, following-more, following-further}
use Rattle.hare_types.proofs.ToldLemmas.{AreLow, told-array, told-fields, told-union, told-scalar}

-- ---- growth

-- with more trees and more meanings
pub IsTold-more : (old new : Store) → ((i : ℕ) (u : Tree) → tree_at old i ≡ Some u → tree_at new i ≡ Some u) →
    ((d : ℕ) (u : Tree) → meaning_of old d ≡ Some u → meaning_of new d ≡ Some u)
    → (t : ℕ) (x : Extent) → IsTold old t x → IsTold new t x
IsTold-more old new kept meaning t x h = (
  h.0,
  (
    h.1.0,
    kept t h.1.0 h.1.1,
    (h.1.2.0, following-more extent_with extent_with-more (meaning_of old) (meaning_of new) meaning h.1.2.0 h.1.0 h.0 h.1.2.1),
  ),
  h.2,
)

-- ---- where at most n names one behind another are followed

-- what is known of names
abbrev pub names : Store → ℕ → ℕ → Option Extent
names s zero d = None
names s (suc n) d = option_and_then (following extent_with (meaning_of s) n) (meaning_of s d)

pub by_names : (s : Store) (n : ℕ) (u : Tree) → extent_with (names s n) u ≡ following extent_with (meaning_of s) n u
by_names s zero u = refl
by_names s (suc n) u = refl

pub names-further : (s : Store) (n k : ℕ) → Knows (names s n) (names s (n + k))
names-further s zero k d x e = absurd cc
names-further s (suc n) k d x e =
    let same : suc (n + k) ≡ suc n + k = omega arith in
    subst (λ j. names s j d ≡ Some x) same
    (option_and_then-more (following extent_with (meaning_of s) n) (following extent_with (meaning_of s) (n + k))
    (following-further extent_with extent_with-more (meaning_of s) n k) (meaning_of s d) (meaning_of s d) (λ u h. h) x e)

-- ---- one row

-- the parts of a struct's tree are those of its row
pub parts_of_struct : (ts : List Tree) (fs : List Field) → trees_of (map (λ f. tree_in ts f.ty) fs) ≡ trees_of
    (map (tree_in ts) (map (λ f. f.ty) fs))
parts_of_struct ts [] = refl
parts_of_struct ts (f ∷ fs) = ap (more (tree_in ts f.ty)) (parts_of_struct ts fs)

module _ (s : Store) (v : IsStore s) (ks : List (Option Extent)) (bounded : AreBounded ks)
    (sound : (i : ℕ) (x : Extent) → known ks i ≡ Some x → IsTold s i x) where
  -- the trees of the ids
  abbrev Parts : List ℕ → Trees
  Parts is = trees_of (map (tree_in (trees s.rows)) is)

  tree_here : (i : ℕ) (u : Tree) → tree_at s i ≡ Some u → tree_in (trees s.rows) i ≡ u
  tree_here i u e = get_or_from_slice_get (trees s.rows) i u (Scalar keyword.Void) e

  -- the extents of which these are told
  abbrev Tells : List ℕ → List Extent → Type 0
  Tells is xs = (n : ℕ) × (ys : List Extent) × (extents_with (names s n) (Parts is) ≡ Some ys) × (xs ≡ map told ys) × AreLow ys

  tells-more : (i : ℕ) (is : List ℕ) (x : Extent) (xs : List Extent) → IsBounded x → IsTold s i x → Tells is xs → Tells (i ∷ is) (x ∷ xs)
  tells-more i is x xs b h t =
      let y = h.0 in
      let n = h.1.2.0 in
      let tree = tree_here i h.1.0 h.1.1 in
      let first : extent_with (names s n) (tree_in (trees s.rows) i) ≡ Some y =
      ap (extent_with (names s n)) tree ∙ by_names s n h.1.0 ∙ h.1.2.1 in
      let swap : t.0 + n ≡ n + t.0 = omega arith in
      let here : extent_with (names s (n + t.0)) (tree_in (trees s.rows) i) ≡ Some y =
      extent_with-more (names s n) (names s (n + t.0)) (names-further s n t.0) (tree_in (trees s.rows) i) y first in
      let later : extents_with (names s (n + t.0)) (Parts is) ≡ Some t.1 = subst (λ j. extents_with (names s j) (Parts is) ≡ Some t.1) swap
      (extents_with-more (names s t.0) (names s (t.0 + n)) (names-further s t.0 n) (Parts is) t.1 t.2) in
      let both : extents_with (names s (n + t.0)) (Parts (i ∷ is)) ≡ Some (y ∷ t.1) =
      ap (option_and_then (λ z. option_map (λ zs. z ∷ zs) (extents_with (names s (n + t.0)) (Parts is)))) here ∙ ap
      (option_map (λ zs. y ∷ zs)) later in
      let low : 1 ≤ y.align = subst (λ z. 1 ≤ z.align) h.2 b.low in
      (n + t.0, y ∷ t.1, both, (λ j. h.2 j ∷ t.3 j), (low, t.4))

  tells : (is : List ℕ) (xs : List Extent) → all_known (known ks) is ≡ Some xs → Tells is xs
  tells [] xs e =
      let same : [] ≡ xs = cc in
      (0, [], refl, sym same, tt)
  tells (i ∷ is) xs e = by (tells is) (known ks i) refl e
    where
      with_rest : ((zs : List Extent) → all_known (known ks) is ≡ Some zs → Tells is zs) → (x : Extent) → known ks i ≡ Some x →
          (o : Option (List Extent)) → all_known (known ks) is ≡ o → option_map (λ xs. x ∷ xs) o ≡ Some xs → Tells (i ∷ is) xs
      with_rest ih x f None g h = absurd cc
      with_rest ih x f (Some zs) g h =
          let same : x ∷ zs ≡ xs = cc in
          subst (Tells (i ∷ is)) same (tells-more i is x zs (bounded i x f) (sound i x f) (ih zs g))

      by : ((zs : List Extent) → all_known (known ks) is ≡ Some zs → Tells is zs) → (o : Option Extent) → known ks i ≡ o →
          option_and_then (λ x. option_map (λ xs. x ∷ xs) (all_known (known ks) is)) o ≡ Some xs → Tells (i ∷ is) xs
      by ih None f g = absurd cc
      by ih (Some x) f g = with_rest ih x f (all_known (known ks) is) refl g

  module _ (r : Row) where
    told_as : (x y : Extent) → x ≡ told y → HasExtent s (tree_of (trees s.rows) r) y → IsToldOf s (tree_of (trees s.rows) r) x
    told_as x y e h = (y, h, e)

    by_word : (x y : Extent) → Some y ≡ Some x → y ≡ told y → HasExtent s (tree_of (trees s.rows) r) y →
        IsToldOf s (tree_of (trees s.rows) r) x
    by_word x y e f h =
        let same : y ≡ x = cc in
        told_as x y (sym same ∙ f) h

    -- from its parts
    by_parts : (is : List ℕ) (f : List Extent → Extent) → ((ys : List Extent) → AreLow ys → told (f (map told ys)) ≡ told (f ys))
        → ((n : ℕ) → extent_with (names s n) (tree_of (trees s.rows) r) ≡ option_map f (extents_with (names s n) (Parts is)))
        → (x : Extent) → option_map (λ xs. told (f xs)) (all_known (known ks) is) ≡ Some x → IsToldOf s (tree_of (trees s.rows) r) x
    by_parts is f same_told form x e = by (all_known (known ks) is) refl e
      where
        by : (o : Option (List Extent)) → all_known (known ks) is ≡ o → option_map (λ xs. told (f xs)) o ≡ Some x →
            IsToldOf s (tree_of (trees s.rows) r) x
        by None g h = absurd cc
        by (Some xs) g h =
            let k = tells is xs g in
            let value : told (f xs) ≡ x = cc in
            told_as x (f k.1) (sym value ∙ ap (λ zs. told (f zs)) k.3 ∙ same_told k.1 k.4)
            (k.0, sym (by_names s k.0 (tree_of (trees s.rows) r)) ∙ form k.0 ∙ ap (option_map f) k.2)

    -- from one other type
    by_other : (i : ℕ) (f : Extent → Extent) (g : Extent → Extent) → ((x y : Extent) → x ≡ told y → g x ≡ told (f y))
        → ((n : ℕ) → extent_with (names s n) (tree_of (trees s.rows) r) ≡ option_map f (extent_with (names s n) (tree_in (trees s.rows) i)))
        → (x : Extent) → option_map g (known ks i) ≡ Some x → IsToldOf s (tree_of (trees s.rows) r) x
    by_other i f g same_told form x e = by (known ks i) refl e
      where
        by : (o : Option Extent) → known ks i ≡ o → option_map g o ≡ Some x → IsToldOf s (tree_of (trees s.rows) r) x
        by None k h = absurd cc
        by (Some z) k h =
            let h' : g z ≡ x = cc in
            let w = sound i z k in
            let n = w.1.2.0 in
            let inner : extent_with (names s n) (tree_in (trees s.rows) i) ≡ Some w.0 =
            ap (extent_with (names s n)) (tree_here i w.1.0 w.1.1) ∙ by_names s n w.1.0 ∙ w.1.2.1 in
            told_as x (f w.0) (sym h' ∙ same_told z w.0 w.2)
            (n, sym (by_names s n (tree_of (trees s.rows) r)) ∙ form n ∙ ap (option_map f) inner)

  option_map-same : (o : Option Extent) → option_map (λ y. y) o ≡ o
  option_map-same None = refl
  option_map-same (Some x) = refl

  by_definition : (d : ℕ) (x : Extent) → option_and_then (known ks) (definition_of s d) ≡ Some x → IsToldOf s (Named d) x
  by_definition d x e = by (definition_of s d) refl e
    where
      by : (o : Option ℕ) → definition_of s d ≡ o → option_and_then (known ks) o ≡ Some x → IsToldOf s (Named d) x
      by None k h = absurd cc
      by (Some i) k h =
          let w = sound i x h in
          let meaning : meaning_of s d ≡ Some w.1.0 = ap (option_and_then (tree_at s)) k ∙ w.1.1 in
          (w.0, (suc w.1.2.0, ap (option_and_then (following extent_with (meaning_of s) w.1.2.0)) meaning ∙ w.1.2.1), w.2)

  -- what follows for a row, which need not be in the store, is what is told of its type
  pub told-row : (r : Row) (x : Extent) → extent_over (definition_of s) (known ks) r ≡ Some x → IsToldOf s (tree_of (trees s.rows) r) x
  told-row (row.Scalar k) x e = told_as (row.Scalar k) x x (told-scalar k x e) (0, e)
  told-row (row.Pointer i) x e = by_word (row.Pointer i) x _ e refl (0, refl)
  told-row (row.Nullable i) x e = by_word (row.Nullable i) x _ e refl (0, refl)
  told-row (row.Slice i) x e = by_word (row.Slice i) x _ e refl (0, refl)
  told-row (row.Array n i) x e =
      by_other (row.Array n i) i (λ y. record { size = n * y.size; align = y.align })
      (λ y. told (record { size = n * y.size; align = y.align }))
      (λ z y g. ap (λ w. told (record { size = n * w.size; align = w.align })) g ∙ told-array n y) (λ m. refl) x e
  told-row (row.Struct fs) x e =
      by_parts (row.Struct fs) (map (λ f. f.ty) fs) fields_extent told-fields
      (λ n. ap (λ ts. option_map fields_extent (extents_with (names s n) ts)) (parts_of_struct (trees s.rows) fs)) x e
  told-row (row.Tuple is) x e = by_parts (row.Tuple is) is fields_extent told-fields (λ n. refl) x e
  told-row (row.Union is) x e = by_parts (row.Union is) is union_extent (λ ys low. told-union ys) (λ n. refl) x e
  told-row (row.Error i) x e =
      by_other (row.Error i) i (λ y. y) (λ y. y) (λ z y g. g)
      (λ n. sym (option_map-same (extent_with (names s n) (tree_in (trees s.rows) i)))) x (option_map-same (known ks i) ∙ e)
  told-row (row.Named d) x e = by_definition d x e

  -- and of the store
  pub told-step : (t : ℕ) (r : Row) → slice_get s.rows t ≡ Some r → (x : Extent) → extent_over (definition_of s) (known ks) r ≡ Some x →
      IsTold s t x
  told-step t r here x e =
      let h = told-row r x e in
      (h.0, (tree_of (trees s.rows) r, tree_at_row s v t r here, h.1), h.2)

-- ---- a store that grows

-- of nothing
pub KeepsExtents-empty : (s : Store) (ks : List (Option Extent)) → s.rows ≡ [] → ks ≡ [] → KeepsExtents s ks
KeepsExtents-empty s ks rows e = record {
  as_many = ap length e ∙ sym (ap length rows);
  bounded = λ i x h. let none : None ≡ Some x = sym (ap (λ l. known l i) e) ∙ h in absurd cc;
  sound = λ i x h. let none : None ≡ Some x = sym (ap (λ l. known l i) e) ∙ h in absurd cc;
}

-- with other names, or other types listed
pub KeepsExtents-same : (old new : Store) (ks : List (Option Extent)) → old.rows ≡ new.rows → old.declared ≡ new.declared →
    KeepsExtents old ks → KeepsExtents new ks
KeepsExtents-same old new ks rows declared v = record {
  as_many = v.as_many ∙ ap length rows;
  bounded = v.bounded;
  sound = λ i x e.
      IsTold-more old new (λ j u h. sym (ap (λ l. slice_get (trees l) j) rows) ∙ h)
      (λ d u h. sym (ap₂ (λ l m. option_and_then (λ j. slice_get (trees l) j) (defined m d)) rows declared) ∙ h) i x (v.sound i x e);
}

-- with more definitions
pub KeepsExtents-defined : (s : Store) (new : List (ℕ × Declared)) (ks : List (Option Extent)) →
    ((d t : ℕ) → defined s.declared d ≡ Some t → defined new d ≡ Some t)
    → KeepsExtents s ks → KeepsExtents (record s { declared = new }) ks
KeepsExtents-defined s new ks still v = record {
  as_many = v.as_many;
  bounded = v.bounded;
  sound = λ i x e. IsTold-more s (record s { declared = new }) (λ j u h. h) meaning i x (v.sound i x e);
}
  where
    meaning : (d : ℕ) (u : Tree) → meaning_of s d ≡ Some u → meaning_of (record s { declared = new }) d ≡ Some u
    meaning d u e = by (defined s.declared d) refl e
      where
        by : (o : Option ℕ) → defined s.declared d ≡ o → option_and_then (tree_at s) o ≡ Some u →
            meaning_of (record s { declared = new }) d ≡ Some u
        by None f g = absurd cc
        by (Some t) f g = ap (option_and_then (tree_at s)) (still d t f) ∙ g

known-push : (ks : List (Option Extent)) (o : Option Extent) (i : ℕ) (x : Extent) → known (ks ++ o ∷ []) i ≡ Some x →
    (known ks i ≡ Some x) ⊎ ((i ≡ length ks) × (o ≡ Some x))
known-push [] o zero x e = inr (refl, e)
known-push [] o (suc i) x e = absurd cc
known-push (k ∷ ks) o zero x e = inl e
known-push (k ∷ ks) o (suc i) x e = next (known-push ks o i x e)
  where
    next : (known ks i ≡ Some x) ⊎ ((i ≡ length ks) × (o ≡ Some x)) → (known ks i ≡ Some x) ⊎ ((suc i ≡ length (k ∷ ks)) × (o ≡ Some x))
    next (inl h) = inl h
    next (inr h) = inr (ap suc h.0, h.1)

module _ (s : Store) (r : Row) (ks : List (Option Extent)) (o : Option Extent) (value : o ≡ extent_over (defined s.declared) (known ks) r)
    (within : IfSome o (λ x. IsBounded x)) (v : KeepsExtents s ks) where
  -- with one more row
  pub KeepsExtents-push : IsStore (record s { rows = s.rows ++ r ∷ [] }) → ((d t : ℕ) → defined s.declared d ≡ Some t → t < length s.rows) →
      KeepsExtents (record s { rows = s.rows ++ r ∷ [] }) (ks ++ o ∷ [])
  KeepsExtents-push w ids = record {
    as_many = omega (arith, length-append ks (o ∷ []), length-append s.rows (r ∷ []), v.as_many);
    bounded = λ i x e. bounded_at i x (known-push ks o i x e);
    sound = λ i x e. sound_at i x (known-push ks o i x e);
  }
    where
      bounded_at : (i : ℕ) (x : Extent) → (known ks i ≡ Some x) ⊎ ((i ≡ length ks) × (o ≡ Some x)) → IsBounded x
      bounded_at i x (inl h) = v.bounded i x h
      bounded_at i x (inr h) = subst (λ p. IfSome p (λ y. IsBounded y)) h.1 within

      kept : (j : ℕ) (u : Tree) → tree_at s j ≡ Some u → tree_at (record s { rows = s.rows ++ r ∷ [] }) j ≡ Some u
      kept j u e = tree_kept s.rows (r ∷ []) j u e

      meaning : (d : ℕ) (u : Tree) → meaning_of s d ≡ Some u → meaning_of (record s { rows = s.rows ++ r ∷ [] }) d ≡ Some u
      meaning d u e = meaning_kept s.rows (s.rows ++ r ∷ []) kept (defined s.declared d) (ids d) ∙ e

      old_sound : (i : ℕ) (x : Extent) → known ks i ≡ Some x → IsTold (record s { rows = s.rows ++ r ∷ [] }) i x
      old_sound i x e = IsTold-more s (record s { rows = s.rows ++ r ∷ [] }) kept meaning i x (v.sound i x e)

      sound_at : (i : ℕ) (x : Extent) → (known ks i ≡ Some x) ⊎ ((i ≡ length ks) × (o ≡ Some x)) →
          IsTold (record s { rows = s.rows ++ r ∷ [] }) i x
      sound_at i x (inl h) = old_sound i x h
      sound_at i x (inr h) =
          let place : length s.rows ≡ i = sym v.as_many ∙ sym h.0 in
          let here : slice_get (s.rows ++ r ∷ []) i ≡ Some r =
          subst (λ j. slice_get (s.rows ++ r ∷ []) j ≡ Some r) place (slice_get_end s.rows r []) in
          told-step (record s { rows = s.rows ++ r ∷ [] }) w ks v.bounded old_sound i r here x (sym value ∙ h.1)

-- ---- what is not kept

pub known-front : (ks rest : List (Option Extent)) (i : ℕ) → i < length ks → known (ks ++ rest) i ≡ known ks i
known-front ks rest i h = get_or-append ks rest None i h

all_known-front : (ks rest : List (Option Extent)) (is : List ℕ) → AllBelow (length ks) is →
    all_known (known (ks ++ rest)) is ≡ all_known (known ks) is
all_known-front ks rest [] h = refl
all_known-front ks rest (i ∷ is) h =
    ap₂ (λ o p. option_and_then (λ x. option_map (λ xs. x ∷ xs) p) o) (known-front ks rest i h.0) (all_known-front ks rest is h.1)

pub FieldsBelow-ids : (n : ℕ) (fs : List Field) → FieldsBelow n fs → AllBelow n (map (λ f. f.ty) fs)
FieldsBelow-ids n [] h = tt
FieldsBelow-ids n (f ∷ fs) h = (h.0, FieldsBelow-ids n fs h.1)

-- what follows for a row rests on earlier rows alone
pub extent_over-front : (definition : ℕ → Option ℕ) (ks rest : List (Option Extent)) (r : Row) → IsWithin (length ks) r →
    ((d t : ℕ) → definition d ≡ Some t → t < length ks)
    → extent_over definition (known (ks ++ rest)) r ≡ extent_over definition (known ks) r
extent_over-front definition ks rest (row.Scalar k) h ids = refl
extent_over-front definition ks rest (row.Pointer i) h ids = refl
extent_over-front definition ks rest (row.Nullable i) h ids = refl
extent_over-front definition ks rest (row.Slice i) h ids = refl
extent_over-front definition ks rest (row.Array n i) h ids =
    ap (option_map (λ x. told (record { size = n * x.size; align = x.align }))) (known-front ks rest i h)
extent_over-front definition ks rest (row.Struct fs) h ids =
    ap (option_map (λ xs. told (fields_extent xs))) (all_known-front ks rest (map (λ f. f.ty) fs) (FieldsBelow-ids (length ks) fs h))
extent_over-front definition ks rest (row.Tuple is) h ids = ap (option_map (λ xs. told (fields_extent xs))) (all_known-front ks rest is h)
extent_over-front definition ks rest (row.Union is) h ids = ap (option_map (λ xs. told (union_extent xs))) (all_known-front ks rest is h)
extent_over-front definition ks rest (row.Error i) h ids = known-front ks rest i h
extent_over-front definition ks rest (row.Named d) h ids = by (definition d) (λ t. ids d t)
  where
    by : (o : Option ℕ) → ((t : ℕ) → o ≡ Some t → t < length ks) → option_and_then (known (ks ++ rest)) o ≡ option_and_then (known ks) o
    by None g = refl
    by (Some t) g = known-front ks rest t (g t refl)

-- ---- one extent more

known-set : (ks : List (Option Extent)) (i j : ℕ) (o : Option Extent) (y : Extent) → i < length ks → known (set ks i o) j ≡ Some y →
    (known ks j ≡ Some y) ⊎ ((j ≡ i) × (o ≡ Some y))
known-set ks i j o y l e = by (nat_eq i j) refl
  where
    by : (b : Bool) → nat_eq i j ≡ b → (known ks j ≡ Some y) ⊎ ((j ≡ i) × (o ≡ Some y))
    by true g =
        let same : i ≡ j = (unsigned_Decides i j).0 g in
        let here : known (set ks i o) i ≡ o = get_or-set_same ks i o None l in
        inr (sym same, sym here ∙ ap (known (set ks i o)) same ∙ e)
    by false g =
        let other : j ≢ i = λ h. true≢false (sym ((unsigned_Decides i j).1 (sym h)) ∙ g) in
        let there : known (set ks i o) j ≡ known ks j = get_or-set_other ks i j o None other in
        inl (sym there ∙ e)

pub KeepsExtents-set : (s : Store) → IsStore s → (ks : List (Option Extent)) (i : ℕ) (r : Row) (x : Extent) → slice_get s.rows i ≡ Some r →
    Some x ≡ extent_over (defined s.declared) (known ks) r
    → IsBounded x → KeepsExtents s ks → KeepsExtents s (set ks i (Some x))
KeepsExtents-set s v ks i r x here value b k = record {
  as_many = length-set ks i (Some x) ∙ k.as_many;
  bounded = λ j y e. bounded_at j y (known-set ks i j (Some x) y within e);
  sound = λ j y e. sound_at j y (known-set ks i j (Some x) y within e);
}
  where
    within : i < length ks
    within = omega (arith, slice_get_within s.rows i r here, k.as_many)

    bounded_at : (j : ℕ) (y : Extent) → (known ks j ≡ Some y) ⊎ ((j ≡ i) × (Some x ≡ Some y)) → IsBounded y
    bounded_at j y (inl h) = k.bounded j y h
    bounded_at j y (inr h) =
        let same : x ≡ y = cc in
        subst (λ z. IsBounded z) same b

    sound_at : (j : ℕ) (y : Extent) → (known ks j ≡ Some y) ⊎ ((j ≡ i) × (Some x ≡ Some y)) → IsTold s j y
    sound_at j y (inl h) = k.sound j y h
    sound_at j y (inr h) =
        told-step s v ks k.bounded k.sound j r (subst (λ n. slice_get s.rows n ≡ Some r) (sym h.0) here) y (sym value ∙ h.1)

pub unknown-set : {A : Type 0} (ks : List (Option A)) (i : ℕ) (x : A) → i < length ks → slice_index_or ks i None ≡ None →
    unknown (set ks i (Some x)) < unknown ks
unknown-set [] i x l e = absurd (omega arith)
unknown-set (None ∷ ks) zero x l e = omega arith
unknown-set (Some y ∷ ks) zero x l e = absurd cc
unknown-set (None ∷ ks) (suc i) x l e = omega (arith, unknown-set ks i x (omega arith) e)
unknown-set (Some y ∷ ks) (suc i) x l e = unknown-set ks i x (omega arith) e

-- where none was kept, no more are unknown, whatever is
pub unknown-least : {A : Type 0} (ks : List (Option A)) (i : ℕ) (o : Option A) → slice_index_or ks i None ≡ None →
    unknown (set ks i o) ≤ unknown ks
unknown-least [] i o e = omega arith
unknown-least (None ∷ ks) zero None e = omega arith
unknown-least (None ∷ ks) zero (Some x) e = omega arith
unknown-least (Some y ∷ ks) zero o e = absurd cc
unknown-least (None ∷ ks) (suc i) o e = omega (arith, unknown-least ks i o e)
unknown-least (Some y ∷ ks) (suc i) o e = unknown-least ks i o e

-- and fewer are, where one is
pub unknown-filled : {A : Type 0} (ks : List (Option A)) (i : ℕ) (o : Option A) → i < length ks → slice_index_or ks i None ≡ None →
    IsSome o → unknown (set ks i o) < unknown ks
unknown-filled ks i None l e h = absurd cc
unknown-filled ks i (Some x) l e h = unknown-set ks i x l e

-- once one is kept, no more are unknown
pub unknown-more : {A : Type 0} (ks : List (Option A)) (i : ℕ) (o : Option A) → IsSome o → unknown (set ks i o) ≤ unknown ks
unknown-more ks i None h = absurd cc
unknown-more [] i (Some x) h = omega arith
unknown-more (None ∷ ks) zero (Some x) h = omega arith
unknown-more (Some y ∷ ks) zero (Some x) h = omega arith
unknown-more (None ∷ ks) (suc i) (Some x) h = omega (arith, unknown-more ks i (Some x) h)
unknown-more (Some y ∷ ks) (suc i) (Some x) h = unknown-more ks i (Some x) h

-- ---- where nothing is kept, nothing lies

module _ (s : Store) (v : IsStore s) (ks : ℕ → Option Extent)
    (settled : (i : ℕ) (r : Row) → slice_get s.rows i ≡ Some r → ks i ≡ None → extent_over (defined s.declared) ks r ≡ None) where
  abbrev Found : ℕ → Type 0
  Found i = (x : Extent) × (ks i ≡ Some x)

  -- where each extent of a list is kept, all are
  all_found : (n : ℕ) (is : List ℕ) (b : ℕ) → AllBelow b is →
      ((j : ℕ) → j < b → (y : Extent) → extent_with (names s n) (tree_in (trees s.rows) j) ≡ Some y → Found j)
      → (ys : List Extent) → extents_with (names s n) (trees_of (map (tree_in (trees s.rows)) is)) ≡ Some ys → (xs : List Extent) ×
      (all_known ks is ≡ Some xs)
  all_found n [] b h found ys e = ([], refl)
  all_found n (i ∷ is) b h found ys e = by (all_found n is b h.1 found) (extent_with (names s n) (tree_in (trees s.rows) i)) refl
      (extents_with (names s n) (trees_of (map (tree_in (trees s.rows)) is))) refl e
    where
      by : ((zs : List Extent) → extents_with (names s n) (trees_of (map (tree_in (trees s.rows)) is)) ≡ Some zs → (xs : List Extent) ×
          (all_known ks is ≡ Some xs))
          → (o : Option Extent) → extent_with (names s n) (tree_in (trees s.rows) i) ≡ o → (p : Option (List Extent)) →
          extents_with (names s n) (trees_of (map (tree_in (trees s.rows)) is)) ≡ p
          → option_and_then (λ x. option_map (λ xs. x ∷ xs) p) o ≡ Some ys → (xs : List Extent) × (all_known ks (i ∷ is) ≡ Some xs)
      by ih None f p g k = absurd cc
      by ih (Some y) f None g k = absurd cc
      by ih (Some y) f (Some zs) g k =
          let first = found i h.0 y f in
          let later = ih zs g in
          (first.0 ∷ later.0, ap₂ (λ o q. option_and_then (λ x. option_map (λ xs. x ∷ xs) q) o) first.1 later.1)

  map_some : {A B : Type 0} (f : A → B) (o : Option A) (b : B) → option_map f o ≡ Some b → (a : A) × (o ≡ Some a)
  map_some f None b e = absurd cc
  map_some f (Some a) b e = (a, refl)

  -- a row of which an extent follows is kept
  must : (i : ℕ) (r : Row) → slice_get s.rows i ≡ Some r → (x : Extent) → extent_over (defined s.declared) ks r ≡ Some x → Found i
  must i r here x e = by (ks i) refl
    where
      by : (o : Option Extent) → ks i ≡ o → Found i
      by None f =
          let none = settled i r here f in
          absurd cc
      by (Some z) f = (z, f)

  -- by the number of names that are followed, and among the ids by the id
  abbrev Complete : ℕ → ℕ → Type 0
  Complete n b = (j : ℕ) → j < b → (y : Extent) → extent_with (names s n) (tree_in (trees s.rows) j) ≡ Some y → Found j

  abbrev Follows : Row → Type 0
  Follows r = (x : Extent) × (extent_over (defined s.declared) ks r ≡ Some x)

  of_parts : (n b : ℕ) (r : Row) → Complete n b → (is : List ℕ) → AllBelow b is → (f : List Extent → Extent)
      → extent_over (defined s.declared) ks r ≡ option_map (λ xs. told (f xs)) (all_known ks is)
      → (y : Extent) → option_map f (extents_with (names s n) (trees_of (map (tree_in (trees s.rows)) is))) ≡ Some y → Follows r
  of_parts n b r below is within f form y e =
      let parts = map_some f (extents_with (names s n) (trees_of (map (tree_in (trees s.rows)) is))) y e in
      let all = all_found n is b within below parts.0 parts.1 in
      (told (f all.0), form ∙ ap (option_map (λ xs. told (f xs))) all.1)

  -- where a row that names ids below b alone has an extent, one follows
  of_row : (n : ℕ) → ((k : ℕ) → suc k ≡ n → Complete k (length s.rows)) → (b : ℕ) (r : Row) → IsWithin b r → Complete n b → (y : Extent)
      → extent_with (names s n) (tree_of (trees s.rows) r) ≡ Some y → Follows r
  of_row n fewer b (row.Scalar k) within below y e = (y, e)
  of_row n fewer b (row.Pointer j) within below y e = (y, e)
  of_row n fewer b (row.Nullable j) within below y e = (y, e)
  of_row n fewer b (row.Slice j) within below y e = (y, e)
  of_row n fewer b (row.Array m j) within below y e =
      let inner = map_some (λ x. record { size = m * x.size; align = x.align }) (extent_with (names s n) (tree_in (trees s.rows) j)) y e in
      let item = below j within inner.0 inner.1 in (
        told (record { size = m * item.0.size; align = item.0.align }),
        ap
            (option_map (λ x. told (record { size = m * x.size; align = x.align }))) item.1,
      )
  of_row n fewer b (row.Struct fs) within below y e =
      of_parts n b (row.Struct fs) below (map (λ f. f.ty) fs) (FieldsBelow-ids b fs within) fields_extent refl y
      (sym (ap (λ ts. option_map fields_extent (extents_with (names s n) ts)) (parts_of_struct (trees s.rows) fs)) ∙ e)
  of_row n fewer b (row.Tuple is) within below y e = of_parts n b (row.Tuple is) below is within fields_extent refl y e
  of_row n fewer b (row.Union is) within below y e = of_parts n b (row.Union is) below is within union_extent refl y e
  of_row n fewer b (row.Error j) within below y e = below j within y e
  of_row zero fewer b (row.Named d) within below y e = absurd cc
  of_row (suc n) fewer b (row.Named d) within below y e = by (defined s.declared d) refl e
    where
      by : (o : Option ℕ) → defined s.declared d ≡ o → option_and_then (following extent_with (meaning_of s) n)
          (option_and_then (tree_at s) o) ≡ Some y → Follows (row.Named d)
      by None f g = absurd cc
      by (Some t) f g =
          let tree : tree_at s t ≡ Some (tree_in (trees s.rows) t) =
          slice_get-get_or (trees s.rows) t (Scalar keyword.Void) (omega (arith, v.defined_within d t f, length-trees s.rows)) in
          let inner = fewer n refl t (v.defined_within d t f) y
          (by_names s n (tree_in (trees s.rows) t) ∙ sym (ap (option_and_then (following extent_with (meaning_of s) n)) tree) ∙ g) in
          (inner.0, ap (option_and_then ks) f ∙ inner.1)

  up_to : (n : ℕ) → ((k : ℕ) → suc k ≡ n → Complete k (length s.rows)) → (b : ℕ) → b ≤ length s.rows → Complete n b
  up_to n fewer zero l j h y e = absurd (omega arith)
  up_to n fewer (suc b) l j h y e = by (up_to n fewer b (omega arith)) (cases_lt j b)
    where
      by : Complete n b → (j < b) ⊎ (b ≤ j) → Found j
      by ih (inl g) = ih j g y e
      by ih (inr g) =
          let same : b ≡ j = omega arith in
          let r = slice_index_or s.rows j (row.Scalar keyword.Void) in
          let here : slice_get s.rows j ≡ Some r = slice_get-get_or s.rows j (row.Scalar keyword.Void) (omega arith) in
          let found = of_row n fewer j r (v.rows_sound.within j r here) (subst (Complete n) same ih) y
          (sym (ap (extent_with (names s n))
          (get_or_from_slice_get (trees s.rows) j (tree_of (trees s.rows) r) (Scalar keyword.Void) (tree_at_row s v j r here))) ∙ e) in
          must j r here found.0 found.1

  complete : (n : ℕ) → Complete n (length s.rows)
  complete zero = up_to zero (λ k e. absurd (omega arith)) (length s.rows) (omega arith)
  complete (suc n) =
      let ih = complete n in
      up_to (suc n) (λ k e. let same : n ≡ k = omega arith in subst (λ m. Complete m (length s.rows)) same ih) (length s.rows) (omega arith)

  pub none_lies : (t : ℕ) → ks t ≡ None → (y : Extent) → ¬ LiesIn s t y
  none_lies t e y h =
      let within : t < length s.rows = omega (arith, slice_get_within (trees s.rows) t h.0 h.1, length-trees s.rows) in
      let tree = get_or_from_slice_get (trees s.rows) t h.0 (Scalar keyword.Void) h.1 in
      let found = complete h.2.0 t within y (ap (extent_with (names s h.2.0)) tree ∙ by_names s h.2.0 h.0 ∙ h.2.1) in
      let both : None ≡ Some found.0 = sym e ∙ found.1 in
      absurd cc

  -- where nothing follows for a row, which need not be in the store, its type has no extent
  pub none_follows : (r : Row) → IsWithin (length s.rows) r → extent_over (defined s.declared) ks r ≡ None → (y : Extent) →
      ¬ HasExtent s (tree_of (trees s.rows) r) y
  none_follows r within e y h =
      let found = of_row h.0 (λ k g. complete k) (length s.rows) r within (complete h.0) y
      (by_names s h.0 (tree_of (trees s.rows) r) ∙ h.1) in
      let both : None ≡ Some found.0 = sym e ∙ found.1 in
      absurd cc

-- ---- rows that wait

pub inert-none : (es : List (ℕ × Declared)) (ks : ℕ → Option Extent) (r : Row) → IsInert es r → extent_over (defined es) ks r ≡ None
inert-none es ks (row.Scalar k) h = h
inert-none es ks (row.Named d) h = ap (option_and_then ks) h
inert-none es ks (row.Pointer i) h = absurd h
inert-none es ks (row.Nullable i) h = absurd h
inert-none es ks (row.Slice i) h = absurd h
inert-none es ks (row.Array n i) h = absurd h
inert-none es ks (row.Struct fs) h = absurd h
inert-none es ks (row.Tuple is) h = absurd h
inert-none es ks (row.Union is) h = absurd h
inert-none es ks (row.Error i) h = absurd h
