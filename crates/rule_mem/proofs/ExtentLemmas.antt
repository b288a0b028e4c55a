-- Where each name that a type mentions is defined, its extent is that over every later store.
use Rattle.std.proofs.Common.{◌≡◌, ℕ, zero, suc, ◌*◌, ◌<◌, ◌≤◌, List, [], ◌∷◌, length, map, Option, Some, None, IsSome, refl, ap, sym, ◌∙◌, subst, arith}
use Rattle.std.specs.Prelude.{slice_get, slice_index_or, Contains, option_map, option_and_then}
use Rattle.std.specs.List.{cons_option}
use Rattle.std.proofs.lemmas.Option.{slice_get-get_or}
use Rattle.hare_types.specs.declared.extent.Extent.{Extent}
use Rattle.hare_types.specs.declared.lists.Field.{Field}
use Rattle.hare_types.specs.declared.row.Row.{Row}
use Rattle.hare_types.specs.declared.row.Row.TheVariants as row
use Rattle.hare_types.specs.declared.row.Scalar.TheVariants as keyword
use Rattle.hare_types.specs.Rows.{AllBelow, FieldsBelow, IsWithin}
use Rattle.hare_types.specs.Store.{Store, definition_of}
use Rattle.hare_types.specs.Sound.{IsStore}
use Rattle.hare_types.specs.Kept.{all_known}
use Rattle.hare_types.specs.ByIds.{row_at, found_within, found, bytes_over, extent_at}
use Rattle.hare_types.specs.Later.{IsLater}
use Rattle.hare_types.proofs.GrowthLemmas.{option_map-more, option_and_then-more}
use Rattle.hare_types.proofs.IdLemmas.{extent-row}
use Rattle.hare_types.proofs.LaterLemmas.{types_stay}
use Rattle.rule_judge.specs.Defined.{made_of, Mentions, itself, through, IsDefined}
use Rattle.rule_judge.proofs.HeldLemmas.{first_of}

-- ---- the parts of a defined type

below : (n : ℕ) (ts : List ℕ) (i : ℕ) → AllBelow n ts → Contains ts i → i < n
below n [] i h c = absurd (omega (arith, c.1))
below n (t ∷ ts) i h (zero, l, e) = let same : t ≡ i = e in omega (arith, h.0)
below n (t ∷ ts) i h (suc k, l, e) = below n ts i h.1 (k, omega arith, e)

fields_below : (n : ℕ) (fs : List Field) (i : ℕ) → FieldsBelow n fs → Contains (map (λ f. f.ty) fs) i → i < n
fields_below n [] i h c = absurd (omega (arith, c.1))
fields_below n (f ∷ fs) i h (zero, l, e) = let same : f.ty ≡ i = e in omega (arith, h.0)
fields_below n (f ∷ fs) i h (suc k, l, e) = fields_below n fs i h.1 (k, omega arith, e)

only : (t i : ℕ) → Contains (t ∷ []) i → t ≡ i
only t i (zero, l, e) = e
only t i (suc k, l, e) = absurd (omega arith)

module _ (s : Store) (v : IsStore s) where
  -- the types in a row of the store are in it
  held_within : (t : ℕ) (r : Row) (i : ℕ) → row_at s t ≡ Some r → t < length s.rows → Contains (made_of s r) i → i < length s.rows
  held_within t r i e h c = by r (v.rows_sound.within t r e) c
    where
      named : (o : Option ℕ) (d : ℕ) → definition_of s d ≡ o → Contains (cons_option o []) i → i < length s.rows
      named None d f c = absurd (omega (arith, c.1))
      named (Some u) d f c = let same = only u i c in omega (arith, v.defined_within d u f)

      by : (q : Row) → IsWithin t q → Contains (made_of s q) i → i < length s.rows
      by (row.Scalar k) w c = absurd (omega (arith, c.1))
      by (row.Pointer j) w c = let same = only j i c in omega arith
      by (row.Nullable j) w c = let same = only j i c in omega arith
      by (row.Slice j) w c = let same = only j i c in omega arith
      by (row.Array n j) w c = let same = only j i c in omega arith
      by (row.Struct fs) w c = omega (arith, fields_below t fs i w c)
      by (row.Tuple js) w c = omega (arith, below t js i w c)
      by (row.Union js) w c = omega (arith, below t js i w c)
      by (row.Error j) w c = let same = only j i c in omega arith
      by (row.Named d) w c = named (definition_of s d) d refl c

  pub part_defined : (t : ℕ) (r : Row) (i : ℕ) → IsDefined s t → row_at s t ≡ Some r → Contains (made_of s r) i → IsDefined s i
  part_defined t r i h e c = record {
    within = held_within t r i e h.within c;
    names = λ u d m k. h.names u d (through r e c m) k;
  }

-- ---- extents

some_of : {A : Type 0} (o : Option A) → IsSome o → (a : A) × (o ≡ Some a)
some_of None h = cc
some_of (Some a) h = (a, refl)

module _ (now later : Store) (v : IsStore now) (l : IsLater now later) where
  abbrev rule : (ℕ → Option Extent) → ℕ → Row → Option Extent
  rule = bytes_over (definition_of later)

  -- what is found over the later store was known already
  abbrev WasKnown : ℕ → ℕ → Type 0
  WasKnown n t = (x : Extent) → found_within later rule n t ≡ Some x → extent_at now t ≡ Some x

  all_known-back : (n : ℕ) (is : List ℕ) → ((i : ℕ) → Contains is i → WasKnown n i) → (xs : List Extent) →
      all_known (found_within later rule n) is ≡ Some xs
      → all_known (extent_at now) is ≡ Some xs
  all_known-back n [] h xs e = e
  all_known-back n (i ∷ is) h xs e =
      option_and_then-more (λ x. option_map (λ ys. x ∷ ys) (all_known (found_within later rule n) is))
      (λ x. option_map (λ ys. x ∷ ys) (all_known (extent_at now) is))
      (λ x. option_map-more (λ ys. x ∷ ys) (all_known (found_within later rule n) is) (all_known (extent_at now) is)
      (all_known-back n is (λ j c. h j (suc c.0, omega (arith, c.1), c.2))))
      (found_within later rule n i) (extent_at now i) (h i (first_of i is)) xs e

  by_row : (n t : ℕ) (r : Row) → IsDefined now t → row_at now t ≡ Some r → ((i : ℕ) → Contains (made_of now r) i → WasKnown n i) →
      (x : Extent)
      → bytes_over (definition_of later) (found_within later rule n) t r ≡ Some x
      → bytes_over (definition_of now) (extent_at now) t r ≡ Some x
  by_row n t (row.Scalar k) d e h x k' = k'
  by_row n t (row.Pointer j) d e h x k = k
  by_row n t (row.Nullable j) d e h x k = k
  by_row n t (row.Slice j) d e h x k = k
  by_row n t (row.Array m j) d e h x k = option_map-more _ (found_within later rule n j) (extent_at now j) (h j (first_of j [])) x k
  by_row n t (row.Struct fs) d e h x k =
      option_map-more _ (all_known (found_within later rule n) (map (λ f. f.ty) fs)) (all_known (extent_at now) (map (λ f. f.ty) fs))
      (all_known-back n (map (λ f. f.ty) fs) h) x k
  by_row n t (row.Tuple js) d e h x k = option_map-more _ (all_known (found_within later rule n) js) (all_known (extent_at now) js)
      (all_known-back n js h) x k
  by_row n t (row.Union js) d e h x k = option_map-more _ (all_known (found_within later rule n) js) (all_known (extent_at now) js)
      (all_known-back n js h) x k
  by_row n t (row.Error j) d e h x k = h j (first_of j []) x k
  by_row n t (row.Named q) d e h x k =
      let u = some_of (definition_of now q) (d.names t q itself e) in
      let there : Contains (cons_option (definition_of now q) []) u.0 =
      subst (λ o. Contains (cons_option o []) u.0) (sym u.1) (first_of u.0 []) in
      let found_then : found_within later rule n u.0 ≡ Some x =
      sym (ap (option_and_then (found_within later rule n)) (l.grows.defined q u.0 u.1)) ∙ k in
      ap (option_and_then (extent_at now)) u.1 ∙ h u.0 there x found_then

  was_known : (n t : ℕ) → IsDefined now t → WasKnown n t
  was_known zero t d x e = absurd cc
  was_known (suc n) t d x e =
      let r = slice_index_or now.rows t (row.Scalar keyword.Void) in
      let here : row_at now t ≡ Some r = slice_get-get_or now.rows t (row.Scalar keyword.Void) d.within in
      let there : row_at later t ≡ Some r = (types_stay now later v l).row t r here in
      let k : bytes_over (definition_of later) (found_within later rule n) t r ≡ Some x =
      sym (ap (option_and_then (rule (found_within later rule n) t)) there) ∙ e in
      extent-row now t r here ∙ by_row n t r d here (λ i c. was_known n i (part_defined now v t r i d here c)) x k

  pub extent_stays : (t : ℕ) → IsDefined now t → extent_at later t ≡ extent_at now t
  extent_stays t d = by (extent_at now t) refl (extent_at later t) refl
    where
      by : (o : Option Extent) → extent_at now t ≡ o → (p : Option Extent) → extent_at later t ≡ p → extent_at later t ≡ extent_at now t
      by (Some x) e p g = (types_stay now later v l).extent t x e ∙ sym e
      by None e None g = g ∙ sym e
      by None e (Some x) g =
          let both : None ≡ Some x = sym e ∙ was_known (length later.rows) t d x g in
          absurd cc
