-- A type is small where it is not too large, and its parts are small too.
use Rattle.std.proofs.Common.{◌≡◌, ℕ, zero, suc, ◌+◌, ◌*◌, ◌≤◌, max, List, map, Some, refl, ap, sym, ◌∙◌, subst, arith, ◌⊎◌, inl, inr}
use Rattle.std.specs.Prelude.{slice_get, option_map, option_and_then}
use Rattle.std.proofs.lemmas.Option.{slice_get_within}
use Rattle.hare_types.specs.declared.extent.Extent.{Extent}
use Rattle.hare_types.specs.declared.row.Row.{Row}
use Rattle.hare_types.specs.declared.row.Row.TheVariants as row
use Rattle.hare_types.specs.Store.{Store, definition_of}
use Rattle.hare_types.specs.Sound.{IsStore}
use Rattle.hare_types.specs.Kept.{all_known}
use Rattle.hare_types.specs.Layout.{greatest_size, greatest_align, fields_end, payload_start, fields_extent, union_extent}
use Rattle.hare_types.specs.Waiting.{NeedsRow}
use Rattle.hare_types.specs.ByIds.{row_at, bytes_over, extent_at}
use Rattle.hare_types.proofs.IdLemmas.{extent-row, extent_tells}
use Rattle.hare_layout.specs.Small.{IsSmall}
use Rattle.hare_layout.specs.Whole.{IsSmallWith}
use Rattle.hare_layout.proofs.AlignLemmas.{mapped, AreAligned, low, four, greater, greatest_align-alignment, all_aligned, types_are_aligned}
use Rattle.hare_layout.proofs.PlacesLemmas.{round_up-le, start-within, some_start, size-le, known-get}

-- ---- wholes are no smaller than their parts

pub field-le : (xs : List Extent) (k : ℕ) (x : Extent) → AreAligned xs → slice_get xs k ≡ Some x → x.size ≤ (fields_extent xs).size
field-le xs k x h e =
    let start = some_start 0 xs k (slice_get_within xs k x e) in
    let end = start-within 0 xs k start.0 x h start.1 e in
    let round = round_up-le (fields_end 0 xs) (greatest_align xs) (low (greatest_align xs) (greatest_align-alignment xs h)) in
    omega arith

member-le : (xs : List Extent) (k : ℕ) (x : Extent) → AreAligned xs → slice_get xs k ≡ Some x → x.size ≤ (union_extent xs).size
member-le xs k x h e =
    let align = greater 4 (greatest_align xs) four (greatest_align-alignment xs h) in
    let round = round_up-le (payload_start xs + greatest_size xs) (max 4 (greatest_align xs)) (low (max 4 (greatest_align xs)) align) in
    omega (arith, size-le xs k x e)

item-le : (n m : ℕ) → m ≤ suc n * m
item-le n m = omega arith

-- ---- parts

module _ (s : Store) (t : ℕ) (h : IsSmall s t) where
  no_larger : (p : ℕ) (x : Extent) → extent_at s p ≡ Some x → x.size ≤ h.extent.size → IsSmall s p
  no_larger p x e l = record { extent = x; at = e; few = omega (arith, l, h.few) }

  part_of : (f : List Extent → Extent) → ((xs : List Extent) (k : ℕ) (x : Extent) → AreAligned xs → slice_get xs k ≡ Some x →
      x.size ≤ (f xs).size)
      → (is : List ℕ) (k p : ℕ) → slice_get is k ≡ Some p → option_map f (all_known (extent_at s) is) ≡ Some h.extent → IsSmall s p
  part_of f less is k p g e =
      let all = mapped f (all_known (extent_at s) is) h.extent e in
      let here = known-get (extent_at s) is all.0 k p all.1 g in
      let fits = less all.0 k here.0 (all_aligned (extent_at s) (types_are_aligned s) is all.0 all.1) here.2 in
      no_larger p here.0 here.1 (subst (λ y. here.0.size ≤ y.size) all.2 fits)

  item : (n i : ℕ) → option_map (λ x. record { size = n * x.size; align = x.align }) (extent_at s i) ≡ Some h.extent
      → row_at s t ≡ Some (row.Array n i) → IsSmall s i ⊎ (row_at s t ≡ Some (row.Array 0 i))
  item zero i e here = inr here
  item (suc n) i e here =
      let y = mapped (λ x. record { size = suc n * x.size; align = x.align }) (extent_at s i) h.extent e in
      inl (no_larger i y.0 y.1 (subst (λ z. y.0.size ≤ z.size) y.2 (item-le n y.0.size)))

  same : (i p : ℕ) → i ≡ p → extent_at s i ≡ Some h.extent → IsSmall s p
  same i p e g = no_larger p h.extent (subst (λ n. extent_at s n ≡ Some h.extent) e g) (omega arith)

  part : (r : Row) → row_at s t ≡ Some r → (p : ℕ) → NeedsRow s.declared r p →
      bytes_over (definition_of s) (extent_at s) t r ≡ Some h.extent
      → IsSmall s p ⊎ (row_at s t ≡ Some (row.Array 0 p))
  part (row.Array n i) here p g e = subst (λ j. IsSmall s j ⊎ (row_at s t ≡ Some (row.Array 0 j))) g (item n i e here)
  part (row.Struct fs) here p g e = inl (part_of fields_extent field-le (map (λ f. f.ty) fs) g.0 p g.1 e)
  part (row.Tuple is) here p g e = inl (part_of fields_extent field-le is g.0 p g.1 e)
  part (row.Union is) here p g e = inl (part_of union_extent member-le is g.0 p g.1 e)
  part (row.Error i) here p g e = inl (same i p g e)
  part (row.Named d) here p g e = inl (same p p refl (sym (ap (option_and_then (extent_at s)) g) ∙ e))
  part (row.Scalar k) here p g e = absurd g
  part (row.Pointer i) here p g e = absurd g
  part (row.Nullable i) here p g e = absurd g
  part (row.Slice i) here p g e = absurd g

pub small_types : (s : Store) → IsStore s → (t : ℕ) → IsSmallWith s t
small_types s v t = record {
  size = (
    λ h. (h.extent, (extent_tells s v t h.extent).0 h.at, h.few),
    λ h. record { extent = h.0; at = (extent_tells s v t h.0).1 h.1; few = h.2 },
  );
  parts = λ h p g. part s t h g.0 g.1 p g.2 (sym (extent-row s t g.0 g.1) ∙ h.at);
}
