-- Where fields begin, one after another, by what a store tells of their extents.
use Rattle.std.proofs.Common.{◌≡◌, ℕ, zero, suc, ◌+◌, ◌-◌, ◌<◌, ◌≤◌, List, [], ◌∷◌, length, drop, map, Option, Some, None, refl, ap, sym, ◌∙◌, subst, arith}
use Rattle.std.specs.Prelude.{slice_get, option_map, option_and_then}
use Rattle.std.proofs.lemmas.List.{length-map}
use Rattle.hare_types.specs.declared.extent.Extent.{Extent}
use Rattle.hare_types.specs.declared.row.Row.{Row}
use Rattle.hare_types.specs.declared.row.Row.TheVariants as row
use Rattle.hare_types.specs.Trees.{Tree, trees_of}
use Rattle.hare_types.specs.Rows.{tree_in, tree_of, trees, AllBelow}
use Rattle.hare_types.specs.Store.{Store}
use Rattle.hare_types.specs.Sound.{IsStore}
use Rattle.hare_types.specs.Kept.{told, parts_of, all_known}
use Rattle.hare_types.specs.Layout.{round_up, field_start, fields_extent}
use Rattle.hare_types.specs.ByIds.{row_at, base_at, extent_at, fields_of, fields_at, offset_at}
use Rattle.hare_layout.specs.Small.{IsSmall}
use Rattle.hare_layout.specs.Whole as whole
use Rattle.hare_layout.specs.Whole.{FieldsLieIn}
use Rattle.hare_layout.specs.Offsets.{HoldsFields, count, HasField}
use Rattle.hare_layout.proofs.AlignLemmas.{all_aligned, types_are_aligned}
use Rattle.hare_layout.proofs.MeansLemmas.{row_within, fields_held, row_base}
use Rattle.hare_layout.proofs.PartsLemmas.{field-le}
use Rattle.hare_layout.proofs.PlacesLemmas.{then, known-length, fields-known, fields-start, fields_lie_in}
use Rattle.hare_layout.proofs.SmallLemmas.{told_all}

-- ---- one field after another

rest_some : (x : Extent) (o : Option (List Extent)) (ys : List Extent) → option_map (λ xs. x ∷ xs) o ≡ Some ys
    → (zs : List Extent) × (o ≡ Some zs) × (ys ≡ x ∷ zs)
rest_some x None ys e = absurd cc
rest_some x (Some zs) ys e = (zs, refl, cc)

module _ (ks : ℕ → Option Extent) where
  first_known : (ps : List ℕ) (k p : ℕ) (ys : List Extent) → slice_get ps k ≡ Some p → all_known ks (drop k ps) ≡ Some ys
      → (x : Extent) × (zs : List Extent) × (ks p ≡ Some x) × (all_known ks (drop (suc k) ps) ≡ Some zs) × (ys ≡ x ∷ zs)
  first_known [] k p ys e h = absurd cc
  first_known (q ∷ ps) zero p ys e h =
      let same : q ≡ p = cc in
      let first = then (λ x. option_map (λ xs. x ∷ xs) (all_known ks ps)) (ks q) ys h in
      let rest = rest_some first.0 (all_known ks ps) ys first.2 in
      (first.0, rest.0, subst (λ r. ks r ≡ Some first.0) same first.1, rest.1, rest.2)
  first_known (q ∷ ps) (suc k) p ys e h = first_known ps k p ys e h

  -- the extents from a part on are its own and the later ones'
  pub next_known : (ps : List ℕ) (k p : ℕ) (ys : List Extent) → slice_get ps k ≡ Some p → all_known ks (drop k ps) ≡ Some ys
      → (x : Extent) × (zs : List Extent) × (ks p ≡ Some x) × (all_known ks (drop (k + 1) ps) ≡ Some zs) × (ys ≡ x ∷ zs)
  next_known ps k p ys e h =
      let first = first_known ps k p ys e h in
      let next : suc k ≡ k + 1 = omega arith in
      (first.0, first.1, first.2, subst (λ j. all_known ks (drop j ps) ≡ Some first.1) next first.3, first.4)

pub start_next : (at : ℕ) (x : Extent) (zs : List Extent) (k i : ℕ) → i < k
    → field_start at (x ∷ zs) (k - i) ≡ field_start (round_up at x.align + x.size) zs (k - (i + 1))
start_next at x zs k i h =
    let next : k - i ≡ suc (k - (i + 1)) = omega arith in
    ap (field_start at (x ∷ zs)) next

pub start_here : (at : ℕ) (x : Extent) (zs : List Extent) (k i : ℕ) → k ≤ i → field_start at (x ∷ zs) (k - i) ≡ Some (round_up at x.align)
start_here at x zs k i h =
    let none : k - i ≡ 0 = omega arith in
    ap (field_start at (x ∷ zs)) none

-- behind the last field none begins
no_start : (at : ℕ) (xs : List Extent) (k : ℕ) → length xs ≤ k → None ≡ field_start at xs k
no_start at [] k h = refl
no_start at (x ∷ xs) zero h = absurd (omega arith)
no_start at (x ∷ xs) (suc k) h = no_start (round_up at x.align + x.size) xs k (omega arith)

pub start_past : (ks : ℕ → Option Extent) (ps : List ℕ) (k : ℕ) (xs : List Extent) → all_known ks ps ≡ Some xs → length ps ≤ k
    → None ≡ field_start 0 (map told xs) k
start_past ks ps k xs e h = no_start 0 (map told xs) k (omega (arith, known-length ks ps xs e, length-map xs told))

-- ---- of a type with such a field

-- the parts of a row that has fields are its fields
parts_fields : (r : Row) (is : List ℕ) → fields_of r ≡ Some is → parts_of r ≡ is
parts_fields (row.Struct fs) is e = cc
parts_fields (row.Tuple js) is e = cc
parts_fields (row.Scalar k) is e = absurd cc
parts_fields (row.Pointer i) is e = absurd cc
parts_fields (row.Nullable i) is e = absurd cc
parts_fields (row.Slice i) is e = absurd cc
parts_fields (row.Array n i) is e = absurd cc
parts_fields (row.Union js) is e = absurd cc
parts_fields (row.Error i) is e = absurd cc
parts_fields (row.Named d) is e = absurd cc

count_trees : (ts : List Tree) → count (trees_of ts) ≡ length ts
count_trees [] = refl
count_trees (t ∷ ts) = ap suc (count_trees ts)

-- the row of the base, and where the field begins
pub record Starts (s : Store) (t k : ℕ) : Type 0 where
  pub base : ℕ
  pub row : Row
  pub there : base_at s t ≡ Some base
  pub here : row_at s base ≡ Some row
  pub extents : List Extent
  pub known : all_known (extent_at s) (parts_of row) ≡ Some extents
  pub start : ℕ
  pub begins : field_start 0 (map told extents) k ≡ Some start
  pub at : offset_at s t k ≡ Some start
  pub within : start ≤ 67108864

-- a store tells the extents of the fields of a small type as they are
told_fields : (s : Store) (t : ℕ) (h : IsSmall s t) (is : List ℕ) (xs : List Extent) → all_known (extent_at s) is ≡ Some xs
    → fields_extent xs ≡ h.extent → map told xs ≡ xs
told_fields s t h is xs e whole = told_all xs (λ k x g.
    let less = field-le xs k x (all_aligned (extent_at s) (types_are_aligned s) is xs e) g in
    let size = ap (λ y. y.size) whole in
    omega (arith, h.few))

pub starts : (s : Store) → IsStore s → (t k : ℕ) → IsSmall s t → HasField s t k → Starts s t k
starts s v t k small field = record {
  base = j.0;
  row = j.1;
  there = j.2;
  here = j.3;
  extents = all.0;
  known = subst (λ l. all_known (extent_at s) l ≡ Some all.0) (sym (parts_fields j.1 is.0 is.1)) all.1;
  start = found.0;
  begins = ap (λ l. field_start 0 l k) (told_fields s t small is.0 all.0 all.1 all.2) ∙ sym (fields-start s t k is.0 all.0 fields all.1)
      ∙ found.2.begins;
  at = found.2.begins;
  within = omega (arith, lie.within k found.0 found.1 found.2, small.few);
}
  where
    j : (j : ℕ) × (r : Row) × (base_at s t ≡ Some j) × (row_at s j ≡ Some r) × (tree_of (trees s.rows) r ≡ field.1)
    j = row_base s v t field.0 field.1 field.3 field.4

    is : (is : List ℕ) × (fields_of j.1 ≡ Some is) × (trees_of (map (tree_in (trees s.rows)) is) ≡ field.2) × AllBelow (length s.rows) is
    is = fields_held s v j.1 field.2 (row_within s v j.0 j.1 j.3) (subst (λ w. HoldsFields w field.2) (sym j.4) field.5)

    fields : fields_at s t ≡ Some is.0
    fields = ap (option_and_then (λ i. option_and_then fields_of (row_at s i))) j.2 ∙ ap (option_and_then fields_of) j.3 ∙ is.1

    all : (xs : List Extent) × (all_known (extent_at s) is.0 ≡ Some xs) × (fields_extent xs ≡ small.extent)
    all = fields-known s t small.extent is.0 small.at fields

    lie : FieldsLieIn s t small.extent
    lie = fields_lie_in s t small.extent small.at

    many : count field.2 ≡ length is.0
    many = ap count (sym is.2) ∙ count_trees (map (tree_in (trees s.rows)) is.0) ∙ length-map is.0 (tree_in (trees s.rows))

    found : (start : ℕ) × (x : Extent) × whole.HasField s t k start x
    found = lie.placed is.0 k fields (omega (arith, many, field.6))
