-- Offsets by ids are those of the trees for which the ids stand.
use Rattle.std.proofs.Common.{◌≡◌, ℕ, List, [], ◌∷◌, length, map, Option, Some, None, refl, ap, ap₂, sym, ◌∙◌, subst, arith}
use Rattle.std.specs.Prelude.{option_map, option_and_then}
use Rattle.std.proofs.lemmas.Option.{slice_get_within}
use Rattle.hare_types.specs.declared.extent.Extent.{Extent}
use Rattle.hare_types.specs.declared.row.Row.{Row}
use Rattle.hare_types.specs.declared.row.Row.TheVariants as row
use Rattle.hare_types.specs.Trees.{Tree, Trees, Union, trees_of}
use Rattle.hare_types.specs.Rows.{tree_in, tree_of, trees, AllBelow, IsWithin}
use Rattle.hare_types.specs.Store.{Store, tree_at}
use Rattle.hare_types.specs.Sound.{IsStore}
use Rattle.hare_types.specs.Kept.{all_known}
use Rattle.hare_types.specs.Layout.{IsBase, HasExtent, HaveExtents, field_start, payload_start}
use Rattle.hare_types.specs.ByIds.{row_at, base_at, extent_at, fields_of, members_of, fields_at, members_at, offset_at, payload_at}
use Rattle.hare_types.proofs.CallerLemmas.{tree_at_row}
use Rattle.hare_types.proofs.IdLemmas.{base_tells, extent_tells, row_of_tree}
use Rattle.hare_types.proofs.KeptLemmas.{FieldsBelow-ids, parts_of_struct}
use Rattle.hare_types.proofs.TreeLemmas.{IsWithin-le}
use Rattle.hare_layout.specs.Offsets.{HoldsFields, StartsAt, PayloadStartsAt, OffsetsMean}
use Rattle.hare_layout.proofs.AlignLemmas.{mapped}
use Rattle.hare_layout.proofs.PlacesLemmas.{then}
use Rattle.hare_layout.proofs.SpreadLemmas.{tree_at-id, id-tree_at, base_stands}

module _ (s : Store) (v : IsStore s) where
  -- the trees of these ids
  abbrev Parts : List ℕ → Trees
  Parts is = trees_of (map (tree_in (trees s.rows)) is)

  -- ---- extents

  known_have : (is : List ℕ) (xs : List Extent) → AllBelow (length s.rows) is → all_known (extent_at s) is ≡ Some xs
      → HaveExtents s (Parts is) xs
  known_have [] xs h e =
      let same : [] ≡ xs = cc in
      sym same
  known_have (i ∷ is) xs h e = by (extent_at s i) refl (all_known (extent_at s) is) refl e (λ ys g. known_have is ys h.1 g)
    where
      by : (o : Option Extent) → extent_at s i ≡ o → (p : Option (List Extent)) → all_known (extent_at s) is ≡ p
          → option_and_then (λ x. option_map (λ ys. x ∷ ys) p) o ≡ Some xs
          → ((ys : List Extent) → all_known (extent_at s) is ≡ Some ys → HaveExtents s (Parts is) ys) → HaveExtents s (Parts (i ∷ is)) xs
      by None f p g k ih = absurd cc
      by (Some x) f None g k ih = absurd cc
      by (Some x) f (Some ys) g k ih =
          let same : xs ≡ x ∷ ys = cc in
          let lies = (extent_tells s v i x).0 f in
          (x, ys, same, subst (λ u. HasExtent s u x) (sym (id-tree_at s i lies.0 lies.1).1) lies.2, ih ys g)

  have_known : (is : List ℕ) (xs : List Extent) → AllBelow (length s.rows) is → HaveExtents s (Parts is) xs
      → all_known (extent_at s) is ≡ Some xs
  have_known [] xs h e = ap Some (sym e)
  have_known (i ∷ is) xs h (x, rest, same, extent, later) =
      let first = (extent_tells s v i x).1 (tree_in (trees s.rows) i, tree_at-id s i h.0, extent) in
      ap₂ (λ o p. option_and_then (λ y. option_map (λ ys. y ∷ ys) p) o) first (have_known is rest h.1 later) ∙ ap Some (sym same)

  -- ---- rows

  pub row_within : (j : ℕ) (r : Row) → row_at s j ≡ Some r → IsWithin (length s.rows) r
  row_within j r e = IsWithin-le j (length s.rows) r (omega (arith, slice_get_within s.rows j r e)) (v.rows_sound.within j r e)

  -- the fields of a row, and of its tree
  holds_fields : (r : Row) (is : List ℕ) → IsWithin (length s.rows) r → fields_of r ≡ Some is
      → HoldsFields (tree_of (trees s.rows) r) (Parts is) × AllBelow (length s.rows) is
  holds_fields (row.Struct fs) is w e =
      let same : map (λ f. f.ty) fs ≡ is = cc in
      (parts_of_struct (trees s.rows) fs ∙ ap Parts same, subst (AllBelow (length s.rows)) same (FieldsBelow-ids (length s.rows) fs w))
  holds_fields (row.Tuple js) is w e =
      let same : js ≡ is = cc in
      (ap Parts same, subst (AllBelow (length s.rows)) same w)
  holds_fields (row.Scalar k) is w e = absurd cc
  holds_fields (row.Pointer i) is w e = absurd cc
  holds_fields (row.Nullable i) is w e = absurd cc
  holds_fields (row.Slice i) is w e = absurd cc
  holds_fields (row.Array n i) is w e = absurd cc
  holds_fields (row.Union js) is w e = absurd cc
  holds_fields (row.Error i) is w e = absurd cc
  holds_fields (row.Named d) is w e = absurd cc

  pub fields_held : (r : Row) (ts : Trees) → IsWithin (length s.rows) r → HoldsFields (tree_of (trees s.rows) r) ts
      → (is : List ℕ) × (fields_of r ≡ Some is) × (Parts is ≡ ts) × AllBelow (length s.rows) is
  fields_held (row.Struct fs) ts w h =
      let same = sym (parts_of_struct (trees s.rows) fs) ∙ h in
      (map (λ f. f.ty) fs, refl, same, FieldsBelow-ids (length s.rows) fs w)
  fields_held (row.Tuple js) ts w h = (js, refl, h, w)
  fields_held (row.Scalar k) ts w h = absurd h
  fields_held (row.Pointer i) ts w h = absurd h
  fields_held (row.Nullable i) ts w h = absurd h
  fields_held (row.Slice i) ts w h = absurd h
  fields_held (row.Array n i) ts w h = absurd h
  fields_held (row.Union js) ts w h = absurd h
  fields_held (row.Error i) ts w h = absurd h
  fields_held (row.Named d) ts w h = absurd h

  -- the members of a row, and of its tree
  members_held : (r : Row) (ts : Trees) → IsWithin (length s.rows) r → tree_of (trees s.rows) r ≡ Union ts
      → (is : List ℕ) × (members_of r ≡ Some is) × (Parts is ≡ ts) × AllBelow (length s.rows) is
  members_held (row.Union js) ts w h =
      let same : Parts js ≡ ts = cc in
      (js, refl, same, w)
  members_held (row.Scalar k) ts w h = absurd cc
  members_held (row.Pointer i) ts w h = absurd cc
  members_held (row.Nullable i) ts w h = absurd cc
  members_held (row.Slice i) ts w h = absurd cc
  members_held (row.Array n i) ts w h = absurd cc
  members_held (row.Struct fs) ts w h = absurd cc
  members_held (row.Tuple js) ts w h = absurd cc
  members_held (row.Error i) ts w h = absurd cc
  members_held (row.Named d) ts w h = absurd cc

  holds_members : (r : Row) (is : List ℕ) → IsWithin (length s.rows) r → members_of r ≡ Some is
      → (tree_of (trees s.rows) r ≡ Union (Parts is)) × AllBelow (length s.rows) is
  holds_members (row.Union js) is w e =
      let same : js ≡ is = cc in
      (ap (λ ks. Union (Parts ks)) same, subst (AllBelow (length s.rows)) same w)
  holds_members (row.Scalar k) is w e = absurd cc
  holds_members (row.Pointer i) is w e = absurd cc
  holds_members (row.Nullable i) is w e = absurd cc
  holds_members (row.Slice i) is w e = absurd cc
  holds_members (row.Array n i) is w e = absurd cc
  holds_members (row.Struct fs) is w e = absurd cc
  holds_members (row.Tuple js) is w e = absurd cc
  holds_members (row.Error i) is w e = absurd cc
  holds_members (row.Named d) is w e = absurd cc

  -- ---- bases

  -- the base of a type is the tree of a row
  base_row : (t j : ℕ) → base_at s t ≡ Some j → (r : Row) → row_at s j ≡ Some r
      → (u : Tree) × (tree_at s t ≡ Some u) × IsBase s u (tree_of (trees s.rows) r)
  base_row t j e r here =
      let h = (base_tells s v t j).0 e in
      let both = sym h.3 ∙ tree_at_row s v j r here in
      let same : h.1 ≡ tree_of (trees s.rows) r = cc in
      (h.0, h.2, subst (IsBase s h.0) same h.4)

  pub row_base : (t : ℕ) (u b : Tree) → tree_at s t ≡ Some u → IsBase s u b
      → (j : ℕ) × (r : Row) × (base_at s t ≡ Some j) × (row_at s j ≡ Some r) × (tree_of (trees s.rows) r ≡ b)
  row_base t u b e h =
      let j = base_stands s v h.0 u b t e h.1 in
      let r = row_of_tree s j.0 b j.1 in
      let both = sym (tree_at_row s v j.0 r.0 r.1) ∙ j.1 in
      (j.0, r.0, (base_tells s v t j.0).1 (u, b, e, j.1, h), r.1, cc)

  -- ---- fields

  field_starts : (t k o : ℕ) → offset_at s t k ≡ Some o → StartsAt s t k o
  field_starts t k o e =
      let xs = then (λ ys. field_start 0 ys k) (option_and_then (all_known (extent_at s)) (fields_at s t)) o e in
      let is = then (all_known (extent_at s)) (fields_at s t) xs.0 xs.1 in
      let j = then (λ b. option_and_then fields_of (row_at s b)) (base_at s t) is.0 is.1 in
      let r = then fields_of (row_at s j.0) is.0 j.2 in
      let base = base_row t j.0 j.1 r.0 r.1 in
      let holds = holds_fields r.0 is.0 (row_within j.0 r.0 r.1) r.2 in
      (base.0, tree_of (trees s.rows) r.0, Parts is.0, xs.0, base.1, base.2, holds.0, known_have is.0 xs.0 holds.1 is.2, xs.2)

  start_field : (t k o : ℕ) → StartsAt s t k o → offset_at s t k ≡ Some o
  start_field t k o (u, b, ts, xs, e, base, holds, extents, start) =
      let j = row_base t u b e base in
      let is = fields_held j.1 ts (row_within j.0 j.1 j.3) (subst (λ w. HoldsFields w ts) (sym j.4) holds) in
      let fields : fields_at s t ≡ Some is.0 = ap (option_and_then (λ i. option_and_then fields_of (row_at s i))) j.2
      ∙ ap (option_and_then fields_of) j.3 ∙ is.1 in
      let known = have_known is.0 xs is.3 (subst (λ ws. HaveExtents s ws xs) (sym is.2) extents) in
      ap (λ p. option_and_then (λ ys. field_start 0 ys k) (option_and_then (all_known (extent_at s)) p)) fields ∙ ap
      (option_and_then (λ ys. field_start 0 ys k)) known ∙ start

  -- ---- payloads

  payload_starts : (t o : ℕ) → payload_at s t ≡ Some o → PayloadStartsAt s t o
  payload_starts t o e =
      let xs = mapped payload_start (option_and_then (all_known (extent_at s)) (members_at s t)) o e in
      let is = then (all_known (extent_at s)) (members_at s t) xs.0 xs.1 in
      let j = then (λ b. option_and_then members_of (row_at s b)) (base_at s t) is.0 is.1 in
      let r = then members_of (row_at s j.0) is.0 j.2 in
      let base = base_row t j.0 j.1 r.0 r.1 in
      let holds = holds_members r.0 is.0 (row_within j.0 r.0 r.1) r.2 in
      (base.0, Parts is.0, xs.0, base.1, subst (IsBase s base.0) holds.0 base.2, known_have is.0 xs.0 holds.1 is.2, xs.2)

  start_payload : (t o : ℕ) → PayloadStartsAt s t o → payload_at s t ≡ Some o
  start_payload t o (u, ts, xs, e, base, extents, start) =
      let j = row_base t u (Union ts) e base in
      let is = members_held j.1 ts (row_within j.0 j.1 j.3) j.4 in
      let members : members_at s t ≡ Some is.0 = ap (option_and_then (λ i. option_and_then members_of (row_at s i))) j.2
      ∙ ap (option_and_then members_of) j.3 ∙ is.1 in
      let known = have_known is.0 xs is.3 (subst (λ ws. HaveExtents s ws xs) (sym is.2) extents) in
      ap (λ p. option_map payload_start (option_and_then (all_known (extent_at s)) p)) members ∙ ap (option_map payload_start) known ∙ ap
      Some start

  pub offsets_mean : OffsetsMean s
  offsets_mean = record {
    field = λ t k o. (field_starts t k o, start_field t k o);
    payload = λ t o.
        (payload_starts t o, start_payload t o);
  }
