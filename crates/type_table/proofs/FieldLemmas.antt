-- The fields of what a type comes to.
use Rattle.std.proofs.Common.{◌≡◌, ℕ, suc, ◌<◌, List, [], ◌∷◌, length, map, Some, refl, ap, sym, ◌∙◌, subst}
use Rattle.std.specs.Prelude.{slice_get}
use Rattle.std.proofs.lemmas.List.{length-map}
use Rattle.hare_types.specs.declared.lists.Field.{Field}
use Rattle.hare_types.specs.declared.row.Row.{Row}
use Rattle.hare_types.specs.declared.row.Row.TheVariants as row
use Rattle.hare_types.specs.Trees.{Tree, trees_of}
use Rattle.hare_types.specs.Rows.{tree_in, tree_of, trees}
use Rattle.hare_types.specs.Store.{Store}
use Rattle.hare_types.specs.Sound.{IsStore}
use Rattle.hare_types.specs.Bases.{IsBaseOf}
use Rattle.hare_types.specs.Layout.{IsBase}
use Rattle.hare_types.proofs.CallerLemmas.{tree_at_row}
use Rattle.hare_layout.specs.Offsets.{count, HasField}

count-trees : (us : List Tree) → count (trees_of us) ≡ length us
count-trees [] = refl
count-trees (u ∷ us) = ap suc (count-trees us)

base-row : (s : Store) → IsStore s → (t b : ℕ) (r : Row) → slice_get s.rows b ≡ Some r → (h : IsBaseOf s t b) →
    IsBase s h.0 (tree_of (trees s.rows) r)
base-row s v t b r e h =
    let both = sym h.3 ∙ tree_at_row s v b r e in
    let same : h.1 ≡ tree_of (trees s.rows) r = cc in
    subst (λ u. IsBase s h.0 u) same h.4

pub struct-field : (s : Store) → IsStore s → (t b : ℕ) (fs : List Field) → slice_get s.rows b ≡ Some (row.Struct fs) → IsBaseOf s t b →
    (k : ℕ) → k < length fs → HasField s t k
struct-field s v t b fs e h k less =
    let us = map (λ f. tree_in (trees s.rows) f.ty) fs in
    let many : length fs ≡ count (trees_of us) = sym (count-trees us ∙ length-map fs (λ f. tree_in (trees s.rows) f.ty)) in (
      h.0,
      tree_of (trees s.rows) (row.Struct fs),
      trees_of us,
      h.2,
      base-row s v t b (row.Struct fs) e h,
      refl,
      subst (λ n. k < n) many
          less,
    )

pub tuple-field : (s : Store) → IsStore s → (t b : ℕ) (is : List ℕ) → slice_get s.rows b ≡ Some (row.Tuple is) → IsBaseOf s t b → (k : ℕ) →
    k < length is → HasField s t k
tuple-field s v t b is e h k less =
    let us = map (tree_in (trees s.rows)) is in
    let many : length is ≡ count (trees_of us) = sym (count-trees us ∙ length-map is (tree_in (trees s.rows))) in
    (h.0, tree_of (trees s.rows) (row.Tuple is), trees_of us, h.2, base-row s v t b (row.Tuple is) e h, refl, subst (λ n. k < n) many less)
