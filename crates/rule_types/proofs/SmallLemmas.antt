-- Sizes of types, in this store and in later ones.
use Rattle.std.proofs.Common.{◌≡◌, ℕ, ◌*◌, false, List, Option, Some, None, refl, ap, ◌∙◌, arith}
use Rattle.std.specs.Prelude.{nat_le, min, option_map}
use Rattle.std.proofs.lemmas.Bool.Decides.{nat_tests}
use Rattle.hare_types.specs.declared.extent.Extent.{Extent}
use Rattle.hare_types.specs.declared.lists.Field.{Field}
use Rattle.hare_types.specs.declared.row.Row.TheVariants as row
use Rattle.hare_types.specs.Store.{Store}
use Rattle.hare_types.specs.Sound.{IsStore}
use Rattle.hare_types.specs.Layout.{fields_extent, union_extent}
use Rattle.hare_types.specs.Kept.{told, all_known}
use Rattle.hare_types.specs.ByIds.{extent_at}
use Rattle.hare_types.specs.Later.{IsLater}
use Rattle.hare_types.proofs.LaterLemmas.{types_stay}
use Rattle.hare_types.proofs.IdLemmas.{extent-row, id_tells}
use Rattle.hare_types.specs.Unions.{id_of}
use Rattle.hare_rules.specs.Aggregates.{is_small, field_types, fields_small, array_small}
use Rattle.hare_rules.specs.Written.{union_small}
use Rattle.hare_seen.specs.Sizes.{is_small_at}

past : (n m : ℕ) → m ≡ min n 1099511627777 → nat_le m 67108864 ≡ false → nat_le n 67108864 ≡ false
past n m e h = grind (arith, nat_tests)

-- what is known to be too large stays so
pub large_stays : (now later : Store) → IsStore now → IsLater now later → (t : ℕ) (x : Extent) → nat_le x.size 67108864 ≡ false →
    Some x ≡ option_map told (extent_at now t) → is_small_at later t ≡ false
large_stays now later v l t x h e = by (extent_at now t) refl e
  where
    by : (o : Option Extent) → extent_at now t ≡ o → Some x ≡ option_map told o → is_small_at later t ≡ false
    by None g k = absurd cc
    by (Some y) g k =
        let same : x ≡ told y = cc in
        ap (λ o. is_small (option_map (λ z. z.size) o)) ((types_stay now later v l).extent t y g) ∙ past y.size x.size
        (ap (λ z. z.size) same) h

-- ---- by rows

-- the size of a struct is that of the type which it is
module _ (f : Store) (v : IsStore f) (u : ℕ) where
  pub struct_small : (fs : List Field) → id_of f (row.Struct fs) ≡ Some u → is_small_at f u ≡ fields_small f (field_types fs)
  struct_small fs e = ap (λ o. is_small (option_map (λ x. x.size) o))
      (extent-row f u (row.Struct fs) ((id_tells f v (row.Struct fs) u).0 e)) ∙ by (all_known (extent_at f) (field_types fs))
    where
      by : (o : Option (List Extent)) → is_small (option_map (λ x. x.size) (option_map fields_extent o)) ≡
          is_small (option_map (λ xs. (fields_extent xs).size) o)
      by None = refl
      by (Some xs) = refl

  pub tuple_small : (ts : List ℕ) → id_of f (row.Tuple ts) ≡ Some u → is_small_at f u ≡ fields_small f ts
  tuple_small ts e = ap (λ o. is_small (option_map (λ x. x.size) o)) (extent-row f u (row.Tuple ts) ((id_tells f v (row.Tuple ts) u).0 e)) ∙
      by (all_known (extent_at f) ts)
    where
      by : (o : Option (List Extent)) → is_small (option_map (λ x. x.size) (option_map fields_extent o)) ≡
          is_small (option_map (λ xs. (fields_extent xs).size) o)
      by None = refl
      by (Some xs) = refl

  pub union_fits : (ts : List ℕ) → id_of f (row.Union ts) ≡ Some u → is_small_at f u ≡ union_small f ts
  union_fits ts e = ap (λ o. is_small (option_map (λ x. x.size) o)) (extent-row f u (row.Union ts) ((id_tells f v (row.Union ts) u).0 e)) ∙
      by (all_known (extent_at f) ts)
    where
      by : (o : Option (List Extent)) → is_small (option_map (λ x. x.size) (option_map union_extent o)) ≡
          is_small (option_map (λ xs. (union_extent xs).size) o)
      by None = refl
      by (Some xs) = refl

  pub array_fits : (n t : ℕ) → id_of f (row.Array n t) ≡ Some u → is_small_at f u ≡ array_small f n t
  array_fits n t e = ap (λ o. is_small (option_map (λ x. x.size) o)) (extent-row f u (row.Array n t) ((id_tells f v (row.Array n t) u).0 e))
      ∙ by (extent_at f t)
    where
      by : (o : Option Extent) → is_small (option_map (λ x. x.size)
          (option_map (λ x. let y : Extent = record { size = n * x.size; align = x.align } in y) o)) ≡
          is_small (option_map (λ x. n * x.size) o)
      by None = refl
      by (Some x) = refl
