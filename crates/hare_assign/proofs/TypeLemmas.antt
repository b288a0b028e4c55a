-- The types for which rows stand.
use Rattle.std.proofs.Common.{◌≡◌, ℕ, ◌<◌, length, Some, arith}
use Rattle.std.specs.Prelude.{slice_get}
use Rattle.std.proofs.lemmas.Option.{slice_get-get_or, slice_get_within, get_or_from_slice_get}
use Rattle.hare_types.specs.declared.row.Row.{Row}
use Rattle.hare_types.specs.declared.row.Scalar.TheVariants as keyword
use Rattle.hare_types.specs.Trees.{Scalar}
use Rattle.hare_types.specs.Rows.{tree_of, trees, IsWithin}
use Rattle.hare_types.specs.Store.{Store, tree_at}
use Rattle.hare_types.specs.Sound.{IsStore}
use Rattle.hare_types.specs.Assign.{type_at}
use Rattle.hare_types.proofs.CallerLemmas.{tree_at_row}
use Rattle.hare_types.proofs.TreeLemmas.{length-trees, IsWithin-le}

pub type_at_row : (s : Store) → IsStore s → (t : ℕ) (r : Row) → slice_get s.rows t ≡ Some r → type_at s t ≡ tree_of (trees s.rows) r
type_at_row s v t r e = get_or_from_slice_get (trees s.rows) t (tree_of (trees s.rows) r) (Scalar keyword.Void) (tree_at_row s v t r e)

pub tree_at-type : (s : Store) (t : ℕ) → t < length s.rows → tree_at s t ≡ Some (type_at s t)
tree_at-type s t h =
    let count = length-trees s.rows in
    slice_get-get_or (trees s.rows) t (Scalar keyword.Void) (omega arith)

-- ---- what rows name

pub row_within : (s : Store) → IsStore s → (t : ℕ) (r : Row) → slice_get s.rows t ≡ Some r → IsWithin (length s.rows) r
row_within s v t r e =
    let far = slice_get_within s.rows t r e in
    IsWithin-le t (length s.rows) r (omega arith) (v.rows_sound.within t r e)
