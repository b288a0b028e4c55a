-- What holds of every store.
use Rattle.std.specs.Prelude.{◌≡◌, ℕ, ◌<◌, ◌≤◌, Bool, List, length, slice_get, Some}
use Rattle.hare_types.specs.declared.lists.Field.{Field}
use Rattle.hare_types.specs.declared.row.Row.TheVariants as row
use Rattle.hare_types.specs.Numbering.{IsOnce, most}
use Rattle.hare_types.specs.Trees.{Tree}
use Rattle.hare_types.specs.Rows.{AreRows, NamesBelow}
use Rattle.hare_types.specs.Store.{Store, sized_of, definition_of, meaning_of}
use Rattle.hare_types.specs.ByValue.{has_size, HoldsByValue}

-- Numbers stand for one name, type and listed type each, fields have names of this store, definitions are of it, and no type holds itself
-- by value.
pub record IsStore (s : Store) : Type 0 where
  pub names_once : IsOnce s.names
  pub names_few : length s.names ≤ most
  pub rows_sound : AreRows s.rows
  pub rows_few : length s.rows ≤ most
  pub fields_named : (t : ℕ) (fs : List Field) → slice_get s.rows t ≡ Some (row.Struct fs) → NamesBelow (length s.names) fs
  pub listed_once : IsOnce s.listed
  pub listed_few : length s.listed ≤ most
  pub defined_within : (d t : ℕ) → definition_of s d ≡ Some t → t < length s.rows
  pub defined_sized : (d : ℕ) (u : Tree) → meaning_of s d ≡ Some u → (b : Bool) × (sized_of s d ≡ Some b) × (has_size s u ≡ Some b)
  pub defined_finite : (d : ℕ) (u : Tree) → meaning_of s d ≡ Some u → ¬ HoldsByValue s u d
