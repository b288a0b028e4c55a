-- Which types wait for which names.
use Rattle.std.specs.Prelude.{◌≡◌, ℕ, List, [], ◌∷◌, map, Option, Some, None, Contains}
use Rattle.std.specs.Option.{option_to_list}
use Rattle.hare_types.specs.declared.row.Row.{Row}
use Rattle.hare_types.specs.declared.row.Row.TheVariants as row
use Rattle.hare_types.specs.Store.{Store, definition_of}
use Rattle.hare_types.specs.ByIds.{row_at}

-- What a row holds by value: an array its element, a struct its fields, a tuple its components, a union its members, an error type what it
-- marks, and a name what it stands for, where it is defined.
abbrev pub held_by : (ℕ → Option ℕ) → Row → List ℕ
held_by definition (row.Scalar k) = []
held_by definition (row.Pointer i) = []
held_by definition (row.Nullable i) = []
held_by definition (row.Slice i) = []
held_by definition (row.Array n i) = i ∷ []
held_by definition (row.Struct fs) = map (λ f. f.ty) fs
held_by definition (row.Tuple is) = is
held_by definition (row.Union is) = is
held_by definition (row.Error i) = i ∷ []
held_by definition (row.Named d) = option_to_list (definition d)

-- what the type with this id holds by value has this id
pub record Holds (s : Store) (t i : ℕ) : Type 0 where
  pub row : Row
  pub stands : row_at s t ≡ Some row
  pub held : Contains (held_by (definition_of s) row) i

-- The type cannot be measured, since it is or holds by value this name, which is not defined.
pub data WaitsFor (s : Store) : (type name : ℕ) → Type 0 where
  undefined : (t d : ℕ) → row_at s t ≡ Some (row.Named d) → definition_of s d ≡ None → WaitsFor s t d
  holding : (t i d : ℕ) → Holds s t i → WaitsFor s i d → WaitsFor s t d
