-- The trees for which rows stand, and the rows that a store may take in.
use Rattle.std.specs.Prelude.{◌≡◌, ◌≢◌, ℕ, ◌<◌, ◌≤◌, List, [], ◌∷◌, ◌++◌, length, slice_index_or, slice_get, Some, map, Contains}
use Rattle.hare_types.specs.declared.lists.Field.{Field}
use Rattle.hare_types.specs.declared.row.Row.{Row}
use Rattle.hare_types.specs.declared.row.Row.TheVariants as row
use Rattle.hare_types.specs.declared.row.Scalar.TheVariants as keyword
use Rattle.hare_types.specs.Numbering.{IsOnce}
use Rattle.hare_types.specs.Trees.{Tree, Scalar, Pointer, Nullable, Slice, Array, Struct, Tuple, Union, Error, Named, trees_of}

-- the tree of an id, where id k stands for tree k
abbrev pub tree_in : List Tree → ℕ → Tree
tree_in ts i = slice_index_or ts i (Scalar keyword.Void)

-- the tree of a row, where the ids in it stand for these trees
abbrev pub tree_of : List Tree → Row → Tree
tree_of ts (row.Scalar k) = Scalar k
tree_of ts (row.Pointer i) = Pointer (tree_in ts i)
tree_of ts (row.Nullable i) = Nullable (tree_in ts i)
tree_of ts (row.Slice i) = Slice (tree_in ts i)
tree_of ts (row.Array n i) = Array n (tree_in ts i)
tree_of ts (row.Struct fs) = Struct (map (λ f. f.name) fs) (trees_of (map (λ f. tree_in ts f.ty) fs))
tree_of ts (row.Tuple is) = Tuple (trees_of (map (tree_in ts) is))
tree_of ts (row.Union is) = Union (trees_of (map (tree_in ts) is))
tree_of ts (row.Error i) = Error (tree_in ts i)
tree_of ts (row.Named d) = Named d

abbrev pub trees_from : List Tree → List Row → List Tree
trees_from ts [] = ts
trees_from ts (r ∷ rs) = trees_from (ts ++ tree_of ts r ∷ []) rs

-- the trees of these rows, each of which names earlier ones alone
abbrev pub trees : List Row → List Tree
trees rs = trees_from [] rs

-- ---- what is asked of a row

abbrev pub AllBelow : ℕ → List ℕ → Type 0
AllBelow n [] = Unit {0}
AllBelow n (i ∷ is) = (i < n) × AllBelow n is

abbrev pub FieldsBelow : ℕ → List Field → Type 0
FieldsBelow n [] = Unit {0}
FieldsBelow n (f ∷ fs) = (f.ty < n) × FieldsBelow n fs

-- the fields have numbers of the first n names
abbrev pub NamesBelow : ℕ → List Field → Type 0
NamesBelow n fs = (f : Field) → Contains fs f → f.name < n

-- the ids in a row are among the first n
abbrev pub IsWithin : ℕ → Row → Type 0
IsWithin n (row.Scalar k) = Unit {0}
IsWithin n (row.Pointer i) = i < n
IsWithin n (row.Nullable i) = i < n
IsWithin n (row.Slice i) = i < n
IsWithin n (row.Array m i) = i < n
IsWithin n (row.Struct fs) = FieldsBelow n fs
IsWithin n (row.Tuple is) = AllBelow n is
IsWithin n (row.Union is) = AllBelow n is
IsWithin n (row.Error i) = i < n
IsWithin n (row.Named d) = Unit {0}

abbrev pub AllAbove : ℕ → List ℕ → Type 0
AllAbove n [] = Unit {0}
AllAbove n (i ∷ is) = (n < i) × AllAbove n is

-- each number is less than all later ones
abbrev pub Ascends : List ℕ → Type 0
Ascends [] = Unit {0}
Ascends (i ∷ is) = AllAbove i is × Ascends is

-- the members of a reduced union: at least two, each once, and none of them never or itself an unnamed union
pub record AreMembers (rows : List Row) (is : List ℕ) : Type 0 where
  pub several : 2 ≤ length is
  pub ascend : Ascends is
  pub not_never : (i : ℕ) → Contains is i → slice_get rows i ≢ Some (row.Scalar keyword.Never)
  pub not_union : (i : ℕ) (js : List ℕ) → Contains is i → slice_get rows i ≢ Some (row.Union js)

-- where the row is a union, it is reduced
abbrev pub IsReduced : List Row → Row → Type 0
IsReduced rows (row.Scalar k) = Unit {0}
IsReduced rows (row.Pointer i) = Unit {0}
IsReduced rows (row.Nullable i) = Unit {0}
IsReduced rows (row.Slice i) = Unit {0}
IsReduced rows (row.Array m i) = Unit {0}
IsReduced rows (row.Struct fs) = Unit {0}
IsReduced rows (row.Tuple is) = Unit {0}
IsReduced rows (row.Union is) = AreMembers rows is
IsReduced rows (row.Error i) = Unit {0}
IsReduced rows (row.Named d) = Unit {0}

-- the rows of a store: none stands twice, each names earlier ones alone, and unions are reduced
pub record AreRows (rows : List Row) : Type 0 where
  pub once : IsOnce rows
  pub within : (i : ℕ) (r : Row) → slice_get rows i ≡ Some r → IsWithin i r
  pub reduced : (i : ℕ) (r : Row) → slice_get rows i ≡ Some r → IsReduced rows r
