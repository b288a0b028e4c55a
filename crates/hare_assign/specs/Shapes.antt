-- What the tests of rows look at.
use Rattle.std.specs.Prelude.{ℕ, List, length, map, Some, None, Option}
use Rattle.hare_types.specs.declared.row.Row.{Row}
use Rattle.hare_types.specs.declared.row.Scalar.{Scalar as Keyword}
use Rattle.hare_types.specs.Trees.{Tree, Trees, Scalar, Pointer, Nullable, Slice, Array, Struct, Tuple, Union, Error, Named, none, trees_of}
use Rattle.hare_types.specs.Rows.{IsWithin}
use Rattle.hare_types.specs.Store.{Store}
use Rattle.hare_types.specs.Assign.{type_at}

-- the types in the row are in the store
abbrev pub IsType : Store → Row → Type 0
IsType s r = IsWithin (length s.rows) r

-- the word that the type is
abbrev pub word_of : Tree → Option Keyword
word_of (Scalar k) = Some k
word_of (Pointer t) = None
word_of (Nullable t) = None
word_of (Slice t) = None
word_of (Array n t) = None
word_of (Struct ns ts) = None
word_of (Tuple ts) = None
word_of (Union ts) = None
word_of (Error t) = None
word_of (Named d) = None

-- the types with these ids
abbrev pub types_at : Store → List ℕ → Trees
types_at s is = trees_of (map (type_at s) is)

-- the members of a union
abbrev pub members_of : Tree → Trees
members_of (Scalar k) = none
members_of (Pointer t) = none
members_of (Nullable t) = none
members_of (Slice t) = none
members_of (Array n t) = none
members_of (Struct ns ts) = none
members_of (Tuple ts) = none
members_of (Union ts) = ts
members_of (Error t) = none
members_of (Named d) = none
