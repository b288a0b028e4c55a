-- Which types have a size, and which names a type holds by value.
use Rattle.std.specs.Prelude.{◌≡◌, ℕ, Bool, true, List, [], ◌∷◌, ◌++◌, Some, None, Option, is_some, Contains}
use Rattle.hare_types.specs.declared.row.Scalar.{Scalar as Keyword}
use Rattle.hare_types.specs.declared.row.Scalar.TheVariants.{Void, Never, Opaque, Bool as BoolWord, Rune, Str, I8, I16, I32, I64, U8, U16, U32, U64, Int, Uint, Size}
use Rattle.hare_types.specs.Trees.{Tree, Trees, Scalar, Pointer, Nullable, Slice, Array, Struct, Tuple, Union, Error, Named, none, more}
use Rattle.hare_types.specs.Store.{Store, sized_of, meaning_of}

-- the bytes of a value of the type, where it has a size
abbrev pub scalar_size : Keyword → Option ℕ
scalar_size Void = Some 0
scalar_size Never = None
scalar_size Opaque = None
scalar_size BoolWord = Some 1
scalar_size Rune = Some 4
scalar_size Str = Some 24
scalar_size I8 = Some 1
scalar_size I16 = Some 2
scalar_size I32 = Some 4
scalar_size I64 = Some 8
scalar_size U8 = Some 1
scalar_size U16 = Some 2
scalar_size U32 = Some 4
scalar_size U64 = Some 8
scalar_size Int = Some 4
scalar_size Uint = Some 4
scalar_size Size = Some 8

-- Whether a type has a size, where `sized` says it of names: never and opaque have none, an error type as much as its inner type. None
-- where it comes down to a name of which nothing is known.
abbrev pub has_size_by : (ℕ → Option Bool) → Tree → Option Bool
has_size_by sized (Scalar k) = Some (is_some (scalar_size k))
has_size_by sized (Pointer t) = Some true
has_size_by sized (Nullable t) = Some true
has_size_by sized (Slice t) = Some true
has_size_by sized (Array n t) = Some true
has_size_by sized (Struct ns ts) = Some true
has_size_by sized (Tuple ts) = Some true
has_size_by sized (Union ts) = Some true
has_size_by sized (Error t) = has_size_by sized t
has_size_by sized (Named d) = sized d

abbrev pub has_size : Store → Tree → Option Bool
has_size s = has_size_by (sized_of s)

abbrev mutual
  -- the names that stand in the type but behind no pointer and no slice
  pub held : Tree → List ℕ
  held (Scalar k) = []
  held (Pointer t) = []
  held (Nullable t) = []
  held (Slice t) = []
  held (Array n t) = held t
  held (Struct ns ts) = held_in ts
  held (Tuple ts) = held_in ts
  held (Union ts) = held_in ts
  held (Error t) = held t
  held (Named d) = d ∷ []

  pub held_in : Trees → List ℕ
  held_in none = []
  held_in (more t ts) = held t ++ held_in ts

-- A way from the type to the name d, where `meaning` says what names are defined to be: each name on it is held by what the one before
-- it is defined to be.
abbrev pub Leads : (ℕ → Option Tree) → Tree → List ℕ → ℕ → Type 0
Leads meaning t [] d = Contains (held t) d
Leads meaning t (e ∷ way) d = Contains (held t) e × ((u : Tree) × (meaning e ≡ Some u) × Leads meaning u way d)

-- the type is or holds by value the name d, definitions followed
abbrev pub HoldsByValue : Store → Tree → ℕ → Type 0
HoldsByValue s t d = (way : List ℕ) × Leads (meaning_of s) t way d
