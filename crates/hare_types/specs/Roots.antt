-- Roots that are kept beside the rows of a store: the base of a type, and whether it is an error type. An error mark is known before the
-- base is.
use Rattle.std.specs.Prelude.{◌≡◌, ◌⊎◌, ℕ, true, false, List, length, slice_index_or, Some, None, Option, IsSome, option_and_then}
use Rattle.hare_types.specs.declared.root.Root.{Root}
use Rattle.hare_types.specs.declared.row.Row.{Row}
use Rattle.hare_types.specs.declared.row.Row.TheVariants as row
use Rattle.hare_types.specs.Store.{Store}
use Rattle.hare_types.specs.ByIds.{base_at, marked_at}
use Rattle.hare_types.specs.Packed.{base_in}

-- the root that is kept of an id
abbrev pub known_root : List (Option Root) → ℕ → Option Root
known_root ks i = slice_index_or ks i None

-- a row without a name and an error mark is its own base, and no error type
abbrev pub own_root : ℕ → Root
own_root i = record { base = Some i; is_error = false }

-- what is known behind an error mark, with the mark
abbrev pub with_mark : Option Root → Root
with_mark o = record { base = base_in o; is_error = true }

-- what follows for row i from the roots that are kept of others
abbrev pub root_over : (ℕ → Option ℕ) → (ℕ → Option Root) → ℕ → Row → Option Root
root_over definition ks i (row.Scalar k) = Some (own_root i)
root_over definition ks i (row.Pointer j) = Some (own_root i)
root_over definition ks i (row.Nullable j) = Some (own_root i)
root_over definition ks i (row.Slice j) = Some (own_root i)
root_over definition ks i (row.Array n j) = Some (own_root i)
root_over definition ks i (row.Struct fs) = Some (own_root i)
root_over definition ks i (row.Tuple js) = Some (own_root i)
root_over definition ks i (row.Union js) = Some (own_root i)
root_over definition ks i (row.Error j) = Some (with_mark (ks j))
root_over definition ks i (row.Named d) = option_and_then ks (definition d)

-- the type has the base that is told, and is or is not an error type
pub record IsRootOf (s : Store) (t : ℕ) (r : Root) : Type 0 where
  pub base : (b : ℕ) → r.base ≡ Some b → base_at s t ≡ Some b
  pub marked : marked_at s t ≡ Some r.is_error

-- beside each row stands nothing, or its root
pub record KeepsRoots (s : Store) (ks : List (Option Root)) : Type 0 where
  pub as_many : length ks ≡ length s.rows
  pub sound : (i : ℕ) (r : Root) → known_root ks i ≡ Some r → IsRootOf s i r

-- ---- what is kept, and what follows

-- no more follows than is kept
pub record TellsAll (kept follows : Option Root) : Type 0 where
  pub root : kept ≡ None → follows ≡ None
  pub base : base_in kept ≡ None → base_in follows ≡ None

-- more follows than is kept: a root, or its base
abbrev pub TellsMore : Option Root → Option Root → Type 0
TellsMore kept follows = IsSome follows × ((kept ≡ None) ⊎ ((base_in kept ≡ None) × IsSome (base_in follows)))
