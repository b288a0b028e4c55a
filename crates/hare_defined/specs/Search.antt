-- How far a search for names without a definition has come. No public clause cites this.
use Rattle.std.specs.Prelude.{◌≡◌, ◌⊎◌, ℕ, ◌<◌, List, length, slice_get, Some, IsSome, Contains}
use Rattle.hare_types.specs.declared.row.Row.{Row}
use Rattle.hare_types.specs.declared.row.Row.TheVariants as row
use Rattle.hare_types.specs.Numbering.{Continues}
use Rattle.hare_types.specs.Store.{Store, definition_of}
use Rattle.hare_types.specs.ByIds.{row_at}
use Rattle.rule_judge.specs.Defined.{made_of, IsDefined}

-- a name is defined; of another row nothing is asked
abbrev pub HasOwnDefinition : Store → Row → Type 0
HasOwnDefinition s (row.Scalar k) = Unit {0}
HasOwnDefinition s (row.Pointer i) = Unit {0}
HasOwnDefinition s (row.Nullable i) = Unit {0}
HasOwnDefinition s (row.Slice i) = Unit {0}
HasOwnDefinition s (row.Array n i) = Unit {0}
HasOwnDefinition s (row.Struct fs) = Unit {0}
HasOwnDefinition s (row.Tuple is) = Unit {0}
HasOwnDefinition s (row.Union is) = Unit {0}
HasOwnDefinition s (row.Error i) = Unit {0}
HasOwnDefinition s (row.Named d) = IsSome (definition_of s d)

-- all of these are among what is met
abbrev pub HoldsAll : (met ts : List ℕ) → Type 0
HoldsAll met ts = (t : ℕ) → Contains ts t → Contains met t

-- what is met goes on, by none but these
pub record TakesIn (old new ts : List ℕ) : Type 0 where
  pub grows : Continues old new
  pub only : (t : ℕ) → Contains new t → Contains old t ⊎ Contains ts t

-- the type has been looked at: what it is made of has been met, and it is no name without a definition
abbrev pub IsLookedAt : Store → (met : List ℕ) → ℕ → Type 0
IsLookedAt s met t = (r : Row) → row_at s t ≡ Some r → HoldsAll met (made_of s r) × HasOwnDefinition s r

-- What is met is what was known before, and then some of what the type mentions; those before place n have been looked at, or were known.
pub record IsSearch (s : Store) (t : ℕ) (known met : List ℕ) (n : ℕ) : Type 0 where
  pub grows : Continues known met
  pub begins : Contains met t
  pub within : (u : ℕ) → Contains met u → u < length s.rows
  pub mentioned : (u : ℕ) → Contains met u → IsDefined s t → IsDefined s u
  pub done : (k u : ℕ) → k < n → slice_get met k ≡ Some u → Contains known u ⊎ IsLookedAt s met u
