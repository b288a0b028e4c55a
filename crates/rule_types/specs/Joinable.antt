-- What is left of a union.
use Rattle.std.specs.Prelude.{◌≢◌, ℕ, ◌<◌, List, [], ◌∷◌, length, Some, Contains}
use Rattle.hare_types.specs.declared.row.Row.TheVariants as row
use Rattle.hare_types.specs.declared.row.Scalar.TheVariants as keyword
use Rattle.hare_types.specs.Rows.{Ascends}
use Rattle.hare_types.specs.Store.{Store}
use Rattle.hare_types.specs.ByIds.{row_at}
use Rattle.rule_types.specs.Known.{IsKnown}

-- a type that can be a member: it is neither `never` nor an unnamed union
pub record IsMember (s : Store) (t : ℕ) : Type 0 where
  pub within : t < length s.rows
  pub not_never : row_at s t ≢ Some (row.Scalar keyword.Never)
  pub not_union : (is : List ℕ) → row_at s t ≢ Some (row.Union is)

-- they ascend, and each can be a member
pub record AreJoinable (s : Store) (ts : List ℕ) : Type 0 where
  pub ascend : Ascends ts
  pub members : (t : ℕ) → Contains ts t → IsMember s t

-- of one alone it is known whether it has a size
abbrev pub IsLoneKnown : Store → List ℕ → Type 0
IsLoneKnown s (t ∷ []) = IsKnown s t
IsLoneKnown s _ = Unit {0}
