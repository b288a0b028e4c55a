-- What the answer of a judge of written types means.
use Rattle.std.specs.Prelude.{◌≡◌, ℕ, false, Some, None}
use Rattle.hare_tree.specs.declared.kind.Kind.{Kind}
use Rattle.hare_tree.specs.declared.place.Fault.{Fault}
use Rattle.hare_tree.specs.declared.stop.Stop.{Stop}
use Rattle.hare_tree.specs.declared.stop.Stop.TheVariants.{Fault as Refused, Memory}
use Rattle.hare_types.specs.declared.coercion.Ty.TheVariants as ty
use Rattle.hare_types.specs.Store.{Store}
use Rattle.hare_types.specs.Later.{IsLater}
use Rattle.hare_types.specs.ByIds.{has_size_at}
use Rattle.hare_rules.specs.declared.row_id.RowId.{RowId}
use Rattle.hare_rules.specs.Judged.{IsRefusal}
use Rattle.hare_rules.specs.Types.{type_by, type_of}
use Rattle.hare_rules.specs.Rows.{first_failing, fault_of}
use Rattle.hare_seen.specs.Sizes.{FitsAs, size_row, is_small_at}
use Rattle.rule_types.specs.declared.written.Written.{Written}
use Rattle.rule_types.specs.Contexts.{context_in, kind_in, own_failing}
use Rattle.rule_types.specs.Known.{IsKnown}

-- In each later store this is the type that the node writes. It meets its rows in each of them in which it is small, as far as its bytes
-- are known. A type may turn out to be too large by a name that is defined later: then the row that asks for it is the first that fails.
pub record IsWrittenType (s : Store) (t : Written) (u : ℕ) : Type 0 where
  pub type : (f : Store) → IsLater s f → type_of (context_in f t) ≡ Some (ty.Of u)
  pub rows : (f : Store) → IsLater s f → FitsAs f (kind_in t) u → first_failing (context_in f t) ≡ None
  pub large : (f : Store) (r : RowId) → IsLater s f → size_row f (kind_in t) u ≡ Some r → is_small_at f u ≡ false →
      first_failing (context_in f t) ≡ Some r
  pub fits : FitsAs s (kind_in t) u

-- Where a fault is told, it is in each later store that of the first row that the node fails.
abbrev pub IsStoppedType : Store → Written → Stop Fault → Type 0
IsStoppedType s t (Refused e) = (f : Store) → IsLater s f → IsRefusal (context_in f t) e
IsStoppedType s t Memory = Unit {0}

-- the same of the rows but the last, at a node of this kind
pub record IsOwnFault (s : Store) (t : Written) (k : Kind) (e : Fault) : Type 0 where
  pub row : RowId
  pub first : (f : Store) → IsLater s f → own_failing k (context_in f t) ≡ Some row
  pub is : (f : Store) → IsLater s f → fault_of row (context_in f t) ≡ e

abbrev pub IsOwnStop : Store → Written → Kind → Stop Fault → Type 0
IsOwnStop s t k (Refused e) = IsOwnFault s t k e
IsOwnStop s t k Memory = Unit {0}

-- the type and the rows but the last of a node of this kind, as `IsWrittenType` has them
pub record IsOwnType (s : Store) (t : Written) (k : Kind) (u : ℕ) : Type 0 where
  pub type : (f : Store) → IsLater s f → type_by (context_in f t) k ≡ Some (ty.Of u)
  pub rows : (f : Store) → IsLater s f → FitsAs f k u → own_failing k (context_in f t) ≡ None
  pub large : (f : Store) (r : RowId) → IsLater s f → size_row f k u ≡ Some r → is_small_at f u ≡ false →
      own_failing k (context_in f t) ≡ Some r
  pub fits : FitsAs s k u
  -- then its bytes are not looked at
  pub unsized : has_size_at s u ≡ false → (f : Store) → IsLater s f → own_failing k (context_in f t) ≡ None
  pub known : IsKnown s u
