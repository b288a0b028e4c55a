-- The typed tree of a type that is written in a declaration, and its fault. Names that stand in it need not be defined yet.
use Rattle.std.specs.Prelude.{◌≡◌, ℕ, List, [], ◌∷◌}
use Rattle.hare_tree.specs.declared.place.Fault.{Fault}
use Rattle.hare_tree.specs.declared.stop.Stop.{Stop}
use Rattle.hare_tree.specs.declared.stop.Stop.TheVariants.{Fault as Refused, Memory}
use Rattle.hare_tree.specs.Node.{Node}
use Rattle.hare_types.specs.Store.{Store}
use Rattle.hare_types.specs.Later.{IsLater}
use Rattle.hare_seen.specs.Seen.{MeasuresTheSame}
use Rattle.hare_seen.specs.Sizes.{AllFit, StandIn, IsFirstLarge, too_large}
use Rattle.hare_typed.specs.Typed.{TypedNode}
use Rattle.hare_typed.specs.Erased.{erase}
use Rattle.hare_rules.specs.declared.row_id.RowId.{RowId}
use Rattle.hare_rules.specs.Context.{Setting, Context, Role}
use Rattle.hare_rules.specs.Rows.{fault_of}
use Rattle.hare_rules.specs.Finished.{bare, AllCarry, FailsIn}
use Rattle.hare_modules.specs.Uses.{place_of}
use Rattle.hare_whole.specs.Declared.{over_type, before_type}

-- this is the fault of the first row that fails at the first node that fails, where the type stands so over this store
abbrev pub HasFault : (Store → Setting) → Store → ℕ → Role → Node → Fault → Type 0
HasFault w f n role t e = (q : RowId) × (c : Context) × FailsIn (w f) (over_type (w f) n role) t before_type q c × (e ≡ fault_of q c)

-- In each later store in which no type of it has turned out to be too large, the tree is well typed; in each other one the first that has
-- is its fault.
pub record IsWrittenTree (w : Store → Setting) (s : Store) (n : ℕ) (role : Role) (t : Node) (x : TypedNode) : Type 0 where
  pub erases : erase x ≡ t
  pub plain : bare x ≡ x
  pub stands : StandIn s (x ∷ [])
  pub fits : AllFit s (x ∷ [])
  pub carries : (f : Store) → IsLater s f → AllFit f (x ∷ []) → AllCarry (w f) (over_type (w f) n role) x before_type
  pub large : (f : Store) (i : ℕ) (y : TypedNode) → IsLater s f → IsFirstLarge f (x ∷ []) i y →
      HasFault w f n role t (too_large (place_of (erase y)))

-- a fault that is told is so in each later store that knows no more of the bytes of types
abbrev pub IsWrittenStop : (Store → Setting) → Store → ℕ → Role → Node → Stop Fault → Type 0
IsWrittenStop w s n role t Memory = Unit {0}
IsWrittenStop w s n role t (Refused e) = (f : Store) → IsLater s f → MeasuresTheSame s f → HasFault w f n role t e
