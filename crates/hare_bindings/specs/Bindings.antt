-- What the judging of the node of a def or a global comes to. Its rows read the store, and nothing of what is known of declarations.
use Rattle.std.specs.Prelude.{◌≡◌, ℕ, List, Some, None}
use Rattle.hare_tree.specs.declared.place.Fault.{Fault}
use Rattle.hare_tree.specs.declared.stop.Stop.{Stop}
use Rattle.hare_tree.specs.declared.stop.Stop.TheVariants.{Fault as Refused, Memory}
use Rattle.hare_tree.specs.Node.{Node}
use Rattle.hare_types.specs.Store.{Store}
use Rattle.hare_types.specs.Later.{IsLater}
use Rattle.hare_typed.specs.Typed.{TypedNode}
use Rattle.hare_rules.specs.declared.declared.DeclType.{DeclType}
use Rattle.hare_rules.specs.declared.row_id.RowId.{RowId}
use Rattle.hare_rules.specs.Context.{Context}
use Rattle.hare_rules.specs.Rows.{first_failing, fault_of}
use Rattle.hare_whole.specs.Listing.{Listing}
use Rattle.hare_whole.specs.Turns.{context_of}
use Rattle.hare_turns.specs.Stages.{over}

-- the node meets its rows in each later store
abbrev pub IsBinding : Store → ℕ → Node → List TypedNode → TypedNode → Type 0
IsBinding s n t ts v =
    (p : Listing) (ds : List DeclType) (f : Store) → IsLater s f → first_failing (context_of (over p ds f) n t ts v) ≡ None

-- this is the fault of the first row that fails
pub record FailsAt (c : Context) (e : Fault) : Type 0 where
  pub row : RowId
  pub first : first_failing c ≡ Some row
  pub is : e ≡ fault_of row c

-- in each later store a fault that is told is that of its first row that fails; of want of memory nothing is said
abbrev pub IsBindingStop : Store → ℕ → Node → List TypedNode → TypedNode → Stop Fault → Type 0
IsBindingStop s n t ts v Memory = Unit {0}
IsBindingStop s n t ts v (Refused e) =
    (p : Listing) (ds : List DeclType) (f : Store) → IsLater s f → FailsAt (context_of (over p ds f) n t ts v) e
