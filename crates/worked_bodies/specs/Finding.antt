-- What the typing rules make of a body: the typed tree that it has, or its first fault.
use Rattle.std.specs.Prelude.{◌≡◌, List, Bool, true, false, Result, Ok, Err}
use Rattle.hare_tree.specs.declared.place.Fault.{Fault}
use Rattle.hare_tree.specs.Node.{Node}
use Rattle.hare_tree.specs.Shape.{is_shaped}
use Rattle.hare_typed.specs.Typed.{TypedNode}
use Rattle.hare_typed.specs.Coats.{coat}
use Rattle.hare_rules.specs.Context.{Setting, Entry}
use Rattle.hare_rules.specs.Above.{Above}
use Rattle.hare_rules.specs.Flow.{flow_at, all_settled}
use Rattle.hare_rules.specs.Rows.{fault_of}
use Rattle.hare_rules.specs.Finished.{IsTheTree, IsTheFault, expression}
use Rattle.hare_inference.specs.Inferred.{Reason, Fails, Lacks, Found, infer}

pub data Finding : Type 0 where
  Well : TypedNode → Finding  -- it is well typed, and this is its typed tree
  Faulty : Fault → Finding  -- its first fault
  Odd : Finding  -- it is no expression, or the store lacks a type of it

abbrev pub finding_of : Result Found Reason → Finding
finding_of (Ok r) = Well (coat (all_settled r.flow) r.tree)
finding_of (Err (Fails r c)) = Faulty (fault_of r c)
finding_of (Err (Lacks c)) = Odd

abbrev pub where_shaped : Bool → Finding → Finding
where_shaped true o = o
where_shaped false o = Odd

-- what a body comes to, of which these are the bindings
abbrev pub finding : Setting → Above → List Entry → Node → Finding
finding w a ls t = where_shaped (is_shaped expression t) (finding_of (infer w a t (flow_at ls)))

-- A finding says what the definitions of well-typed trees and of first faults say.
pub record IsExactOf (w : Setting) (a : Above) (ls : List Entry) (t : Node) : Type 0 where
  pub well : (u : TypedNode) → finding w a ls t ≡ Well u → IsTheTree w a (flow_at ls) t u
  pub faulty : (e : Fault) → finding w a ls t ≡ Faulty e → IsTheFault w a (flow_at ls) t e

abbrev pub FindingsAreExact : Type 0
FindingsAreExact = (w : Setting) (a : Above) (ls : List Entry) (t : Node) → IsExactOf w a ls t
