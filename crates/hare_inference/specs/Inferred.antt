-- What the typing rules give to an untyped tree: from kids to parent, each node gets its type, or there is a reason why it has none. Laws
-- of this crate say that this is just what well-typed trees and first faults are, which are defined without it.
use Rattle.std.specs.Prelude.{List, [], ◌∷◌, ◌++◌, Option, Some, None, Result, Ok, Err}
use Rattle.hare_tree.specs.Node.{Head, Node, Nodes, branch, none, more}
use Rattle.hare_types.specs.declared.coercion.Ty.{Ty}
use Rattle.hare_typed.specs.Typed.{TypedNode, Mark, marked, typed_nodes}
use Rattle.hare_rules.specs.declared.row_id.RowId.{RowId}
use Rattle.hare_rules.specs.Context.{Setting, Context}
use Rattle.hare_rules.specs.Above.{Above, over_kid}
use Rattle.hare_rules.specs.Flow.{Flow, meaning_of, flow_before, flow_after, context}
use Rattle.hare_rules.specs.Settles.{same}
use Rattle.hare_rules.specs.Types.{type_of}
use Rattle.hare_rules.specs.Values.{value_of}
use Rattle.hare_rules.specs.Rows.{first_failing}

-- ---- one node

-- why a node has no type
pub data Reason : Type 0 where
  Fails : RowId → Context → Reason  -- in this context the row is the first that it fails
  Lacks : Context → Reason  -- it meets its list, and the store lacks the type of what it gives

abbrev pub typed_or : Context → Option Ty → Result Ty Reason
typed_or c None = Err (Lacks c)
typed_or c (Some a) = Ok a

abbrev pub judged_by : Context → Option RowId → Result Ty Reason
judged_by c None = typed_or c (type_of c)
judged_by c (Some r) = Err (Fails r c)

-- the type of the node of a context
abbrev pub judged : Context → Result Ty Reason
judged c = judged_by c (first_failing c)

-- what is found of a node with this type; its coercion is settled apart
abbrev pub mark_found : Context → Ty → Mark
mark_found c a = record { node = c.node; ty = a; coerce = same a; meaning = meaning_of c.setting c.head; value = value_of c }

-- ---- a tree

-- a tree, and what has been seen behind it
pub record Found : Type 0 where
  pub tree : TypedNode
  pub flow : Flow

-- the kids of a node, and what has been seen behind them
pub record FoundKids : Type 0 where
  pub trees : List TypedNode
  pub flow : Flow

abbrev pub found : TypedNode → Flow → Found
found x g = record { tree = x; flow = g }

abbrev pub found_kids : List TypedNode → Flow → FoundKids
found_kids xs g = record { trees = xs; flow = g }

abbrev pub with_type : Setting → Above → Head → List TypedNode → Flow → Result Ty Reason → Result Found Reason
with_type w a h xs g (Ok b) = Ok (found (marked h (mark_found (context w a h xs g) b) (typed_nodes xs)) (flow_after w a h xs g))
with_type w a h xs g (Err e) = Err e

abbrev pub with_kids : Setting → Above → Head → Result FoundKids Reason → Result Found Reason
with_kids w a h (Ok r) = with_type w a h r.trees r.flow (judged (context w a h r.trees r.flow))
with_kids w a h (Err e) = Err e

abbrev pub then_kids : Result Found Reason → (TypedNode → Flow → Result FoundKids Reason) → Result FoundKids Reason
then_kids (Ok r) go = go r.tree r.flow
then_kids (Err e) go = Err e

-- The tree without its coercions, and what has been seen behind it; or the reason of the first node in check order that has no type. Of
-- kids: those behind these, in front of what is left.
unfoldable mutual
  pub infer : Setting → Above → Node → Flow → Result Found Reason
  infer w a (branch h ts) f = with_kids w a h (infer_each w a h [] ts f)

  pub infer_each : Setting → Above → Head → List TypedNode → Nodes → Flow → Result FoundKids Reason
  infer_each w a h xs none f = Ok (found_kids xs f)
  infer_each w a h xs (more t ts) f =
      then_kids (infer w (over_kid w a h xs t ts) t (flow_before w a h xs f)) (λ x g. infer_each w a h (xs ++ x ∷ []) ts g)
