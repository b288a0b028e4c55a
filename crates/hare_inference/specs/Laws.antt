-- What holds of well-typed trees and of first faults, over every store and whatever stands over a tree.
use Rattle.std.specs.Prelude.{◌≡◌, ◌≢◌, ◌↔◌, ◌+◌, ◌<◌, List, [], ◌∷◌, ◌++◌, map, length, slice_get, All, Some, Ok, Err, ◌⊎◌, IsTrue}
use Rattle.hare_tree.specs.declared.place.Fault.{Fault}
use Rattle.hare_tree.specs.Node.{Head, Node, Nodes}
use Rattle.hare_tree.specs.Shape.{is_shaped}
use Rattle.hare_typed.specs.Typed.{TypedNode, TypedNodes, Mark, marked, listed_nodes}
use Rattle.hare_typed.specs.Erased.{erase, erase_each}
use Rattle.hare_typed.specs.Order.{check_order}
use Rattle.hare_typed.specs.Numbers.{number_of, numbers_from}
use Rattle.hare_rules.specs.declared.row_id.RowId.{RowId}
use Rattle.hare_typed.specs.Coats.{coat}
use Rattle.hare_rules.specs.Context.{Setting, Context}
use Rattle.hare_rules.specs.Above.{Above, over_kid, trees_in, number_above}
use Rattle.hare_rules.specs.Settles.{Settled}
use Rattle.hare_rules.specs.Flow.{Flow, count, all_settled}
use Rattle.hare_rules.specs.Rows.{fault_of}
use Rattle.hare_rules.specs.Finished.{bare, bare_each, behind, behind_each, AllCarry, IsWell, FailsIn, IsTheTree, IsTheFault, expression}
use Rattle.hare_inference.specs.Inferred.{Fails, Lacks, found, infer}
use Rattle.hare_inference.specs.Lacking.{LacksIn}

-- ---- one tree, one fault

-- Of the typed trees with one untyped tree at most one is well typed.
abbrev pub OneTree : Type 0
OneTree = (w : Setting) (a : Above) (f : Flow) (t u : TypedNode) → erase t ≡ erase u → IsWell w a f t → IsWell w a f u → t ≡ u

-- one row at one node, with all that is known of it, and so one fault
pub record IsOneFault (r q : RowId) (c d : Context) : Type 0 where
  pub row : r ≡ q
  pub at : c ≡ d
  pub fault : fault_of r c ≡ fault_of q d

-- At most one row at one node of a tree is the first that fails.
abbrev pub OneFault : Type 0
OneFault =
    (w : Setting) (a : Above) (f : Flow) (t : Node) (r q : RowId) (c d : Context)
    → FailsIn w a t f r c
    → FailsIn w a t f q d
    → IsOneFault r q c d

-- A shaped tree, in front of which nothing has been judged, is that of the one well-typed tree, or has the one first fault, or the store
-- lacks a type; and no two of these.
pub record IsDecided (w : Setting) (a : Above) (f : Flow) : Type 0 where
  pub one : (t : Node) → f.coercions ≡ [] → IsTrue (is_shaped expression t) →
      ((u : TypedNode) × IsTheTree w a f t u) ⊎ (((e : Fault) × IsTheFault w a f t e) ⊎ ((c : Context) × LacksIn w a t f c))
  pub tree_or_fault : (u : TypedNode) (r : RowId) (c : Context) → IsWell w a f u → ¬ FailsIn w a (erase u) f r c
  pub tree_or_lack : (u : TypedNode) (c : Context) → IsWell w a f u → ¬ LacksIn w a (erase u) f c
  pub fault_or_lack : (t : Node) (r : RowId) (c d : Context) → FailsIn w a t f r c → ¬ LacksIn w a t f d

abbrev pub TreeOrFault : Type 0
TreeOrFault = (w : Setting) (a : Above) (f : Flow) → IsDecided w a f

-- ---- inference

-- The tree and its flow are those of a finished tree that carries what it should: it is bare, and has this untyped tree.
pub record IsFound (w : Setting) (a : Above) (t : Node) (f : Flow) (x : TypedNode) (g : Flow) : Type 0 where
  pub carries : AllCarry w a x f
  pub plain : bare x ≡ x
  pub flow : behind w a x f ≡ g
  pub erases : erase x ≡ t

-- What is inferred, and what the definitions say of it, in both directions. A tree has a type at each node just where it is inferred, and
-- a reason is inferred just where it is that of the first node without a type. With all coercions that are settled, what is inferred of a
-- shaped tree is the one that is well typed, and any that is well typed is so.
pub record IsExact (w : Setting) (a : Above) (f : Flow) : Type 0 where
  pub finds : (t : Node) (x : TypedNode) (g : Flow) → infer w a t f ≡ Ok (found x g) → IsFound w a t f x g
  pub found_by : (u : TypedNode) → AllCarry w a u f → infer w a (erase u) f ≡ Ok (found (bare u) (behind w a u f))
  pub fails : (t : Node) (r : RowId) (c : Context) → FailsIn w a t f r c ↔ (infer w a t f ≡ Err (Fails r c))
  pub lacks : (t : Node) (c : Context) → LacksIn w a t f c ↔ (infer w a t f ≡ Err (Lacks c))
  pub tree : (t : Node) (x : TypedNode) (g : Flow) → f.coercions ≡ [] → IsTrue (is_shaped expression t) →
      infer w a t f ≡ Ok (found x g) → IsTheTree w a f t (coat (all_settled g) x)
  pub of_tree : (u : TypedNode) → f.coercions ≡ [] → IsWell w a f u → coat (all_settled (behind w a u f)) (bare u) ≡ u
  pub fault : (t : Node) (r : RowId) (c : Context) → infer w a t f ≡ Err (Fails r c) → IsTheFault w a f t (fault_of r c)
  pub of_fault : (t : Node) (e : Fault) → IsTheFault w a f t e →
      (r : RowId) × (c : Context) × (infer w a t f ≡ Err (Fails r c)) × (e ≡ fault_of r c)

abbrev pub InferenceIsExact : Type 0
InferenceIsExact = (w : Setting) (a : Above) (f : Flow) → IsExact w a f

-- ---- numbers

-- Nodes are numbered in check order, from the number of nodes that are judged before the tree. So many more are judged behind it as it has
-- nodes. Where the nodes that are finished before a tree are counted, they are counted at each kid, and the number that the labels round a
-- kid have for its parent is the parent's.
pub record IsCounted (w : Setting) (a : Above) (f : Flow) : Type 0 where
  pub numbers : (t : TypedNode) → AllCarry w a t f → map number_of (check_order t) ≡ numbers_from (count f) (check_order t)
  pub nodes : (t : TypedNode) → length (check_order t) ≡ trees_in (erase t)
  pub behind_tree : (t : TypedNode) → count (behind w a t f) ≡ count f + trees_in (erase t)
  pub begins : (h : Head) (ts : TypedNodes) (t : Node) (rest : Nodes) → a.begins ≡ count f →
      (over_kid w a h (bare_each ts) t rest).begins ≡ count (behind_each w a h [] ts f)
  pub labels : (h : Head) (m : Mark) (ts us : TypedNodes) (t : TypedNode) (rest : TypedNodes) → AllCarry w a (marked h m ts) f →
      a.begins ≡ count f → listed_nodes ts ≡ listed_nodes us ++ t ∷ listed_nodes rest →
      number_above a (bare_each us) (erase t) (erase_each rest) ≡ m.node

abbrev pub NumbersAreOrder : Type 0
NumbersAreOrder = (w : Setting) (a : Above) (f : Flow) → IsCounted w a f

-- ---- coercions

-- Each node that has been judged has one coercion, and what is settled late of it is the last of what is settled late.
pub record CoercionsAreSettled : Type 0 where
  pub each : (f : Flow) → length (all_settled f) ≡ count f
  pub late : (f : Flow) (before after : List Settled) (s : Settled) → f.late ≡ before ++ s ∷ after → s.node < count f →
      All (λ (x : Settled). x.node ≢ s.node) after → slice_get (all_settled f) s.node ≡ Some s.coercion
