-- What a walker knows when the turn of a node has come, and what it says of what it finds.
use Rattle.std.specs.Prelude.{◌≡◌, List, ◌∷◌, length, map}
use Rattle.hare_tree.specs.declared.kind.Kind.TheVariants as ki
use Rattle.hare_tree.specs.declared.place.Fault.{Fault}
use Rattle.hare_tree.specs.declared.stop.Stop.{Stop}
use Rattle.hare_tree.specs.Node.{Node, head, kids_of}
use Rattle.hare_types.specs.Store.{Store}
use Rattle.hare_typed.specs.Typed.{TypedNode, Mark, marked, typed_nodes}
use Rattle.hare_typed.specs.Erased.{erase_each}
use Rattle.hare_typed.specs.Order.{tree_from_front}
use Rattle.hare_rules.specs.Above.{Above}
use Rattle.hare_rules.specs.Context.{Setting}
use Rattle.hare_rules.specs.Control.{block_meant, hint_of_open}
use Rattle.hare_rules.specs.Finished.{bare}
use Rattle.hare_rules.specs.Flow.{yielded}
use Rattle.hare_walk.specs.Spots.{Spot, spot}
use Rattle.hare_walk.specs.Walks.{IsPart, AreInHand, AreInferred, IsTurnedBack}
use Rattle.rule_judge.specs.Defined.{IsDefinedTree}
use Rattle.hare_find.specs.declared.finding.Finding.{Finding}
use Rattle.hare_find.specs.Findings.{IsFound, IsDefinedFinding}
use Rattle.hare_find.specs.Looked.{IsVoidTaken}
use Rattle.hare_find.specs.Listed.{coated_each}
use Rattle.hare_find.specs.Settling.{option_in}
use Rattle.hare_check.specs.declared.walker.Walker.{Walker}
use Rattle.hare_check.specs.Keeps.{IsKeptTree, AreKeptTrees}
use Rattle.hare_check.specs.Walking.{program_over, IsWalking}

abbrev pub program_of : Walker → Store → Setting
program_of w = program_over w.names.now w.decls.now

abbrev pub above_of : Walker → Above
above_of w = w.standing.above

-- what it relies on, where it stands at these spots
abbrev pub Walks : Store → List Spot → Walker → Type 0
Walks s ps w = IsWalking s ps w.decls.now w.standing w.seen w.told w.begun

-- The node is a part of a body, all of whose kids have been judged: they are what is inferred of them, they carry what is settled by now,
-- and what is relied on of judged trees holds of each.
pub record IsAtNode (s : Store) (w : Walker) (n : Node) (xs : List TypedNode) : Type 0 where
  pub walks : (ps : List Spot) × Walks s (spot (head n).kind (length xs) ∷ ps) w
  pub part : IsPart n
  pub whole : erase_each (typed_nodes xs) ≡ kids_of n
  pub inferred : AreInferred (program_of w) s (above_of w) (head n) (kids_of n) xs w.seen
  pub hand : AreInHand w.seen xs
  pub kept : AreKeptTrees s xs

-- where a walker has looked at a node, and closed nothing: it knows the same of the program, of what stands over trees, and of what has
-- been seen
pub record IsSame (w v : Walker) : Type 0 where
  pub names : v.names.now ≡ w.names.now
  pub decls : v.decls.now ≡ w.decls.now
  pub above : v.standing.above ≡ w.standing.above
  pub outer : v.standing.outer ≡ w.standing.outer
  pub seen : v.seen ≡ w.seen
  pub told : v.told ≡ w.told
  pub begun : v.begun ≡ w.begun

-- the same, where its turn is closed: more has been seen
pub record IsUnder (w v : Walker) : Type 0 where
  pub names : v.names.now ≡ w.names.now
  pub decls : v.decls.now ≡ w.decls.now
  pub above : v.standing.above ≡ w.standing.above
  pub outer : v.standing.outer ≡ w.standing.outer
  pub begun : v.begun ≡ w.begun

-- ---- what is found of a node

-- its kids behind its turn
abbrev pub kids_behind : List TypedNode → Finding → List TypedNode
kids_behind xs x = coated_each xs (map option_in x.kids)

-- what a `yield` without a value hands on is taken by what it means
abbrev pub IsTakenAt : Store → Walker → Node → List TypedNode → Type 0
IsTakenAt s w n xs =
    IsVoidTaken s (hint_of_open (block_meant (head n).text (above_of w).inside.labels)) (yielded (head n) (tree_from_front 0 (map bare xs)))

-- This is found of it in each later store; and the tree with this, if no type of it mentions a name that is not defined, is one that is
-- relied on.
pub record IsFindingOf (s : Store) (w : Walker) (n : Node) (xs : List TypedNode) (x : Finding) : Type 0 where
  pub found : IsFound (program_of w) s (above_of w) (head n) xs w.seen x
  pub many : length x.kids ≡ length xs
  pub defined : IsDefinedFinding s x
  pub void : (head n).kind ≡ ki.Yield → IsTakenAt s w n xs
  pub kept :
      (m : Mark) → m.ty ≡ x.ty → m.coerce ≡ x.own → IsDefinedTree s (marked (head n) m (typed_nodes (kids_behind xs x))) →
      IsKeptTree s (marked (head n) m (typed_nodes (kids_behind xs x)))

-- where a fault is told, it is that of the first row that it fails, in each later store
abbrev pub IsStopOf : Store → Walker → Node → List TypedNode → Stop Fault → Type 0
IsStopOf s w n xs e = IsTurnedBack (program_of w) s (above_of w) (head n) xs w.seen e
