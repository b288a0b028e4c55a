-- What holds once all declarations have been judged, over each store with which the checking may end.
use Rattle.std.specs.Prelude.{◌≡◌, ℕ, List, None, Contains}
use Rattle.hare_tree.specs.Node.{Node}
use Rattle.hare_types.specs.Store.{Store}
use Rattle.hare_typed.specs.Typed.{TypedNode}
use Rattle.hare_seen.specs.Seen.{DefinesTheSame}
use Rattle.hare_rules.specs.Rows.{first_failing}
use Rattle.hare_depends.specs.Sorts.{sort_of}
use Rattle.hare_whole.specs.Listing.{Listing, IsDecl, written_types}
use Rattle.hare_whole.specs.Turns.{Stage, typed_at, AreTyped, IsTypedValue, context_of, IsDefinedAs}
use Rattle.hare_turns.specs.Stages.{IsEnd, IsStage, over}
use Rattle.hare_turns.specs.Ends.{AreJudgedTo}

-- the checking may end with the store of a stage as it is
abbrev pub StagesMayEnd : Type 0
StagesMayEnd = (p : Listing) (s : Store) (g : Stage) (vs : List (ℕ × TypedNode)) → IsStage p s g vs → IsEnd p s s

-- The types and the value of the declaration are well typed with all that is known in the end, it meets its rows, and a type is defined as
-- it is written.
pub record IsJudgedOver (p : Listing) (l : Store) (g : Stage) (vs : List (ℕ × TypedNode)) (n : ℕ) (t : Node) : Type 0 where
  pub types : AreTyped (over p g.known l) n (written_types t) (typed_at g n)
  pub value : (v : TypedNode) → Contains vs (n, v) → IsTypedValue (over p g.known l) n t (typed_at g n) v
  pub rows : (v : TypedNode) → Contains vs (n, v) → first_failing (context_of (over p g.known l) n t (typed_at g n) v) ≡ None
  pub defined : IsDefinedAs l n (sort_of t) (typed_at g n)

-- all declarations are so, and no other name is defined
pub record AreJudgedOver (p : Listing) (s l : Store) (g : Stage) (vs : List (ℕ × TypedNode)) : Type 0 where
  pub each : (n : ℕ) (t : Node) → IsDecl p n t → IsJudgedOver p l g vs n t
  pub same : DefinesTheSame s l

abbrev pub EndsAreJudged : Type 0
EndsAreJudged =
    (p : Listing) (s l : Store) (g : Stage) (vs : List (ℕ × TypedNode)) → AreJudgedTo p s g vs → IsEnd p s l → AreJudgedOver p s l g vs
