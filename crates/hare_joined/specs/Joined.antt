-- The finished trees of the declarations of a program, and what they are together.
use Rattle.std.specs.Prelude.{◌≡◌, ◌≢◌, List, [], ◌∷◌, Some, None}
use Rattle.hare_tree.specs.Node.{Node}
use Rattle.hare_types.specs.Store.{Store}
use Rattle.hare_typed.specs.Typed.{TypedNode}
use Rattle.hare_depends.specs.declared.said.Sort.TheVariants as so
use Rattle.hare_depends.specs.Sorts.{sort_of}
use Rattle.hare_whole.specs.Listing.{Listing}
use Rattle.hare_whole.specs.Judged.{AreTyped}
use Rattle.hare_turns.specs.Stages.{IsEnd}
use Rattle.hare_turns.specs.Laws.{IsGrownTo}
use Rattle.hare_turns.specs.Ends.{AreBodies}
use Rattle.hare_finish.specs.Finished.{IsFinished}
use Rattle.hare_declarations.specs.declared.parts.Parts.{Parts}
use Rattle.hare_declarations.specs.declared.parts.Judged.{Judged}
use Rattle.hare_declarations.specs.Judged.{IsJudgedAs}

-- These declarations have been finished, each with its parts; the bodies are those of the functions among them, in their order.
pub data AreFinished (s : Store) : List Node → List Parts → List TypedNode → List TypedNode → Type 0 where
  none : AreFinished s [] [] [] []
  function : (t : Node) (q : Parts) (b d : TypedNode) (ts : List Node) (qs : List Parts) (bs ds : List TypedNode) →
      sort_of t ≡ so.Function →
      IsFinished s t q.types q.value (Some b) d → AreFinished s ts qs bs ds → AreFinished s (t ∷ ts) (q ∷ qs) (b ∷ bs) (d ∷ ds)
  other : (t : Node) (q : Parts) (d : TypedNode) (ts : List Node) (qs : List Parts) (bs ds : List TypedNode) → sort_of t ≢ so.Function →
      IsFinished s t q.types q.value None d → AreFinished s ts qs bs ds → AreFinished s (t ∷ ts) (q ∷ qs) bs (d ∷ ds)

-- Declarations were judged with the first store, bodies with the second, and trees finished with the third; with the last the checking
-- ends.
abbrev pub FinishedAreTyped : Type 0
FinishedAreTyped =
    (p : Listing) (s r f l : Store) (j : Judged) (bs ds : List TypedNode)
    → IsJudgedAs p s j
    → IsGrownTo s r
    → AreBodies p j.known r 0 p.decls bs
    → IsGrownTo r f
    → AreFinished f p.decls j.parts bs ds
    → IsEnd p f l
    → AreTyped p l ds
