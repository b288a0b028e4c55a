-- From the first stage to the last: where judging begins, how steps that are passed go together, and what stands once all are.
use Rattle.std.specs.Prelude.{◌≡◌, ℕ, List, [], ◌∷◌, ◌++◌, Some, Contains}
use Rattle.hare_tree.specs.declared.place.Fault.{Fault}
use Rattle.hare_tree.specs.declared.stop.Stop.TheVariants.{Fault as Refused}
use Rattle.hare_types.specs.Store.{Store, definition_of}
use Rattle.hare_types.specs.Later.{IsLater}
use Rattle.hare_typed.specs.Typed.{TypedNode}
use Rattle.hare_rules.specs.Words.{nomem}
use Rattle.hare_whole.specs.Listing.{Listing, IsDeclared, DefinesNomem}
use Rattle.hare_whole.specs.Turns.{Stage, Step, Value, start, Goes, Fails, AreAllSteps}
use Rattle.hare_turns.specs.Stages.{IsEnd, IsStage}
use Rattle.hare_turns.specs.Laws.{GoesOn}
use Rattle.hare_turns.specs.Ends.{AreJudgedTo, IsDeclarationStop}

-- ---- the first stage

-- where all types are declared and none is defined but `rt::nomem`, judging may begin
abbrev pub StagesBegin : Type 0
StagesBegin =
    (p : Listing) (s : Store)
    → IsDeclared s p
    → DefinesNomem s
    → ((d t : ℕ) → definition_of s d ≡ Some t → d ≡ nomem)
    → IsStage p s start []

-- ---- steps that have been passed

-- these lead from the first stage to this one, whatever store the checking ends with
abbrev pub ArePassed : Listing → Store → List Step → Stage → Type 0
ArePassed p s xs g = (l : Store) → IsEnd p s l → Goes p l start xs g

-- so they do while the store grows, and with one step more
pub record GoTogether (p : Listing) (s : Store) (xs : List Step) (g : Stage) : Type 0 where
  pub stay : (r : Store) → IsLater s r → ArePassed p r xs g
  pub more : (x : Step) (h : Stage) (vs : List (ℕ × TypedNode)) → GoesOn p s g x h vs → ArePassed p s (xs ++ x ∷ []) h

abbrev pub StepsGoTogether : Type 0
StepsGoTogether = (p : Listing) (s : Store) (xs : List Step) (g : Stage) → ArePassed p s xs g → GoTogether p s xs g

-- the fault of the step behind them is the first of declarations
abbrev pub StepsStop : Type 0
StepsStop =
    (p : Listing) (s : Store) (xs ys : List Step) (x : Step) (g : Stage) (f : Fault)
    → AreAllSteps p (xs ++ x ∷ ys)
    → ArePassed p s xs g
    → ((l : Store) → IsEnd p s l → Fails p l g f x)
    → IsDeclarationStop p s (Refused f)

-- ---- the last stage

-- of each step of a value there is one
abbrev pub AreValued : List Step → List (ℕ × TypedNode) → Type 0
AreValued xs vs = (n : ℕ) → Contains xs (Value n) → (v : TypedNode) × Contains vs (n, v)

-- where all steps have been passed all declarations have been judged
abbrev pub StagesEnd : Type 0
StagesEnd =
    (p : Listing) (s : Store) (xs : List Step) (g : Stage) (vs : List (ℕ × TypedNode))
    → AreAllSteps p xs
    → ArePassed p s xs g
    → AreValued xs vs
    → IsStage p s g vs
    → AreJudgedTo p s g vs
