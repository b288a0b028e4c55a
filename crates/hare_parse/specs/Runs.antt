-- What a run of the program comes to, in the words of the table's machine.
use Rattle.std.specs.Prelude.{◌≡◌, ℕ, ◌≤◌, List, [], Bool, true, false, drop, length}
use Rattle.hare_tree.specs.declared.token.Token.{Token}
use Rattle.hare_tree.specs.Node.{Node}
use Rattle.hare_automaton.specs.declared.rule.Symbol.{Symbol}
use Rattle.hare_automaton.specs.Classes.{class_of}
use Rattle.hare_automaton.specs.Engine.{Group, Outcome, Done, Fails, add, bottom, step}
use Rattle.hare_tree.specs.Grammar.{joined}
use Rattle.hare_ll_table.specs.Joined.{BeginsWith}
use Rattle.hare_parse.specs.declared.reader.Outcome.{Outcome as Answered}
use Rattle.hare_parse.specs.declared.reader.Outcome.TheVariants as ou
use Rattle.hare_parse.specs.declared.run.Read.{Read}
use Rattle.hare_parse.specs.declared.run.Reached.{Reached}
use Rattle.hare_parse.specs.declared.run.Reached.TheVariants as re
use Rattle.hare_nesting.specs.Depth.{closed}
use Rattle.hare_parse.specs.Steps.{Says}

-- What came of the first of the joined tokens from a place on: the answer, and the place of the next.
pub record Reads (f : ℕ) (ts : List Token) (at : ℕ) (st : List Symbol) (gs : List Group) (r : Read) (st' : List Symbol)
    (gs' : List Group) : Type 0 where
  pub token : Token
  pub begins : BeginsWith ts at token r.next
  pub says : Says (step f token (class_of token) st gs) r.answer st' gs'

-- The outcome of a run that has come to this place of the list, with these trees under way: its tokens are the joined tokens from there on.
abbrev pub outcome_in : Reached → List Token → List Group → Outcome
outcome_in (re.End n) ts gs = Done (joined (drop n ts)) gs
outcome_in (re.Stuck n) ts gs = Fails (joined (drop n ts))

-- the run has come to the end of the list
abbrev pub IsUsedUp : Reached → List Token → Type 0
IsUsedUp (re.End n) ts = ⊥
IsUsedUp (re.Stuck n) ts = length ts ≤ n

-- ---- trees that are read

-- nothing is under way but one whole tree
pub record HoldsTree (gs : List Group) : Type 0 where
  pub tree : Node
  pub is : gs ≡ add tree bottom

-- The outcome of the machine's run that this answer says. Its tokens are the joined tokens from the place on that is answered, with End
-- behind them.
abbrev pub outcome_of : Answered → List Token → Outcome
outcome_of (ou.Done tree n) ts = Done (joined (closed (drop n ts))) (add tree bottom)
outcome_of (ou.Stuck n) ts = Fails (joined (closed (drop n ts)))

-- the same in front of End alone, where all is read or the tokens are used up before
abbrev pub outcome_at_end : Bool → List Group → Outcome
outcome_at_end true gs = Done (closed []) gs
outcome_at_end false gs = Fails (closed [])

-- ---- places

-- the place in the list at which a run stands still
abbrev pub place_in : Reached → ℕ
place_in (re.End n) = n
place_in (re.Stuck n) = n

abbrev pub place_of : Answered → ℕ
place_of (ou.Done tree n) = n
place_of (ou.Stuck n) = n
