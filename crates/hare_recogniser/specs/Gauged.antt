-- What the gauge of the program answers, in the words of the gauge of depth.
use Rattle.std.specs.Prelude.{◌≡◌, ℕ, suc, ◌+◌, ◌-◌, ◌≤◌, List, [], drop, map, Bool, true, false, Option, Some, None}
use Rattle.hare_tree.specs.declared.token.Token.{Token}
use Rattle.hare_tree.specs.Grammar.{IsOn, joined}
use Rattle.hare_automaton.specs.declared.rule.Symbol.{Symbol}
use Rattle.hare_nesting.specs.Marks.{Frame}
use Rattle.hare_nesting.specs.Gauge.{Step, Goes, Ends, Stuck, Seen, Gauged, seen_in, numbered, seen, start, gauge}
use Rattle.hare_ll_table.specs.declared.answer.Answer.{Answer}
use Rattle.hare_ll_table.specs.declared.answer.Answer.TheVariants as an
use Rattle.hare_recogniser.specs.declared.run.Stop.{Stop}
use Rattle.hare_recogniser.specs.declared.run.Stop.TheVariants as so
use Rattle.hare_ll_table.specs.Places.{IsPlace}

-- The answer, with what is waited for and the trees under way behind it, is this step.
abbrev pub Answers : Step → Answer → List Symbol → List Frame → Type 0
Answers (Goes st fs) a st' fs' = (a ≡ an.Goes) × (st' ≡ st) × (fs' ≡ fs)
Answers (Ends fs) a st' fs' = a ≡ an.Ends
Answers Stuck a st' fs' = a ≡ an.Stuck

-- what the gauge sees of these tokens, of which the first has this number
abbrev pub seen_from : ℕ → List Token → List Seen
seen_from n ts = map seen_in (joined (numbered n ts))

-- ---- runs

-- the place in the list at which a run stands still, and whether all was read
abbrev pub place_in : Stop → ℕ
place_in (so.Over n) = n
place_in (so.Stuck n) = n

abbrev pub is_over : Stop → Bool
is_over (so.Over n) = true
is_over (so.Stuck n) = false

-- the run from one place of the list on stands still here
pub record Stops (ts : List Token) (from : ℕ) (g : Gauged) (stop : Stop) : Type 0 where
  pub over : g.over ≡ is_over stop
  pub place : IsPlace ts from (place_in stop)
  pub rest : g.rest ≡ seen_from (place_in stop - from + 1) (drop (place_in stop) ts)

-- what the gauge of depth says of the tokens from a place of the list on
abbrev pub gauged_from : List Token → ℕ → List Symbol → Gauged
gauged_from ts from st = gauge (seen (drop from ts)) st start

-- the place in the list of the least of the tokens, which are numbered from 1 at `from`; none where there are none
abbrev pub IsLeastOf : List ℕ → ℕ → Option ℕ → Type 0
IsLeastOf faults from None = faults ≡ []
IsLeastOf faults from (Some m) = (from ≤ m) × IsOn (suc (m - from)) faults × ((n : ℕ) → IsOn n faults → suc (m - from) ≤ n)
