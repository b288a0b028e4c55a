-- What comes of one token, in the words of the table's machine.
use Rattle.std.specs.Prelude.{◌≡◌, List}
use Rattle.hare_automaton.specs.declared.rule.Symbol.{Symbol}
use Rattle.hare_automaton.specs.Engine.{Group, Step, Goes, Ends, Stuck}
use Rattle.hare_ll_table.specs.declared.answer.Answer.{Answer}
use Rattle.hare_ll_table.specs.declared.answer.Answer.TheVariants as an

-- The answer, with what is waited for and the trees under way behind it, is this step.
abbrev pub Says : Step → Answer → List Symbol → List Group → Type 0
Says (Goes st gs) a st' gs' = (a ≡ an.Goes) × (st' ≡ st) × (gs' ≡ gs)
Says (Ends gs) a st' gs' = (a ≡ an.Ends) × (gs' ≡ gs)
Says Stuck a st' gs' = a ≡ an.Stuck
