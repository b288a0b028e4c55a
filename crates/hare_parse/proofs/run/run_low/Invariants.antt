use Rattle.std.proofs.Common.{◌≡◌, ◌-◌, length, drop}
use Rattle.hare_tree.specs.Grammar.{joined}
use Rattle.hare_automaton.specs.Engine.{run}
use Rattle.hare_ll_table.specs.Places.{IsPlace}
use Rattle.hare_ll_table.specs.Seen.{waited}
use Rattle.hare_parse.proofs.run.run_low.Given as goal

abbrev pub invariant-loop-token : goal.invariant-loop-token
invariant-loop-token l =
    record {
      same : run l.file (joined l.tokens) (waited l.fn.stack) l.fn.groups ≡
          run l.file (joined (drop l.at l.tokens)) (waited l.stack) l.groups;
      place : IsPlace l.tokens 0 l.at;
    }

abbrev pub decreases-loop-token : goal.decreases-loop-token
decreases-loop-token l = length l.tokens - l.at
