use Rattle.std.proofs.Common.{◌≡◌, length}
use Rattle.hare_automaton.specs.Engine.{step}
use Rattle.hare_ll_table.specs.Seen.{waited}
use Rattle.hare_parse.proofs.step.step.Given as goal

abbrev pub invariant-loop-symbol : goal.invariant-loop-symbol
invariant-loop-symbol l =
    step l.file l.token l.class (waited l.fn.stack) l.fn.groups ≡ step l.file l.token l.class (waited l.stack) l.groups

abbrev pub decreases-loop-symbol : goal.decreases-loop-symbol
decreases-loop-symbol l = length (waited l.stack)
