use Rattle.std.proofs.Common.{◌-◌}
use Rattle.hare_names.proofs.RisingLemmas.{Searching}
use Rattle.hare_names.proofs.rising.search.Given as goal

abbrev pub invariant-halves : goal.invariant-halves
invariant-halves l = Searching l.place l.ordered l.low l.high

abbrev pub decreases-halves : goal.decreases-halves
decreases-halves l = l.high - l.low
