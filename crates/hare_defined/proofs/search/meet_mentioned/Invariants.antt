use Rattle.std.proofs.Common.{◌-◌, length}
use Rattle.hare_defined.specs.Search.{IsSearch}
use Rattle.hare_defined.proofs.search.meet_mentioned.Given as goal

abbrev pub invariant-loop-u : goal.invariant-loop-u
invariant-loop-u l = IsSearch l.s l.fn.t l.fn.known.keys l.known.keys l.next

abbrev pub decreases-loop-u : goal.decreases-loop-u
decreases-loop-u l = length l.s.rows - l.next
