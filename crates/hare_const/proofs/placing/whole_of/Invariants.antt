use Rattle.hare_const.proofs.PlacedLemmas.{Laid}
use Rattle.hare_const.proofs.placing.whole_of.Given as goal

-- the parts so far are laid
abbrev pub invariant-loop-part : goal.invariant-loop-part
invariant-loop-part l = Laid l.kids l.part-items l.size l.part-index l.whole
