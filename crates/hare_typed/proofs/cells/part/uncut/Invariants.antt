use Rattle.hare_typed.proofs.OriginLemmas.{Traced}
use Rattle.hare_typed.proofs.cells.part.uncut.Given as goal

-- with what is kept of the repetitions so far the part is one of the cells before them
abbrev pub invariant-loop-left : goal.invariant-loop-left
invariant-loop-left l = Traced l.repeats l.written l.from l.to l.left l.first l.end l.inside.items

abbrev pub decreases-loop-left : goal.decreases-loop-left
decreases-loop-left l = l.left
