use Rattle.hare_const.proofs.ArrayLemmas.{Laid}
use Rattle.hare_const.proofs.array.laid.Given as goal

-- the items so far are laid, and what is left goes on from them
abbrev pub invariant-loop-i : goal.invariant-loop-i
invariant-loop-i l = Laid l.s l.t l.kids l.i l.i-end l.last l.whole
