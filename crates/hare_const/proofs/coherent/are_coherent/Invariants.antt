use Rattle.hare_typed.specs.Coherent.{statics_in}
use Rattle.hare_const.proofs.TextLemmas.{AreFound}
use Rattle.hare_const.proofs.coherent.are_coherent.Given as goal

-- each of those so far is found with its own cells
abbrev pub invariant-loop-i : goal.invariant-loop-i
invariant-loop-i l = AreFound l.i (statics_in l.own l.t)
