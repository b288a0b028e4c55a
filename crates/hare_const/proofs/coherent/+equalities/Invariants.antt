use Rattle.std.proofs.Common.{◌≡◌, drop}
use Rattle.hare_typed.specs.Typed.{typed_nodes}
use Rattle.hare_typed.specs.Coherent.{compares_texts_each}
use Rattle.hare_const.proofs.coherent.+equalities.Given as goal

abbrev pub decreases-compares_texts : goal.decreases-compares_texts
decreases-compares_texts l = goal.size-compares_texts l

abbrev pub decreases-compares_texts_each : goal.decreases-compares_texts_each
decreases-compares_texts_each l = goal.size-compares_texts_each l

-- none stands in those so far
abbrev pub invariant-compares_texts_each-loop-i : goal.invariant-compares_texts_each-loop-i
invariant-compares_texts_each-loop-i l =
    compares_texts_each l.s (typed_nodes l.kids) ≡ compares_texts_each l.s (typed_nodes (drop l.i l.kids))
