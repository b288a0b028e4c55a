use Rattle.std.proofs.Common.{◌≡◌, false, drop}
use Rattle.hare_typed.specs.Typed.{typed_nodes}
use Rattle.hare_rules.specs.Control.{breaks_in}
use Rattle.rule_join.proofs.loops.+breaks.Given as goal

abbrev pub decreases-breaks : goal.decreases-breaks
decreases-breaks l = goal.size-breaks l

abbrev pub decreases-breaks_in : goal.decreases-breaks_in
decreases-breaks_in l = goal.size-breaks_in l

abbrev pub invariant-breaks_in-loop-i : goal.invariant-breaks_in-loop-i
invariant-breaks_in-loop-i l = breaks_in l.name l.is_nearest false (typed_nodes l.trees) ≡
    breaks_in l.name l.is_nearest false (typed_nodes (drop l.i l.trees))
