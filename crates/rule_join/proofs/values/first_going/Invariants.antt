use Rattle.std.proofs.Common.{◌≡◌, drop}
use Rattle.hare_types.specs.Store.{Store}
use Rattle.hare_types.specs.Later.{IsLater}
use Rattle.rule_join.specs.Together.{going, listed_in}
use Rattle.rule_join.proofs.values.first_going.Given as goal

abbrev pub invariant-loop-i : goal.invariant-loop-i
invariant-loop-i l = (f : Store) → IsLater l.s f → going f (listed_in l.v l.t) ≡ going f (drop l.i (listed_in l.v l.t))
