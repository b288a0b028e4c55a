use Rattle.std.proofs.Common.{◌≡◌, drop}
use Rattle.hare_types.specs.Store.{Store}
use Rattle.hare_types.specs.Later.{IsLater}
use Rattle.rule_judge.specs.Yields.{first_going}
use Rattle.rule_judge.proofs.yields.first_going.Given as goal

abbrev pub invariant-loop-y : goal.invariant-loop-y
invariant-loop-y l = (f : Store) → IsLater l.s f → first_going f l.yields ≡ first_going f (drop l.y-index l.y-items)
