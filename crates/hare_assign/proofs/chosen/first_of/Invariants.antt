use Rattle.std.proofs.Common.{◌≡◌, drop}
use Rattle.hare_types.specs.Assign.{value_at}
use Rattle.hare_assign.specs.Chosen.{first_of}
use Rattle.hare_assign.specs.Ways.{passes}
use Rattle.hare_assign.proofs.chosen.first_of.Given as goal

abbrev pub invariant-loop-m : goal.invariant-loop-m
invariant-loop-m l = first_of l.s (passes l.s l.way (value_at l.s l.from)) (drop l.m-index l.members) ≡
    first_of l.s (passes l.s l.way (value_at l.s l.from)) l.members
