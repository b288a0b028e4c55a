use Rattle.std.proofs.Common.{◌≡◌, drop}
use Rattle.hare_types.specs.Assign.{is_member, value_at}
use Rattle.hare_assign.specs.Shapes.{types_at}
use Rattle.hare_assign.proofs.unions.is_member.Given as goal

abbrev pub invariant-loop-m : goal.invariant-loop-m
invariant-loop-m l = is_member (value_at l.s l.from) (types_at l.s (drop l.m-index l.members)) ≡
    is_member (value_at l.s l.from) (types_at l.s l.members)
