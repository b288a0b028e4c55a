use Rattle.std.proofs.Common.{◌≡◌, ◌≤◌, ◌+◌, drop}
use Rattle.hare_types.specs.Assign.{how_many, is_const, value_at}
use Rattle.hare_assign.specs.Shapes.{types_at}
use Rattle.hare_assign.proofs.unions.count_const.Given as goal

abbrev pub invariant-loop-m : goal.invariant-loop-m
invariant-loop-m l =
    record {
      few : l.found ≤ l.m-index;
      value : l.found + how_many (is_const l.s (value_at l.s l.from)) (types_at l.s (drop l.m-index l.members)) ≡
          how_many (is_const l.s (value_at l.s l.from)) (types_at l.s l.members);
    }
