use Rattle.std.proofs.Common.{◌≡◌, drop}
use Rattle.hare_types.specs.Trees.{Scalar}
use Rattle.hare_types.specs.Assign.{some_tree, same}
use Rattle.hare_assign.specs.Shapes.{types_at}
use Rattle.hare_assign.proofs.unions.has_word.Given as goal

abbrev pub invariant-loop-m : goal.invariant-loop-m
invariant-loop-m l = some_tree (same (Scalar l.k)) (types_at l.s (drop l.m-index l.members)) ≡
    some_tree (same (Scalar l.k)) (types_at l.s l.members)
