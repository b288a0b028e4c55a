use Rattle.std.proofs.Common.{◌≡◌, fold, drop}
use Rattle.hare_depends.specs.Edges.{with_value}
use Rattle.hare_depends.proofs.edges.push_values.Given as goal

-- what is left is put behind the edges so far
abbrev pub invariant-loop-to : goal.invariant-loop-to
invariant-loop-to l = fold (with_value l.count l.from) l.edges.items (drop l.to-index l.targets) ≡
    fold (with_value l.count l.from) l.fn.edges.items l.targets
