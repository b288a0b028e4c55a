use Rattle.std.proofs.Common.{◌≡◌, fold, drop, length}
use Rattle.hare_depends.specs.Edges.{with_mention}
use Rattle.hare_depends.proofs.edges.push_mentions.Given as goal

-- what is left is put behind the edges so far
abbrev pub invariant-loop-to : goal.invariant-loop-to
invariant-loop-to l = fold (with_mention l.saids (length l.saids) l.from) l.edges.items (drop l.to-index l.targets) ≡
    fold (with_mention l.saids (length l.saids) l.from) l.fn.edges.items l.targets
