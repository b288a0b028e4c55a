use Rattle.std.proofs.Common.{◌≡◌, drop}
use Rattle.hare_tree.specs.Node.{nodes_of}
use Rattle.hare_tree.specs.Shape.{edges, behind_kid}
use Rattle.hare_tree.specs.Judged.{nodes_from}
use Rattle.hare_tree.proofs.edge.sign_behind.Given as goal

-- the same sign stands behind the kid from here on
abbrev pub invariant-loop-at : goal.invariant-loop-at
invariant-loop-at l =
    behind_kid (drop l.at l.behind) (edges (nodes_from l.next (nodes_of l.kids))) ≡ behind_kid l.behind
    (edges (nodes_from l.from (nodes_of l.kids)))
