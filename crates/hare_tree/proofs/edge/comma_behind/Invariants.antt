use Rattle.std.proofs.Common.{◌≡◌}
use Rattle.hare_tree.specs.Node.{nodes_of}
use Rattle.hare_tree.specs.Shape.{edges, behind_item}
use Rattle.hare_tree.specs.Judged.{nodes_from}
use Rattle.hare_tree.proofs.edge.comma_behind.Given as goal

-- the same stands behind the item from here on
abbrev pub invariant-loop-i : goal.invariant-loop-i
invariant-loop-i l =
    behind_item (edges (nodes_from l.i (nodes_of l.kids))) ≡ behind_item (edges (nodes_from l.from (nodes_of l.kids)))
