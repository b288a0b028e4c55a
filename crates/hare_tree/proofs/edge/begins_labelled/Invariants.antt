use Rattle.std.proofs.Common.{◌≡◌}
use Rattle.hare_tree.specs.Node.{size_of}
use Rattle.hare_tree.specs.Shape.{begins_labelled}
use Rattle.hare_tree.proofs.edge.begins_labelled.Given as goal

-- the tree in hand begins as the whole tree does
abbrev pub invariant-loop-tree : goal.invariant-loop-tree
invariant-loop-tree l = begins_labelled l.tree ≡ begins_labelled l.t

abbrev pub decreases-loop-tree : goal.decreases-loop-tree
decreases-loop-tree l = size_of l.tree
