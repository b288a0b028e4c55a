use Rattle.std.proofs.Common.{◌≡◌, false}
use Rattle.hare_tree.specs.Node.{nodes_of}
use Rattle.hare_tree.specs.Judged.{keep_low, nodes_from}
use Rattle.hare_tree.proofs.depth.+depth.Given as goal

-- what is left of the kids keeps the limits as all but the first do
abbrev pub invariant-others_keep-loop-i : goal.invariant-others_keep-loop-i
invariant-others_keep-loop-i l =
    keep_low l.room l.opened false (nodes_from l.i (nodes_of l.kids)) ≡ keep_low l.room l.opened false (nodes_from 1 (nodes_of l.kids))
