use Rattle.std.proofs.Common.{◌≡◌, ◌≤◌, length, take}
use Rattle.hare_copies.proofs.trees.+copy.Given as goal

abbrev pub decreases-copy_tree : goal.decreases-copy_tree
decreases-copy_tree l = goal.size-copy_tree l

abbrev pub decreases-copy_kids : goal.decreases-copy_kids
decreases-copy_kids l = goal.size-copy_kids l

abbrev pub invariant-copy_kids-loop-i : goal.invariant-copy_kids-loop-i
invariant-copy_kids-loop-i l = record {
  within : l.i ≤ length l.ts;
  copied : l.copy ≡ take l.i l.ts;
}
