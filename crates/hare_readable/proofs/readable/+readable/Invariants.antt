use Rattle.std.proofs.Common.{◌≤◌, length, take}
use Rattle.hare_steps.specs.Plans.{listing}
use Rattle.hare_readable.specs.Heads.{InKids, IsReadableHead}
use Rattle.hare_readable.proofs.readable.+readable.Given as goal

abbrev pub decreases-is_tree_readable : goal.decreases-is_tree_readable
decreases-is_tree_readable l = goal.size-is_tree_readable l

abbrev pub decreases-are_kids_readable : goal.decreases-are_kids_readable
decreases-are_kids_readable l = goal.size-are_kids_readable l

-- the trees so far are so
abbrev pub invariant-are_kids_readable-loop-i : goal.invariant-are_kids_readable-loop-i
invariant-are_kids_readable-loop-i l = record {
  within : l.i ≤ length l.ts;
  readable : InKids (IsReadableHead (listing l.names l.files) l.known) (take l.i l.ts);
}
