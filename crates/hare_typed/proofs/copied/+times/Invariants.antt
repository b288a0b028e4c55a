use Rattle.std.proofs.Common.{◌≡◌, ◌+◌, ◌*◌, drop}
use Rattle.hare_typed.specs.Typed.{typed_nodes, size_of, sizes_of}
use Rattle.hare_typed.proofs.CopyLemmas.{kids_times}
use Rattle.hare_typed.proofs.copied.+times.Given as goal

abbrev pub decreases-times_in : goal.decreases-times_in
decreases-times_in l = 2 * size_of l.t.now

abbrev pub decreases-times_among : goal.decreases-times_among
decreases-times_among l = 2 * sizes_of (typed_nodes l.kids.now)

abbrev pub decreases-times_in_kid : goal.decreases-times_in_kid
decreases-times_in_kid l = 2 * size_of l.t.now + 1

-- what is found in the kids that are left is what is found in all
abbrev pub invariant-times_among-loop-i : goal.invariant-times_among-loop-i
invariant-times_among-loop-i l = kids_times l.is_block l.node (drop l.i l.kids) ≡ kids_times l.is_block l.node l.kids
