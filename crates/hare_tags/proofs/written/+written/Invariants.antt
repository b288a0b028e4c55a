use Rattle.std.proofs.Common.{◌≡◌, ◌++◌, drop}
use Rattle.hare_typed.specs.Typed.{typed_nodes, size_of, sizes_of}
use Rattle.hare_whole.specs.Tags.{written_among}
use Rattle.hare_tags.proofs.written.+written.Given as goal

abbrev pub decreases-push_written : goal.decreases-push_written
decreases-push_written l = size_of l.t.now

abbrev pub decreases-push_written_among : goal.decreases-push_written_among
decreases-push_written_among l = sizes_of (typed_nodes l.kids.now)

-- what has been put, and what is left to be put
abbrev pub invariant-push_written_among-loop-i : goal.invariant-push_written_among-loop-i
invariant-push_written_among-loop-i l =
    l.types.items ++ written_among l.s l.are_members (typed_nodes (drop l.i l.kids))
    ≡ l.initial.types.items ++ written_among l.s l.are_members (typed_nodes l.kids)
