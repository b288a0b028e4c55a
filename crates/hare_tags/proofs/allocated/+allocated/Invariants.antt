use Rattle.std.proofs.Common.{◌≡◌, ◌++◌, drop}
use Rattle.hare_typed.specs.Typed.{typed_nodes, size_of, sizes_of}
use Rattle.hare_tags.specs.Lists.{allocated_among}
use Rattle.hare_tags.proofs.allocated.+allocated.Given as goal

abbrev pub decreases-push_allocated : goal.decreases-push_allocated
decreases-push_allocated l = size_of l.t.now

abbrev pub decreases-push_allocated_among : goal.decreases-push_allocated_among
decreases-push_allocated_among l = sizes_of (typed_nodes l.kids.now)

-- what has been put, and what is left to be put
abbrev pub invariant-push_allocated_among-loop-i : goal.invariant-push_allocated_among-loop-i
invariant-push_allocated_among-loop-i l =
    l.types.items ++ allocated_among l.s (typed_nodes (drop l.i l.kids))
    ≡ l.initial.types.items ++ allocated_among l.s (typed_nodes l.kids)
